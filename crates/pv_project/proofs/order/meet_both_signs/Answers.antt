use Rattle.pv_project.proofs.Meets.{negated_between}
use Rattle.pv_project.proofs.order.meet_both_signs.Goals as goal

pub returns : goal.returns
returns c = let p = negated_between c.args.lo c.args.hi in cc
