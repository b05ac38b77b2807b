use Rattle.pv_project.proofs.Meets.{meet_from}
use Rattle.pv_project.proofs.order.meet_between.Goals as goal

pub returns : goal.returns
returns c =
    let p = meet_from c.args.x c.args.lo c.args.hi c.lo.ensures.interval c.requires.lo_open c.requires.hi_open in cc
