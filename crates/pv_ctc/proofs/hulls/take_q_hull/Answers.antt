use Rattle.std.proofs.Common.{length, sym, ◌∙◌, rules}
use Rattle.pv_ctc.proofs.Boxes.{q_hull_length}
use Rattle.pv_ctc.proofs.hulls.take_q_hull.Goals as goal

pub replace-requires : goal.replace-requires
replace-requires c = q_hull_length c.args.q (length c.args.bx.now) c.args.found.now c.in-Some.hull c.requires.dims (search rules) (sym c.in_ok-hull.ensures ∙ c.in-Some.is)
