use Rattle.std.proofs.Common.{sym, ◌∙◌, ap, length}
use Rattle.pv_board.proofs.desk.Desk.box_of.Goals as goal

pub box_of-requires : goal.box_of-requires
box_of-requires g c = record { dims = c.requires.dims ∙ sym c.used-used.ensures.opening.places ∙ sym (ap length c.used-used.ensures.core.root_is) }
