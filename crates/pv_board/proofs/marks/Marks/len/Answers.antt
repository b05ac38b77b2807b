use Rattle.std.proofs.Common.{◌∙◌}
use Rattle.pv_board.proofs.Slots.{counted}
use Rattle.pv_board.proofs.marks.Marks.len.Goals as goal

pub returns : goal.returns
returns c = record { count = c.len.ensures ∙ counted c.args.self.now.slots }
