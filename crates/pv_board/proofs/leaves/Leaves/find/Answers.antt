use Rattle.std.proofs.Common.{rules}
use Rattle.pv_board.proofs.Marked.{found_current}
use Rattle.pv_board.proofs.leaves.Leaves.find.Goals as goal

pub returns-clause-current : goal.returns-clause-current
returns-clause-current c = found_current c.args.self.now.marks.slots c.args.ticket.now c.find.result (search rules) (search rules) (c.requires c.args.ticket.now.path)
