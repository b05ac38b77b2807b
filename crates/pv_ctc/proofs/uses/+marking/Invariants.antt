use Rattle.std.proofs.Common.{◌+◌, ◌*◌}
use Rattle.pv_expr.specs.Terms.{term_of, node_count}
use Rattle.pv_ctc.proofs.uses.+marking.Given as goal

abbrev pub decreases-mark : goal.decreases-mark
decreases-mark l = 2 * node_count (term_of l.e.now)

abbrev pub decreases-mark_both : goal.decreases-mark_both
decreases-mark_both l = 2 * (node_count (term_of l.a.now) + node_count (term_of l.b.now)) + 1
