use Rattle.std.proofs.Common.{◌≡◌, Some}
use Rattle.pv_tree.specs.Trees.{subtree, leaf}
use Rattle.test_board.proofs.seeded.some_open.Given as goal

abbrev pub invariant-loop : goal.invariant-loop
invariant-loop l = record {
  is_open : subtree l.paving.tree l.path ≡ Some leaf;
}
