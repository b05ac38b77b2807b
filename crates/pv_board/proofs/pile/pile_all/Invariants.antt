use Rattle.std.proofs.Common.{◌≡◌, ◌-◌, Some, length}
use Rattle.std.specs.Prelude.{IfSome, vec_capacity}
use Rattle.pv_tree.specs.Trees.{leaf, subtree, opens}
use Rattle.pv_board.proofs.Preorder.{AreListed}
use Rattle.pv_board.proofs.pile.pile_all.Given as goal

abbrev pub invariant-loop-next : goal.invariant-loop-next
invariant-loop-next l = record {
  there : IfSome l.next (λ p. subtree l.paving.tree p ≡ Some leaf);
  listed : AreListed l.paving.tree l.free.items l.next;
  room : vec_capacity l.free ≡ vec_capacity l.fn.free;
}

abbrev pub decreases-loop-next : goal.decreases-loop-next
decreases-loop-next l = length (opens l.paving.tree) - length l.free.items
