use Rattle.std.proofs.Common.{◌≡◌, ℕ, ◌≤◌, ◌++◌, take, List, Bool}
use Rattle.std.specs.Prelude.{vec_capacity}
use Rattle.pv_tree.specs.Trees.{opens}
use Rattle.pv_board.specs.Marks.{weigh}
use Rattle.pv_board.specs.Absorbing.{part_at}
use Rattle.pv_board.proofs.absorbing.leaves_below.Given as goal

abbrev pub invariant-loop-i : goal.invariant-loop-i
invariant-loop-i l = record {
  leaves : (f : List Bool → ℕ) → weigh f l.leaves.items ≡ weigh (λ p. weigh (λ q. f (p ++ q)) (opens (part_at l.paving.tree p))) (take l.i l.nodes);
  room : l.room ≤ vec_capacity l.leaves;
}
