-- What a board becomes where a stage is absorbed, and what refuses it.
use Rattle.std.specs.Prelude.{◌≡◌, ℕ, zero, suc, ◌+◌, ◌<◌, ◌≤◌, Bool, true, false, Some, None, IsSome, List, [], ◌∷◌, ◌++◌}
use Rattle.pv_tree.specs.Trees.{Tree, Seen, leaf, removed, inner, small, cut, subtree, outcome_at, box_of, opens}
use Rattle.pv_join.specs.Joins.{settled_side}
use Rattle.pv_board.specs.declared.mark.Mark.{Mark}
use Rattle.pv_board.specs.declared.absorbing.AbsorbRefused.{AbsorbRefused}
use Rattle.pv_board.specs.declared.absorbing.AbsorbRefused.TheVariants as refused
use Rattle.pv_board.specs.Marks.{weigh, times, holds, issued, granted}
use Rattle.pv_board.specs.Rules.{settled_in}
use Rattle.pv_board.specs.Core.{Core}

-- No path on the way to a node is issued, nor the node's own.
abbrev pub IsApart : List Mark → List Bool → Type 0
IsApart marks p = (q r : List Bool) → p ≡ q ++ r → holds marks q ≡ 0

-- A tree is the join of two, except that issued leaves stay open with nothing below them.
pub record IsJoinAside (marks : List Mark) (old stage new : Tree) : Type 0 where
  pub issued : (p : List Bool) → 0 < holds marks p → subtree new p ≡ Some leaf
  pub others : (p : List Bool) → IsApart marks p → outcome_at new p ≡ settled_side (outcome_at old p) (outcome_at stage p)

-- So many nodes were added by a stage, and all keeps within a limit.
pub record IsAbsorbed (limit : ℕ) (old new : Core) (stage : Tree) (added : ℕ) : Type 0 where
  pub tree : IsJoinAside old.marks old.tree stage new.tree
  pub added_is : settled_in new.tree ≡ settled_in old.tree + added
  pub few : settled_in new.tree + issued old.marks + granted old.marks + old.left ≤ limit
  pub rest : new ≡ record old { tree = new.tree; spare = new.spare }

-- So many nodes would be settled, and that would be more than a limit allows.
pub record IsTooMuch (limit : ℕ) (old : Core) (stage : Tree) (settled : ℕ) : Type 0 where
  pub tree : Tree
  pub is : IsJoinAside old.marks old.tree stage tree
  pub count : settled ≡ settled_in tree
  pub many : limit < settled + issued old.marks + granted old.marks + old.left

abbrev pub IsAbsorbRefusal : ℕ → Core → Tree → AbsorbRefused → Type 0
IsAbsorbRefusal limit old stage refused.Memory = Unit {0}
IsAbsorbRefusal limit old stage (refused.TreeLimit settled) = IsTooMuch limit old stage settled

-- The part of a tree at a path, an open leaf where the tree has no such path.
abbrev pub part_at : Tree → List Bool → Tree
part_at t p = elim (subtree t p) [ None ↦ leaf | Some s ↦ s ]

-- Each open leaf replaced, by its path.
abbrev pub filled : Tree → (List Bool → Tree) → Tree
filled leaf g = g []
filled removed g = removed
filled (inner to) g = inner to
filled (small to) g = small to
filled (cut to v a low high) g = cut to v a (filled low (λ p. g (false ∷ p))) (filled high (λ p. g (true ∷ p)))

-- A tree where it is counted, and else an open leaf.
abbrev pub if_some : ℕ → Tree → Tree
if_some zero t = leaf
if_some (suc n) t = t

-- At the paths of a list what a stage has there, and at others an open leaf.
abbrev pub filling : Tree → List (List Bool) → List Bool → Tree
filling stage ps p = if_some (times p ps) (part_at stage p)

-- The paths of a list are distinct open leaves, and a stage has the same box at each of them.
pub record CanFill (old stage : Seen) (ps : List (List Bool)) : Type 0 where
  pub are_open : (p : List Bool) → 0 < times p ps → subtree old.tree p ≡ Some leaf
  pub distinct : (p : List Bool) → times p ps ≤ 1
  pub box_is : (p : List Bool) → 0 < times p ps → IsSome (subtree stage.tree p) → box_of old.root old.tree p ≡ box_of stage.root stage.tree p

-- A tree has the paths of a list, and so many leaves below them have room.
pub record CanPileAll (t : Tree) (ps : List (List Bool)) (room : ℕ) : Type 0 where
  pub there : (p : List Bool) → 0 < times p ps → IsSome (subtree t p)
  pub few : weigh (λ p. weigh (λ q. 1) (opens (part_at t p))) ps ≤ room
