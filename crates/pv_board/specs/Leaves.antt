-- Open leaves, issued or free.
use Rattle.std.specs.Prelude.{◌≡◌, ℕ, ◌+◌, ◌-◌, ◌<◌, ◌≤◌, Bool, true, false, if◌then◌else◌, List, [], ◌∷◌, ◌++◌, take, drop, length, vec_capacity}
use Rattle.slab.specs.Slab.{values}
use Rattle.pv_interval.specs.Bounds.{Bounds}
use Rattle.pv_tree.specs.Trees.{Tree, Seen, opens}
use Rattle.pv_tree.specs.Stages.{Rule}
use Rattle.pv_board.specs.declared.mark.Mark.{Mark}
use Rattle.pv_board.specs.declared.leaves.Leaves.{Leaves}
use Rattle.pv_board.specs.Marks.{weigh, issued, granted, HasMore}
use Rattle.pv_board.specs.Rules.{settled_in}
use Rattle.pv_board.specs.Core.{Core, IsOpening, IsCore}
use Rattle.pv_board.specs.Events.{free_units, fresh, Swaps}
use Rattle.pv_board.specs.declared.ticket.TheConstants.{MOST_GRANT}

abbrev pub marks_of : Leaves → List Mark
marks_of l = values l.marks.slots

-- There is room for a mark for each unit.
pub record HasRoom (l : Leaves) : Type 0 where
  pub for_marks : issued (marks_of l) + granted (marks_of l) + l.left ≤ l.marks.slots.capacity

-- The free leaves and the issued ones together are the open leaves.
abbrev pub AreOpen : Leaves → Tree → Type 0
AreOpen l t = (f : List Bool → ℕ) → weigh f l.free.items + weigh (λ m. f m.path) (marks_of l) ≡ weigh f (opens t)

-- Paths were added, the first of them issued with no grant, as many as may be, and the others free.
pub record AreOffered (old new : Leaves) (ps : List (List Bool)) : Type 0 where
  pub free : new.free.items ≡ old.free.items ++ drop (free_units old.stopped old.left) ps
  pub marks : (f : Mark → ℕ) → weigh f (marks_of new) ≡ weigh f (marks_of old) + weigh (λ p. f (fresh p)) (take (free_units old.stopped old.left) ps)
  pub left : new.left + length (take (free_units old.stopped old.left) ps) ≡ old.left
  pub stopped : new.stopped ≡ old.stopped
  pub room : HasRoom new
  pub for_free : vec_capacity new.free ≡ vec_capacity old.free

-- A free leaf was issued with no grant.
pub record IsIssued (old new : Leaves) (t : Mark) : Type 0 where
  pub may : 0 < free_units old.stopped old.left
  pub free : old.free.items ≡ new.free.items ++ t.path ∷ []
  pub ticket : t ≡ fresh t.path
  pub marks : HasMore (marks_of old) t (marks_of new)
  pub left : new.left + 1 ≡ old.left
  pub stopped : new.stopped ≡ old.stopped
  pub room : HasRoom new
  pub for_free : vec_capacity new.free ≡ vec_capacity old.free

-- A mark was taken away, and its units are left again but for those that are spent.
pub record IsClosed (old new : Leaves) (t : Mark) (spent : ℕ) : Type 0 where
  pub free : new.free.items ≡ old.free.items
  pub marks : HasMore (marks_of new) t (marks_of old)
  pub left : new.left + spent ≡ old.left + 1 + t.grant
  pub stopped : new.stopped ≡ old.stopped
  pub room : HasRoom new
  pub for_free : vec_capacity new.free ≡ vec_capacity old.free

-- A mark became another, by so many units of what was left.
pub record IsRaised (old new : Leaves) (t u : Mark) (units : ℕ) : Type 0 where
  pub free : new.free.items ≡ old.free.items
  pub marks : Swaps (marks_of old) t u (marks_of new)
  pub left : new.left + units ≡ old.left
  pub stopped : new.stopped ≡ old.stopped
  pub room : HasRoom new
  pub for_free : vec_capacity new.free ≡ vec_capacity old.free

-- An issued leaf is free again, and all its units are left again.
pub record IsFreed (old new : Leaves) (t : Mark) : Type 0 where
  pub free : new.free.items ≡ old.free.items ++ t.path ∷ []
  pub marks : HasMore (marks_of new) t (marks_of old)
  pub left : new.left ≡ old.left + 1 + t.grant
  pub stopped : new.stopped ≡ old.stopped
  pub room : HasRoom new
  pub for_free : vec_capacity new.free ≡ vec_capacity old.free

-- A board's state by its parts.
abbrev pub seen : Seen → Leaves → ℕ → ℕ → Core
seen p l used steps = record { root = p.root; tree = p.tree; spare = p.spare; marks = marks_of l; used = used; left = l.left; stopped = l.stopped; steps = steps }

-- What holds of the parts of every board.
pub record IsBoard (rule : Rule) (depth dims : ℕ) (root : List Bounds) (opening : Tree) (budget limit : ℕ) (c : Core) (l : Leaves) : Type 0 where
  pub opens_right : IsOpening rule depth dims root opening
  pub core : IsCore rule depth root opening budget limit c
  pub leaves : AreOpen l c.tree
  pub few_grants : weigh (λ m. m.grant - MOST_GRANT) (marks_of l) ≡ 0
  pub room : HasRoom l
  pub for_free : settled_in c.tree + issued c.marks + granted c.marks + c.left < vec_capacity l.free

-- The children of a leaf that was cut.
abbrev pub children_of : List Bool → Bool → List (List Bool)
children_of p cuts = if cuts then (p ++ false ∷ []) ∷ (p ++ true ∷ []) ∷ [] else []
