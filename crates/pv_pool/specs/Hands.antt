-- What a pass of a deque knows, and the rule of a deque.
use Rattle.std.specs.Prelude.{◌≡◌, ℕ, ◌+◌, List, []}
use Rattle.std.specs.List.{sum_by}
use mathlib.Core.Option.{some}
use lib.ListN.{get_elem?}
use Rattle.pv_pool.specs.declared.deque.Hand.{Hand}
use Rattle.pv_tree.specs.declared.limit.TheConstants.{MOST_WORKERS}

-- two lists have the same jobs, each as often, in whatever order
abbrev pub SameBag : {J : Type 0} → List J → List J → Type 0
SameBag {J} xs ys = (h : J → ℕ) → sum_by h xs ≡ sum_by h ys

abbrev pub hand : {J : Type 0} → ℕ → List J → List J → Hand J
hand parts pushed taken = record { parts = parts; pushed = pushed; taken = taken }

module _ {J : Type 0} where
  abbrev pub parts_of : Hand J → ℕ
  parts_of v = v.parts

  abbrev pub pushed_of : (J → ℕ) → Hand J → ℕ
  pushed_of h v = sum_by h v.pushed

  abbrev pub taken_of : (J → ℕ) → Hand J → ℕ
  taken_of h v = sum_by h v.taken

  -- a pass with no part has pushed and taken nothing
  abbrev pub IdleIsEmpty : List (Hand J) → Type 0
  IdleIsEmpty views = (port : ℕ) (v : Hand J) → get_elem? views port ≡ some v → v.parts ≡ 0 → (v.pushed ≡ []) × (v.taken ≡ [])

  -- the jobs pushed are, as bags, those taken and those that the deque holds
  abbrev pub Balanced : List J → List (Hand J) → Type 0
  Balanced items views =
      (sum_by parts_of views ≡ MOST_WORKERS)
      × ((h : J → ℕ) → sum_by (pushed_of h) views ≡ sum_by (taken_of h) views + sum_by h items)
      × IdleIsEmpty views
