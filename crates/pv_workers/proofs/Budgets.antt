-- A budget is enough exactly where the full tree needs no more of it.
use Rattle.std.proofs.Common.{◌≡◌, inl, inr, ℕ, ◌+◌, ◌-◌, ◌<◌, ◌≤◌, Bool, List, [], ◌∷◌, length, refl, sym, ap, arith}
use Rattle.std.specs.Prelude.{Option, Some, None, ◌≢◌, ◌↔◌}
use Rattle.pv_interval.specs.Bounds.{Bounds}
use Rattle.pv_interval.specs.Points.{Point}
use Rattle.pv_box.specs.Boxes.{IsBox}
use Rattle.pv_tree.specs.Trees.{Tree, leaf, opens, first, subtree, graft, settled, box_of, Paves}
use Rattle.pv_tree.specs.Stages.{Rule, full_of, IsStage}
use Rattle.pv_tree.specs.Laws.{IsLawful}
use Rattle.pv_tree.proofs.StageLaws.{step_stage, whole_stage}
use Rattle.pv_tree.proofs.TreeFacts.{settled_more}
use Rattle.pv_tree.proofs.Searches.{some_is}
use Rattle.pv_board.specs.Rules.{settled_in}
use Rattle.pv_workers.specs.Pavings.{FullFits, IsSpent}
use Rattle.pv_board.proofs.Growth.{grows_settled}
use Rattle.pv_workers.proofs.Shares.{part_most}

-- the first of a list that is empty, or isn't
pub no_first : (ps : List (List Bool)) → first ps ≡ None → ps ≡ []
no_first [] e = refl
no_first (p ∷ ps) e = cc

none_some : (p : List Bool) → None ≡ Some p → ⊥
none_some p e = cc

cons_nil : (q : List Bool) (ps : List (List Bool)) → q ∷ ps ≡ [] → ⊥
cons_nil q ps e = cc

-- where a leaf is open, the whole budget was spent
pub spent_of : (budget : ℕ) (opening t : Tree) → IsSpent budget opening t → opens t ≢ [] → settled_in t ≡ settled_in opening + budget
spent_of budget opening t (inl spent) open_left = spent
spent_of budget opening t (inr done) open_left = absurd (open_left done.0)

module _ (rule : Rule) (depth dims : ℕ) (inside : Point → Type 0) (laws : IsLawful rule depth dims inside) where
  -- where a leaf is open the full tree has more settled nodes
  pub more_in_full : (b : List Bounds) (opening t : Tree) (p : List Bool) → IsBox b → length b ≡ dims → Paves b opening → IsStage rule depth b opening t → subtree t p ≡ Some leaf
      → settled_in t < settled_in (full_of rule depth b opening 0)
  more_in_full b opening t p h e paves stage open_leaf =
      let o = rule (box_of b t p) (depth - length p) (length p) in
      let next : IsStage rule depth b opening (graft t p (settled o)) = step_stage rule depth dims inside laws opening t b p h e paves stage open_leaf in
      let one : settled_in (graft t p (settled o)) ≡ settled_in t + 1 = settled_more t p o open_leaf in
      let most : settled_in (graft t p (settled o)) ≤ settled_in (full_of rule depth b opening 0) = grows_settled (graft t p (settled o)) (full_of rule depth b opening 0) next.grows in
      omega arith

  pub full_fits : (b : List Bounds) (opening t : Tree) (budget : ℕ) → IsStage rule depth b opening t → opens t ≡ [] → settled_in t ≤ settled_in opening + budget
      → FullFits rule depth b opening budget
  full_fits b opening t budget stage none few =
      let same : settled_in t ≡ settled_in (full_of rule depth b opening 0) = ap settled_in (whole_stage rule depth dims inside laws b opening t stage none) in
      omega arith

  pub full_exceeds : (b : List Bounds) (opening t : Tree) (p : List Bool) (budget : ℕ) → IsBox b → length b ≡ dims → Paves b opening → IsStage rule depth b opening t
      → subtree t p ≡ Some leaf → settled_in t ≡ settled_in opening + budget → FullFits rule depth b opening budget → ⊥
  full_exceeds b opening t p budget h e paves stage open_leaf spent fits =
      let more : settled_in t < settled_in (full_of rule depth b opening 0) = more_in_full b opening t p h e paves stage open_leaf in
      absurd (omega arith)

  none_open : (t : Tree) (o : Option (List Bool)) → o ≡ first (opens t) → (b : List Bounds) (opening : Tree) (budget : ℕ) → IsBox b → length b ≡ dims → Paves b opening
      → IsStage rule depth b opening t → settled_in t ≡ settled_in opening + budget → FullFits rule depth b opening budget → opens t ≡ []
  none_open t None e b opening budget h places paves stage spent fits = no_first (opens t) (sym e)
  none_open t (Some p) e b opening budget h places paves stage spent fits =
      absurd (full_exceeds b opening t p budget h places paves stage (some_is t (Some p) e) spent fits)

  all_done : (b : List Bounds) (opening t : Tree) (budget : ℕ) → IsBox b → length b ≡ dims → Paves b opening → IsStage rule depth b opening t
      → IsSpent budget opening t → FullFits rule depth b opening budget → opens t ≡ []
  all_done b opening t budget h places paves stage (inl spent) fits = none_open t (first (opens t)) refl b opening budget h places paves stage spent fits
  all_done b opening t budget h places paves stage (inr done) fits = done.0

  -- no leaf is left open exactly where the budget is enough
  pub fits_of : (b : List Bounds) (opening t : Tree) (budget : ℕ) → IsBox b → length b ≡ dims → Paves b opening → IsStage rule depth b opening t → IsSpent budget opening t
      → (opens t ≡ []) ↔ FullFits rule depth b opening budget
  fits_of b opening t budget h places paves stage spent = (
    λ none. full_fits b opening t budget stage none (part_most budget opening t spent),
    λ fits. all_done b opening t budget h places paves stage spent fits,
  )
