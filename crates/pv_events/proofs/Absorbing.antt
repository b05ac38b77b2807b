-- What absorbing a stage does to a board.
use Rattle.std.proofs.Common.{◌≡◌, ◌⊎◌, ℕ, zero, suc, ◌<◌, ◌≤◌, Bool, true, false, Some, None, List, [], ◌∷◌, ◌++◌, refl, sym, ◌∙◌, ap, arith, inl, inr}
use Rattle.pv_interval.specs.Bounds.{Bounds}
use Rattle.pv_tree.specs.Trees.{Tree, leaf, removed, inner, small, cut, subtree, outcome_at, opens}
use Rattle.pv_tree.specs.Stages.{Rule, Grows, full_of}
use Rattle.pv_tree.proofs.StageLaws.{grows_on}
use Rattle.pv_join.specs.Joins.{settled_side}
use Rattle.pv_join.proofs.JoinFacts.{side_some, side_left}
use Rattle.pv_board.specs.declared.mark.Mark.{Mark}
use Rattle.pv_board.specs.Marks.{times, holds, marked, issued, granted}
use Rattle.pv_board.specs.Core.{Core, IsCore}
use Rattle.pv_board.proofs.Growth.{open_once}
use Rattle.pv_board.proofs.Marked.{marked_holds}
use Rattle.pv_events.specs.Steps.{IsTakenIn}
use Rattle.pv_events.proofs.Marked.{held_marked}
use Rattle.pv_events.proofs.Keeping.{core_by}

-- a path is apart from all at which something is held, or stands at or below one
abbrev Apart : (List Bool → ℕ) → List Bool → Type 0
Apart f p = (q r : List Bool) → p ≡ q ++ r → f q ≡ 0

abbrev Below : (List Bool → ℕ) → List Bool → Type 0
Below f p = (q : List Bool) × (r : List Bool) × (p ≡ q ++ r) × (0 < f q)

apart_root : (f : List Bool → ℕ) → f [] ≡ 0 → Apart f []
apart_root f z [] r e = z
apart_root f z (c ∷ q) r e = cc

apart_more : (f : List Bool → ℕ) (b : Bool) (p : List Bool) → f [] ≡ 0 → Apart (λ q. f (b ∷ q)) p → Apart f (b ∷ p)
apart_more f b p z h [] r e = z
apart_more f b p z h (c ∷ q) r e =
    let i : b ≡ c = cc in let j : p ≡ q ++ r = cc in ap (λ (d : Bool). f (d ∷ q)) (sym i) ∙ h q r j

apart_or : (f : List Bool → ℕ) (p : List Bool) → Apart f p ⊎ Below f p
apart_or f [] = go (f []) refl
  where
    go : (n : ℕ) → f [] ≡ n → Apart f [] ⊎ Below f []
    go zero e = inl (apart_root f e)
    go (suc n) e = inr ([], [], refl, omega (arith, e))
apart_or f (b ∷ p) = go (f []) refl (apart_or (λ (q : List Bool). f (b ∷ q)) p)
  where
    go : (n : ℕ) → f [] ≡ n → Apart (λ q. f (b ∷ q)) p ⊎ Below (λ q. f (b ∷ q)) p → Apart f (b ∷ p) ⊎ Below f (b ∷ p)
    go (suc n) e h = inr ([], b ∷ p, refl, omega (arith, e))
    go zero e (inl h) = inl (apart_more f b p e h)
    go zero e (inr h) = inr (b ∷ h.0, h.1, ap (λ (q : List Bool). b ∷ q) h.2, h.3)

-- below a leaf nothing is settled
leaf_below : (t : Tree) (q r : List Bool) → subtree t q ≡ Some leaf → outcome_at t (q ++ r) ≡ None
leaf_below leaf [] [] e = refl
leaf_below leaf [] (b ∷ r) e = refl
leaf_below removed [] r e = cc
leaf_below (inner to) [] r e = cc
leaf_below (small to) [] r e = cc
leaf_below (cut to v a x y) [] r e = cc
leaf_below (cut to v a x y) (true ∷ q) r e = leaf_below y q r e
leaf_below (cut to v a x y) (false ∷ q) r e = leaf_below x q r e
leaf_below leaf (b ∷ q) r e = cc
leaf_below removed (b ∷ q) r e = cc
leaf_below (inner to) (b ∷ q) r e = cc
leaf_below (small to) (b ∷ q) r e = cc

module _ (rule : Rule) (depth : ℕ) (root : List Bounds) (opening : Tree) (budget limit : ℕ) (old new : Core) (stage : Tree) (added : ℕ)
    (h : IsCore rule depth root opening budget limit old) (k : IsTakenIn rule depth root opening limit old new stage added) where
  -- what stands at a path afterwards
  abbrev IsNow : List Bool → Type 0
  IsNow p = (outcome_at new.tree p ≡ settled_side (outcome_at old.tree p) (outcome_at stage p)) ⊎ ((outcome_at new.tree p ≡ None) × (outcome_at old.tree p ≡ None))

  is_now : (p : List Bool) → IsNow p
  is_now p = elim (apart_or (holds old.marks) p) [
    | inl a ↦ inl (k.is.tree.others p a)
    | inr b ↦
        inr (
          ap (outcome_at new.tree) b.2 ∙ leaf_below new.tree b.0 b.1 (k.is.tree.issued b.0 b.3),
          ap (outcome_at old.tree) b.2 ∙ leaf_below old.tree b.0 b.1 (h.are_open b.0 (held_marked old.marks b.0 b.3)),
        )
  ]

  pub absorbed_grown : Grows old.tree new.tree
  absorbed_grown p o e = elim (is_now p) [
    | inl w ↦ w ∙ side_left (outcome_at old.tree p) (outcome_at stage p) o e
    | inr n ↦ let w : None ≡ Some o = sym n.1 ∙ e in cc
  ]

  absorbed_within : Grows new.tree (full_of rule depth root opening 0)
  absorbed_within p o e = elim (is_now p) [
    | inl w ↦ elim (side_some (outcome_at old.tree p) (outcome_at stage p) o (sym w ∙ e)) [ inl a ↦ h.stage.grows p o a | inr b ↦ k.due.grows p o b ]
    | inr n ↦ let w : None ≡ Some o = sym n.0 ∙ e in cc
  ]

  same_marks : new.marks ≡ old.marks
  same_marks = ap (λ (c : Core). c.marks) k.is.rest

  absorbed_marked : (q : List Bool) → marked new.marks q ≤ times q (opens new.tree)
  absorbed_marked q = let e = ap (λ (ms : List Mark). marked ms q) same_marks in go e (marked old.marks q) refl
    where
      go : marked new.marks q ≡ marked old.marks q → (n : ℕ) → marked old.marks q ≡ n → marked new.marks q ≤ times q (opens new.tree)
      go w zero e = omega (arith, w, e)
      go w (suc n) e =
          let held = marked_holds old.marks q in let d = h.distinct q in
          let o = open_once new.tree q (k.is.tree.issued q (omega (arith, held, e))) in omega (arith, w, d, o)

  pub absorbed_core : IsCore rule depth root opening budget limit new
  absorbed_core =
      let i = ap issued same_marks in let g = ap granted same_marks in
      let l : new.left ≡ old.left = ap (λ (c : Core). c.left) k.is.rest in let u : new.used ≡ old.used = ap (λ (c : Core). c.used) k.is.rest in
      let c = h.conserved in let s = h.settled in let f = k.is.few in let a = k.is.added_is in
      core_by rule depth root opening budget limit new (ap (λ (c : Core). c.root) k.is.rest ∙ h.root_is)
      (record { grown = grows_on opening old.tree new.tree h.stage.grown absorbed_grown; grows = absorbed_within }) absorbed_marked
      (λ q. let e : holds new.marks q ≡ holds old.marks q = ap (λ (ms : List Mark). holds ms q) same_marks in let n = h.grants q in omega (arith, e, n))
      (omega (arith, i, g, l, u, c)) (omega (arith, s, a, u)) (omega (arith, i, g, l, f)) k.room
