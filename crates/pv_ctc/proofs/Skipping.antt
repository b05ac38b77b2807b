-- Passing over clean constraints changes nothing.
use Rattle.std.proofs.Common.{◌≡◌, ◌≢◌, ℕ, zero, suc, ◌+◌, ◌<◌, List, [], ◌∷◌, length, refl, ap, sym, ◌∙◌, subst, arith, drop, eqb-true}
use Rattle.std.specs.Prelude.{Option, Some, None, Bool, true, false, ◌||◌, nat_eq, cond, map}
use Rattle.std.proofs.lemmas.Bool.{true≢false}
use Rattle.pv_interval.specs.Bounds.{Bounds}
use Rattle.pv_hc4.specs.Chain.{chain}
use Rattle.pv_hc4.specs.Revise.{Sides, revised}
use Rattle.pv_ctc.specs.Contracting.{Effect, side_at, in_order, turns_of, all_revised}
use Rattle.pv_ctc.specs.Revisions.{Revision, Passage, is_clean, onward, revision, turn_from, whole_turn, unless_same, passage, same_box, same_places}
use Rattle.pv_ctc.proofs.Cleaning.{and_second, kept_clean, changed_clean}
use Rattle.pv_ctc.proofs.Lengths.{revised_length}
use Rattle.pv_ctc.proofs.Locality.{stays}
use Rattle.pv_ctc.proofs.Passing.{turn_is, turn_revised, drop_all, unless_left, unless_none}
use Rattle.pv_ctc.proofs.Sameness.{box_is, box_refl, alike_everywhere}
use Rattle.pv_ctc.proofs.Turns.{chain_some, chain_none, constraints_step, turns_stay}
use Rattle.std.proofs.lemmas.Option.{same_Some}

-- each clean constraint would keep the box
abbrev KeepClean : List Sides → List Revision → List Bounds → Type 0
KeepClean ss made b = (k : ℕ) → k < length ss → is_clean ss made k ≡ true → revised (side_at ss k) b ≡ Some b

either : (t u : Bool) (P : Type 0) → (t || u) ≡ true → (t ≡ true → P) → (u ≡ true → P) → P
either true u P h f g = f refl
either false u P h f g = g h

keep_on : (ss : List Sides) (made : List Revision) (i : ℕ) (b d : List Bounds) → i < length ss → revised (side_at ss i) b ≡ Some d → KeepClean ss made b → KeepClean ss (revision i (side_at ss i) b ∷ made) d
keep_on ss made i b d l e h = go (same_box b d) refl
  where
    same : d ≡ b → KeepClean ss (revision i (side_at ss i) b ∷ made) b
    same p k m c =
        let s : revised (side_at ss i) b ≡ Some b = e ∙ ap Some p in
        either (nat_eq i k) (is_clean ss made k) (revised (side_at ss k) b ≡ Some b) (sym (kept_clean ss made i k b (revised (side_at ss i) b) s) ∙ c)
        (λ t. subst (λ j. revised (side_at ss j) b ≡ Some b) (eqb-true i k t) s) (λ t. h k m t)

    other : d ≢ b → KeepClean ss (revision i (side_at ss i) b ∷ made) d
    other n k m c =
        let p = and_second (is_clean ss made k) (same_places 0 (side_at ss k) b d) (sym (changed_clean ss made i k b d (revised (side_at ss i) b) e n) ∙ c) in
        let q = sym (revised_length (side_at ss i) b d e) in
        stays (side_at ss k) b d q (alike_everywhere (side_at ss k) b d q p.1) (h k m p.0)

    go : (t : Bool) → same_box b d ≡ t → KeepClean ss (revision i (side_at ss i) b ∷ made) d
    go true t = let p = box_is b d t in subst (KeepClean ss (revision i (side_at ss i) b ∷ made)) p (same (sym p))
    go false t = other (λ p. true≢false (sym (subst (λ x. same_box b x ≡ true) (sym p) (box_refl b)) ∙ t))

-- a turn comes to o, and then each clean constraint would keep what is left
record TurnsTo (ss : List Sides) (p : Passage) (o : Option (List Bounds)) : Type 0 where
  pub left : p.left ≡ o
  pub clean : (d : List Bounds) → o ≡ Some d → KeepClean ss p.made d

turns_to : (ss : List Sides) (p r : Passage) (o u : Option (List Bounds)) → p ≡ r → o ≡ u → TurnsTo ss r u → TurnsTo ss p o
turns_to ss p r o u e f h = subst (λ x. TurnsTo ss x o) (sym e) (subst (TurnsTo ss r) (sym f) h)

by_answer : (ss : List Sides) (made : List Revision) (o : Option (List Bounds)) (steps : List Bounds → Passage) (f : Effect) → ((d : List Bounds) → o ≡ Some d → TurnsTo ss (steps d) (f d)) → TurnsTo ss (onward made o steps) (chain o f)
by_answer ss made None steps f h = record { left = refl; clean = λ d e. absurd (cc) }
by_answer ss made (Some d) steps f h = h d refl

turn_leaves : (n : ℕ) (ss : List Sides) (i : ℕ) (made : List Revision) (b : List Bounds) → n + i ≡ length ss → KeepClean ss made b → TurnsTo ss (turn_from ss i (drop i ss) made b) (in_order (map revised (drop i ss)) b)
turn_leaves zero ss i made b e h =
    subst (λ xs. TurnsTo ss (turn_from ss i xs made b) (in_order (map revised xs) b)) (sym (drop_all ss i (omega arith)))
    (record { left = refl; clean = λ d f. subst (KeepClean ss made) (same_Some b d f) h })
turn_leaves (suc n) ss i made b e h =
    let l : i < length ss = omega arith in
    let m : n + (i + 1) ≡ length ss = omega arith in
    by_mark ss i made b l h (λ more d k. turn_leaves n ss (i + 1) more d m k) (is_clean ss made i) refl
  where
    by_mark : (ss : List Sides) (i : ℕ) (made : List Revision) (b : List Bounds) → i < length ss → KeepClean ss made b → ((more : List Revision) (d : List Bounds) → KeepClean ss more d → TurnsTo ss (turn_from ss (i + 1) (drop (i + 1) ss) more d) (in_order (map revised (drop (i + 1) ss)) d)) → (t : Bool) → is_clean ss made i ≡ t → TurnsTo ss (turn_from ss i (drop i ss) made b) (in_order (map revised (drop i ss)) b)
    by_mark ss i made b l h f true t =
        turns_to ss (turn_from ss i (drop i ss) made b) (turn_from ss (i + 1) (drop (i + 1) ss) made b) (in_order (map revised (drop i ss)) b) (in_order (map revised (drop (i + 1) ss)) b)
        (turn_is ss i made b l ∙ ap (λ u. cond u (turn_from ss (i + 1) (drop (i + 1) ss) made b) (onward (revision i (side_at ss i) b ∷ made) (revised (side_at ss i) b) (turn_from ss (i + 1) (drop (i + 1) ss) (revision i (side_at ss i) b ∷ made)))) t)
        (constraints_step ss i b l ∙ chain_some (revised (side_at ss i) b) b (in_order (map revised (drop (i + 1) ss))) (h i l t))
        (f made b h)
    by_mark ss i made b l h f false t =
        let more = revision i (side_at ss i) b ∷ made in
        turns_to ss (turn_from ss i (drop i ss) made b) (onward more (revised (side_at ss i) b) (turn_from ss (i + 1) (drop (i + 1) ss) more)) (in_order (map revised (drop i ss)) b) (chain (revised (side_at ss i) b) (in_order (map revised (drop (i + 1) ss))))
        (turn_revised ss i made b l t) (constraints_step ss i b l)
        (by_answer ss more (revised (side_at ss i) b) (turn_from ss (i + 1) (drop (i + 1) ss) more) (in_order (map revised (drop (i + 1) ss))) (λ d e. f more d (keep_on ss made i b d l e h)))

passage_leaves : (n : ℕ) (ss : List Sides) (made : List Revision) (b : List Bounds) → KeepClean ss made b → (passage n ss made b).left ≡ turns_of n (all_revised ss) b
passage_leaves zero ss made b h = refl
passage_leaves (suc n) ss made b h =
    let m : length ss + 0 ≡ length ss = omega arith in
    by_turn n ss b (whole_turn ss made b) (turn_leaves (length ss) ss 0 made b m h) (λ more c k. passage_leaves n ss more c k) (whole_turn ss made b).left refl
  where
    by_turn : (n : ℕ) (ss : List Sides) (b : List Bounds) (w : Passage) → TurnsTo ss w (all_revised ss b) → ((more : List Revision) (c : List Bounds) → KeepClean ss more c → (passage n ss more c).left ≡ turns_of n (all_revised ss) c) → (o : Option (List Bounds)) → w.left ≡ o → (unless_same b w (passage n ss)).left ≡ chain (all_revised ss b) (turns_of n (all_revised ss))
    by_turn n ss b w t f None e =
        ap (λ (p : Passage). p.left) (unless_none b w (passage n ss) e) ∙ sym (chain_none (all_revised ss b) (turns_of n (all_revised ss)) (sym t.left ∙ e))
    by_turn n ss b w t f (Some c) e =
        let all : all_revised ss b ≡ Some c = sym t.left ∙ e in
        ap (λ (p : Passage). p.left) (unless_left b c w (passage n ss) e)
        ∙ by_test n ss b c w e all (f w.made c (t.clean c all)) (same_box b c) refl
        ∙ sym (chain_some (all_revised ss b) c (turns_of n (all_revised ss)) all)
      where
        by_test : (n : ℕ) (ss : List Sides) (b c : List Bounds) (w : Passage) → w.left ≡ Some c → all_revised ss b ≡ Some c → (passage n ss w.made c).left ≡ turns_of n (all_revised ss) c → (t : Bool) → same_box b c ≡ t → (cond (same_box b c) w (passage n ss w.made c)).left ≡ turns_of n (all_revised ss) c
        by_test n ss b c w e all f true t =
            let p = box_is b c t in
            ap (λ u. (cond u w (passage n ss w.made c)).left) t ∙ e
            ∙ sym (turns_stay n (all_revised ss) c (subst (λ x. all_revised ss x ≡ Some c) p all))
        by_test n ss b c w e all f false t = ap (λ u. (cond u w (passage n ss w.made c)).left) t ∙ f

pub passage-leaves : (n : ℕ) (ss : List Sides) (b : List Bounds) → (passage n ss [] b).left ≡ turns_of n (all_revised ss) b
passage-leaves n ss b = passage_leaves n ss [] b (λ k l h. absurd (true≢false (sym h)))
