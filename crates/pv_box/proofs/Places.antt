-- The q-hull of a box from those of its places.
use Rattle.std.proofs.Common.{◌≡◌, ℕ, zero, suc, ◌+◌, ◌<◌, List, [], ◌∷◌, length, get_or, set, inl, inr, sym, ◌∙◌, ap, arith, refl}
use Rattle.std.specs.Prelude.{option_and_then, Option, Some, None}
use Rattle.std.proofs.lemmas.List.{get_or-set_same, get_or-set_other}
use Rattle.std.proofs.lemmas.Bool.{cases_eq}
use Rattle.pv_interval.specs.Bounds.{Bounds}
use Rattle.pv_box.specs.QHull.{column, place_hull_of, places_from, q_hull_of}

pub place_done : (q : ℕ) (bs : List (List Bounds)) (s new : List Bounds) (i : ℕ) (h : Bounds) → new ≡ set s i h → i < length s
    → place_hull_of q (column i bs) ≡ Some h
    → ((k : ℕ) (d : Bounds) → k < i → place_hull_of q (column k bs) ≡ Some (get_or s k d))
    → (k : ℕ) (d : Bounds) → k < i + 1 → place_hull_of q (column k bs) ≡ Some (get_or new k d)
place_done q bs s new i h e l is done k d n = elim (cases_eq k i) [
  | inl p ↦
      ap (λ w. place_hull_of q (column w bs)) p ∙ is ∙ ap Some (sym (get_or-set_same s i h d l))
      ∙ ap (λ w. Some (get_or w i d)) (sym e) ∙ ap (λ w. Some (get_or new w d)) (sym p)
  | inr p ↦ done k d (omega (arith, p)) ∙ ap Some (sym (get_or-set_other s i k h d p)) ∙ ap (λ w. Some (get_or w k d)) (sym e)
]

two_steps : (o : Option Bounds) (r : Option (List Bounds)) (x : Bounds) (xs : List Bounds) → o ≡ Some x → r ≡ Some xs
    → option_and_then (λ v. option_and_then (λ vs. Some (v ∷ vs)) r) o ≡ Some (x ∷ xs)
two_steps o r x xs e f =
    ap (λ w. option_and_then (λ v. option_and_then (λ vs. Some (v ∷ vs)) r) w) e ∙ ap (λ w. option_and_then (λ vs. Some (x ∷ vs)) w) f

pub places_is : (q : ℕ) (bs : List (List Bounds)) (c : List Bounds) (k n : ℕ) → length c ≡ n
    → ((j : ℕ) (d : Bounds) → j < n → place_hull_of q (column (k + j) bs) ≡ Some (get_or c j d))
    → places_from q k n bs ≡ Some c
places_is q bs [] k zero e h = refl
places_is q bs [] k (suc n) e h = absurd (omega arith)
places_is q bs (x ∷ c) k zero e h = absurd (omega arith)
places_is q bs (x ∷ c) k (suc n) e h =
    let z : k + 0 ≡ k = omega arith in
    two_steps (place_hull_of q (column k bs)) (places_from q (k + 1) n bs) x c
    (ap (λ w. place_hull_of q (column w bs)) (sym z) ∙ h 0 x (omega arith))
    (places_is q bs c (k + 1) n (omega arith) (λ j d l.
    let y : k + 1 + j ≡ k + suc j = omega arith in
    ap (λ w. place_hull_of q (column w bs)) y ∙ h (suc j) d (omega arith)))

no_rest : (o : Option Bounds) (r : Option (List Bounds)) → r ≡ None → option_and_then (λ v. option_and_then (λ vs. Some (v ∷ vs)) r) o ≡ None
no_rest None r e = refl
no_rest (Some v) r e = ap (λ w. option_and_then (λ vs. Some (v ∷ vs)) w) e

pub places_none : (q : ℕ) (bs : List (List Bounds)) (k n j : ℕ) → j < n → place_hull_of q (column (k + j) bs) ≡ None
    → places_from q k n bs ≡ None
places_none q bs k zero j l e = absurd (omega arith)
places_none q bs k (suc n) zero l e =
    let z : k + 0 ≡ k = omega arith in
    ap (λ w. option_and_then (λ v. option_and_then (λ vs. Some (v ∷ vs)) (places_from q (k + 1) n bs)) w)
    (ap (λ w. place_hull_of q (column w bs)) (sym z) ∙ e)
places_none q bs k (suc n) (suc j) l e =
    let y : k + 1 + j ≡ k + suc j = omega arith in
    no_rest (place_hull_of q (column k bs)) (places_from q (k + 1) n bs)
    (places_none q bs (k + 1) n j (omega arith) (ap (λ w. place_hull_of q (column w bs)) y ∙ e))

pub hull_found : (q : ℕ) (bs : List (List Bounds)) (c : List Bounds) → length c ≡ length (get_or bs 0 [])
    → ((k : ℕ) (d : Bounds) → k < length (get_or bs 0 []) → place_hull_of q (column k bs) ≡ Some (get_or c k d))
    → Some c ≡ q_hull_of q bs
unfolding q_hull_of
hull_found q bs c e h = sym (places_is q bs c 0 (length (get_or bs 0 [])) e (λ j d l.
    let y : 0 + j ≡ j = omega arith in ap (λ w. place_hull_of q (column w bs)) y ∙ h j d l))

pub hull_missing : (q : ℕ) (bs : List (List Bounds)) (i : ℕ) → i < length (get_or bs 0 []) → place_hull_of q (column i bs) ≡ None
    → None ≡ q_hull_of q bs
unfolding q_hull_of
hull_missing q bs i l e =
    let y : 0 + i ≡ i = omega arith in
    sym (places_none q bs 0 (length (get_or bs 0 [])) i l (ap (λ w. place_hull_of q (column w bs)) y ∙ e))

-- the length of a copy of the first box
pub first_length : (bs : List (List Bounds)) (hull b : List Bounds) → 0 < length bs → hull ≡ b → b ≡ get_or bs 0 b → length hull ≡ length (get_or bs 0 [])
first_length [] hull b l e f = absurd (omega arith)
first_length (x ∷ bs) hull b l e f = ap length (e ∙ f)
