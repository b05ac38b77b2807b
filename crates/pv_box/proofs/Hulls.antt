-- Boxes that agree with a hull in each place.
use Rattle.std.proofs.Common.{◌≡◌, ℕ, zero, suc, ◌+◌, ◌<◌, ◌≤◌, List, [], ◌∷◌, length, get_or, sym, ◌∙◌, ap, arith, refl}
use Rattle.std.proofs.Common.{set, inl, inr}
use Rattle.std.proofs.lemmas.List.{get_or-set_same, get_or-set_other}
use Rattle.std.proofs.lemmas.Bool.{cases_eq}
use Rattle.pv_interval.specs.Bounds.{Bounds}
use Rattle.pv_interval.specs.Tables.{hull_of}
use Rattle.pv_box.specs.Boxes.{hull_boxes}

pub hull_places : (a b c : List Bounds) → length a ≡ length b → length c ≡ length a
    → ((k : ℕ) (d : Bounds) → k < length a → get_or c k d ≡ hull_of (get_or a k d) (get_or b k d)) → c ≡ hull_boxes a b
hull_places [] b [] e f h = refl
hull_places [] b (z ∷ c) e f h = absurd (omega arith)
hull_places (x ∷ a) [] c e f h = absurd (omega arith)
hull_places (x ∷ a) (y ∷ b) [] e f h = absurd (omega arith)
hull_places (x ∷ a) (y ∷ b) (z ∷ c) e f h =
    let p : z ≡ hull_of x y = h 0 x (omega arith) in
    let q : c ≡ hull_boxes a b = hull_places a b c (omega arith) (omega arith) (λ k d l. h (suc k) d (omega arith)) in
    ap (λ w. w ∷ c) p ∙ ap (λ w. hull_of x y ∷ w) q

pub in_range : (s : List Bounds) (i : ℕ) (d e : Bounds) → i < length s → get_or s i d ≡ get_or s i e
in_range [] i d e h = absurd (omega arith)
in_range (x ∷ s) zero d e h = refl
in_range (x ∷ s) (suc i) d e h = in_range s i d e (omega arith)

pub hull_done : (a b s new : List Bounds) (i : ℕ) (h x y : Bounds) → new ≡ set s i h → i < length s → i < length b
    → h ≡ hull_of x y → x ≡ get_or s i x → y ≡ get_or b i y
    → ((k : ℕ) (d : Bounds) → k < i → get_or s k d ≡ hull_of (get_or a k d) (get_or b k d))
    → ((k : ℕ) (d : Bounds) → i ≤ k → get_or s k d ≡ get_or a k d)
    → (k : ℕ) (d : Bounds) → k < i + 1 → get_or new k d ≡ hull_of (get_or a k d) (get_or b k d)
hull_done a b s new i h x y e l m is px py done left k d n =
    ap (λ w. get_or w k d) e ∙ elim (cases_eq k i) [
      | inl q ↦
          ap (λ w. get_or (set s i h) w d) q ∙ get_or-set_same s i h d l ∙ is
          ∙ ap (λ w. hull_of w y) (px ∙ in_range s i x d l ∙ left i d (omega arith))
          ∙ ap (λ w. hull_of (get_or a i d) w) (py ∙ in_range b i y d m)
          ∙ ap (λ w. hull_of (get_or a w d) (get_or b w d)) (sym q)
      | inr q ↦ get_or-set_other s i k h d q ∙ done k d (omega (arith, q))
    ]

pub hull_left : (a s new : List Bounds) (i : ℕ) (h : Bounds) → new ≡ set s i h
    → ((k : ℕ) (d : Bounds) → i ≤ k → get_or s k d ≡ get_or a k d)
    → (k : ℕ) (d : Bounds) → i + 1 ≤ k → get_or new k d ≡ get_or a k d
hull_left a s new i h e left k d n =
    ap (λ w. get_or w k d) e ∙ get_or-set_other s i k h d (λ q. absurd (omega arith)) ∙ left k d (omega arith)
