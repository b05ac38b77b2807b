-- Narrowing one occurrence after another gives each place its meet with its targets.
use Rattle.std.proofs.Common.{◌≡◌, ◌≢◌, ℕ, zero, suc, ◌+◌, ◌<◌, List, [], ◌∷◌, length, refl, ap, sym, ◌∙◌, subst, arith, eq-eqb}
use Rattle.std.specs.Prelude.{Option, Some, None, slice_set, nat_eq, false}
use Rattle.std.proofs.lemmas.Bool.{cond-true, cond-false}
use Rattle.std.proofs.lemmas.List.{length-set}
use Rattle.pv_interval.specs.Bounds.{Bounds}
use Rattle.pv_interval.specs.Tables.{meet_of}
use Rattle.pv_hc4.specs.Chain.{chain, at}
use Rattle.pv_hc4.specs.Revise.{Target, place_of, places_from, applied}
use Rattle.pv_hc4.proofs.Downward.{chain_assoc}

-- each target's variable is below n
abbrev pub AreBelow : ℕ → List Target → Type 0
AreBelow n [] = Unit {0}
AreBelow n (s ∷ ts) = (s.var < n) × AreBelow n ts

other : (m n : ℕ) → m ≢ n → nat_eq m n ≡ false
other m n h = grind arith

place_here : (i : ℕ) (s : Target) (ts : List Target) (x : Bounds) → s.var ≡ i → place_of i (s ∷ ts) x ≡ chain (meet_of x s.within) (place_of i ts)
place_here i s ts x h = cond-true _ _ _ (eq-eqb s.var i h)

place_there : (i : ℕ) (s : Target) (ts : List Target) (x : Bounds) → s.var ≢ i → place_of i (s ∷ ts) x ≡ place_of i ts x
place_there i s ts x h = cond-false _ _ _ (other s.var i h)

places_skip : (i : ℕ) (s : Target) (ts : List Target) (b : List Bounds) → s.var < i → places_from i (s ∷ ts) b ≡ places_from i ts b
places_skip i s ts [] h = refl
places_skip i s ts (x ∷ b) h =
    let ne : s.var ≢ i = omega arith in
    let less : s.var < i + 1 = omega arith in
    ap (λ o. chain o (λ y. chain (places_from (i + 1) (s ∷ ts) b) (λ c. Some (y ∷ c)))) (place_there i s ts x ne)
    ∙ ap (λ o. chain (place_of i ts x) (λ y. chain o (λ c. Some (y ∷ c)))) (places_skip (i + 1) s ts b less)

exchanged : {A B C D : Type 0} (o : Option A) (m : Option B) (f : B → Option C) (g : A → C → D) → chain o (λ y. chain (chain m f) (λ c. Some (g y c))) ≡ chain m (λ z. chain o (λ y. chain (f z) (λ c. Some (g y c))))
exchanged None None f g = refl
exchanged None (Some z) f g = refl
exchanged (Some y) None f g = refl
exchanged (Some y) (Some z) f g = refl

one_more : (i j : ℕ) (s : Target) (ts : List Target) (b : List Bounds) → s.var ≡ i + j → j < length b → places_from i (s ∷ ts) b ≡ chain (meet_of (at b j) s.within) (λ x. places_from i ts (slice_set b j x))
one_more i j s ts [] e h = absurd (omega arith)
one_more i zero s ts (x ∷ b) e h =
    let here : s.var ≡ i = omega arith in
    let less : s.var < i + 1 = omega arith in
    ap (λ o. chain o (λ y. chain (places_from (i + 1) (s ∷ ts) b) (λ c. Some (y ∷ c)))) (place_here i s ts x here)
    ∙ ap (λ o. chain (chain (meet_of x s.within) (place_of i ts)) (λ y. chain o (λ c. Some (y ∷ c)))) (places_skip (i + 1) s ts b less)
    ∙ chain_assoc (meet_of x s.within) (place_of i ts) (λ y. chain (places_from (i + 1) ts b) (λ c. Some (y ∷ c)))
one_more i (suc j) s ts (x ∷ b) e h =
    let ne : s.var ≢ i = omega arith in
    let further : s.var ≡ (i + 1) + j = omega arith in
    let less : j < length b = omega arith in
    ap (λ o. chain o (λ y. chain (places_from (i + 1) (s ∷ ts) b) (λ c. Some (y ∷ c)))) (place_there i s ts x ne)
    ∙ ap (λ o. chain (place_of i ts x) (λ y. chain o (λ c. Some (y ∷ c)))) (one_more (i + 1) j s ts b further less)
    ∙ exchanged (place_of i ts x) (meet_of (at b j) s.within) (λ z. places_from (i + 1) ts (slice_set b j z)) (λ y c. y ∷ c)

no_targets : (i : ℕ) (b : List Bounds) → places_from i [] b ≡ Some b
no_targets i [] = refl
no_targets i (x ∷ b) = ap (λ o. chain o (λ c. Some (x ∷ c))) (no_targets (i + 1) b)

pub chain_cong : {A B : Type 0} (o : Option A) (f g : A → Option B) → ((x : A) → f x ≡ g x) → chain o f ≡ chain o g
chain_cong None f g h = refl
chain_cong (Some x) f g h = h x

pub places_applied : (ts : List Target) (b : List Bounds) → AreBelow (length b) ts → places_from 0 ts b ≡ applied b ts
places_applied [] b h = no_targets 0 b
places_applied (s ∷ ts) b h =
    let e : s.var ≡ 0 + s.var = omega arith in
    one_more 0 s.var s ts b e h.0
    ∙ chain_cong (meet_of (at b s.var) s.within) (λ x. places_from 0 ts (slice_set b s.var x)) (λ x. applied (slice_set b s.var x) ts)
    (λ x. places_applied ts (slice_set b s.var x) (subst (λ n. AreBelow n ts) (sym (length-set b s.var x)) h.1))
