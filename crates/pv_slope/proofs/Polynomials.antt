-- Identities between polynomials over the whole numbers, by normal forms: a list of monomials with coefficients.
use Rattle.std.proofs.Common.{◌≡◌, ℕ, zero, suc, List, [], ◌∷◌, refl, ap, sym, ◌∙◌, arith, get_or}
use Rattle.std.specs.Prelude.{ℤ, pos, negsuc, ◌+ℤ◌, ◌-ℤ◌, ◌*ℤ◌, Bool, true, false, cond, ◌&&◌, nat_eq, nat_le}
use Rattle.std.proofs.Math.IntN.{*ℤ_comm, *ℤ-one, *ℤ-zero, zero-*ℤ}
use Rattle.std.proofs.lemmas.Int.{ints}
use lib.IntN.{neg_ℤ}
use Rattle.pv_interval.proofs.Integers.{neg_left, times_assoc, left_distrib, right_distrib}
use Rattle.pv_interval.proofs.Multiples.{cross}
use Rattle.pv_ctc.proofs.Cleaning.{and_second}
use Rattle.pv_slope.proofs.Matched.{equal}

infixl 6 ◌⊕◌
infixl 6 ◌⊖◌
infixl 7 ◌⊗◌
-- a polynomial: variable k, a number, sums, differences and products
pub data Poly : Type 0 where
  v : ℕ → Poly
  n : ℤ → Poly
  ◌⊕◌ : Poly → Poly → Poly
  ◌⊖◌ : Poly → Poly → Poly
  ◌⊗◌ : Poly → Poly → Poly
  minus : Poly → Poly

-- its value where variable k is the k-th of these numbers
abbrev pub value : List ℤ → Poly → ℤ
value xs (v k) = get_or xs k (pos 0)
value xs (n z) = z
value xs (p ⊕ q) = value xs p +ℤ value xs q
value xs (p ⊖ q) = value xs p -ℤ value xs q
value xs (p ⊗ q) = value xs p *ℤ value xs q
value xs (minus p) = neg_ℤ (value xs p)

-- a coefficient and a product of variables
pub record Monomial : Type 0 where
  pub by : ℤ
  pub of : List ℕ

abbrev pub product : List ℤ → List ℕ → ℤ
product xs [] = pos 1
product xs (k ∷ ks) = get_or xs k (pos 0) *ℤ product xs ks

abbrev pub total : List ℤ → List Monomial → ℤ
total xs [] = pos 0
total xs (m ∷ ms) = m.by *ℤ product xs m.of +ℤ total xs ms

abbrev pub same : List ℕ → List ℕ → Bool
same [] [] = true
same [] (k ∷ ks) = false
same (j ∷ js) [] = false
same (j ∷ js) (k ∷ ks) = nat_eq j k && same js ks

same_is : (js ks : List ℕ) → same js ks ≡ true → js ≡ ks
same_is [] [] e = refl
same_is [] (k ∷ ks) e = absurd (cc)
same_is (j ∷ js) [] e = absurd (cc)
same_is (j ∷ js) (k ∷ ks) e =
    let h = and_second (nat_eq j k) (same js ks) e in
    ap (λ i. i ∷ js) (equal j k h.0) ∙ ap (λ is. k ∷ is) (same_is js ks h.1)

-- one more monomial
abbrev pub insert : Monomial → List Monomial → List Monomial
insert m [] = m ∷ []
insert m (k ∷ ks) = cond (same m.of k.of) (record { by = m.by +ℤ k.by; of = k.of } ∷ ks) (k ∷ insert m ks)

insert_total : (xs : List ℤ) (m : Monomial) (ks : List Monomial) → total xs (insert m ks) ≡ m.by *ℤ product xs m.of +ℤ total xs ks
insert_total xs m [] = refl
insert_total xs m (k ∷ ks) = go (same m.of k.of) refl (insert_total xs m ks)
  where
    go : (t : Bool) → same m.of k.of ≡ t → total xs (insert m ks) ≡ m.by *ℤ product xs m.of +ℤ total xs ks → total xs (cond t (record { by = m.by +ℤ k.by; of = k.of } ∷ ks) (k ∷ insert m ks)) ≡ m.by *ℤ product xs m.of +ℤ total xs (k ∷ ks)
    go true e h =
        let f = ap (λ is. m.by *ℤ product xs is) (same_is m.of k.of e) in
        let g = right_distrib m.by k.by (product xs k.of) in
        omega (arith, ints)
    go false e h = omega (arith, ints)

abbrev pub add : List Monomial → List Monomial → List Monomial
add [] ks = ks
add (m ∷ ms) ks = insert m (add ms ks)

add_total : (xs : List ℤ) (ms ks : List Monomial) → total xs (add ms ks) ≡ total xs ms +ℤ total xs ks
add_total xs [] ks = omega (arith, ints)
add_total xs (m ∷ ms) ks = let f = insert_total xs m (add ms ks) in let g = add_total xs ms ks in omega (arith, ints)

-- variables in their order
abbrev pub put : ℕ → List ℕ → List ℕ
put j [] = j ∷ []
put j (k ∷ ks) = cond (nat_le j k) (j ∷ k ∷ ks) (k ∷ put j ks)

put_product : (xs : List ℤ) (j : ℕ) (ks : List ℕ) → product xs (put j ks) ≡ get_or xs j (pos 0) *ℤ product xs ks
put_product xs j [] = refl
put_product xs j (k ∷ ks) = go (nat_le j k) (put_product xs j ks)
  where
    go : (t : Bool) → product xs (put j ks) ≡ get_or xs j (pos 0) *ℤ product xs ks → product xs (cond t (j ∷ k ∷ ks) (k ∷ put j ks)) ≡ get_or xs j (pos 0) *ℤ product xs (k ∷ ks)
    go true h = refl
    go false h =
        ap (λ z. get_or xs k (pos 0) *ℤ z) h
        ∙ sym (times_assoc (get_or xs k (pos 0)) (get_or xs j (pos 0)) (product xs ks))
        ∙ ap (λ z. z *ℤ product xs ks) (*ℤ_comm (get_or xs k (pos 0)) (get_or xs j (pos 0)))
        ∙ times_assoc (get_or xs j (pos 0)) (get_or xs k (pos 0)) (product xs ks)

abbrev pub merge : List ℕ → List ℕ → List ℕ
merge [] ks = ks
merge (j ∷ js) ks = put j (merge js ks)

pub one_times : (z : ℤ) → pos 1 *ℤ z ≡ z
unfolding lib.IntN.one
one_times z = *ℤ_comm (pos 1) z ∙ *ℤ-one z

merge_product : (xs : List ℤ) (js ks : List ℕ) → product xs (merge js ks) ≡ product xs js *ℤ product xs ks
merge_product xs [] ks = sym (one_times (product xs ks))
merge_product xs (j ∷ js) ks =
    put_product xs j (merge js ks) ∙ ap (λ z. get_or xs j (pos 0) *ℤ z) (merge_product xs js ks)
    ∙ sym (times_assoc (get_or xs j (pos 0)) (product xs js) (product xs ks))

-- a product with one monomial
abbrev pub scale : Monomial → List Monomial → List Monomial
scale m [] = []
scale m (k ∷ ks) = insert (record { by = m.by *ℤ k.by; of = merge m.of k.of }) (scale m ks)

scale_total : (xs : List ℤ) (m : Monomial) (ks : List Monomial) → total xs (scale m ks) ≡ (m.by *ℤ product xs m.of) *ℤ total xs ks
scale_total xs m [] = sym (*ℤ-zero (m.by *ℤ product xs m.of))
scale_total xs m (k ∷ ks) =
    let f = insert_total xs (record { by = m.by *ℤ k.by; of = merge m.of k.of }) (scale m ks) in
    let g = scale_total xs m ks in
    let h = ap (λ z. (m.by *ℤ k.by) *ℤ z) (merge_product xs m.of k.of) ∙ cross m.by k.by (product xs m.of) (product xs k.of) in
    let i = left_distrib (m.by *ℤ product xs m.of) (k.by *ℤ product xs k.of) (total xs ks) in
    omega (arith, ints)

abbrev pub multiply : List Monomial → List Monomial → List Monomial
multiply [] ks = []
multiply (m ∷ ms) ks = add (scale m ks) (multiply ms ks)

multiply_total : (xs : List ℤ) (ms ks : List Monomial) → total xs (multiply ms ks) ≡ total xs ms *ℤ total xs ks
multiply_total xs [] ks = sym (zero-*ℤ (total xs ks))
multiply_total xs (m ∷ ms) ks =
    let f = add_total xs (scale m ks) (multiply ms ks) in
    let g = scale_total xs m ks in
    let h = multiply_total xs ms ks in
    let i = right_distrib (m.by *ℤ product xs m.of) (total xs ms) (total xs ks) in
    omega (arith, ints)

abbrev pub opposed : List Monomial → List Monomial
opposed [] = []
opposed (m ∷ ms) = record { by = neg_ℤ m.by; of = m.of } ∷ opposed ms

opposed_total : (xs : List ℤ) (ms : List Monomial) → total xs (opposed ms) ≡ neg_ℤ (total xs ms)
opposed_total xs [] = refl
opposed_total xs (m ∷ ms) = let f = neg_left m.by (product xs m.of) in let g = opposed_total xs ms in omega (arith, ints)

abbrev pub normal : Poly → List Monomial
normal (v k) = record { by = pos 1; of = k ∷ [] } ∷ []
normal (n z) = record { by = z; of = [] } ∷ []
normal (p ⊕ q) = add (normal p) (normal q)
normal (p ⊖ q) = add (normal p) (opposed (normal q))
normal (p ⊗ q) = multiply (normal p) (normal q)
normal (minus p) = opposed (normal p)

normal_total : (xs : List ℤ) (p : Poly) → total xs (normal p) ≡ value xs p
normal_total xs (v k) =
    let x = get_or xs k (pos 0) in
    let f = one_times (x *ℤ pos 1) in let g = *ℤ_comm x (pos 1) in let h = one_times x in omega (arith, ints)
normal_total xs (n z) = let f = *ℤ_comm z (pos 1) in let g = one_times z in omega (arith, ints)
normal_total xs (p ⊕ q) = let f = add_total xs (normal p) (normal q) in let g = normal_total xs p in let h = normal_total xs q in omega (arith, ints)
normal_total xs (p ⊖ q) =
    let f = add_total xs (normal p) (opposed (normal q)) in let g = opposed_total xs (normal q) in
    let h = normal_total xs p in let i = normal_total xs q in omega (arith, ints)
normal_total xs (p ⊗ q) = multiply_total xs (normal p) (normal q) ∙ ap (λ z. z *ℤ total xs (normal q)) (normal_total xs p) ∙ ap (λ z. value xs p *ℤ z) (normal_total xs q)
normal_total xs (minus p) = opposed_total xs (normal p) ∙ ap neg_ℤ (normal_total xs p)

abbrev pub is_zero : ℤ → Bool
is_zero (pos zero) = true
is_zero (pos (suc k)) = false
is_zero (negsuc k) = false

abbrev pub all_zero : List Monomial → Bool
all_zero [] = true
all_zero (m ∷ ms) = is_zero m.by && all_zero ms

zero_is : (z : ℤ) → is_zero z ≡ true → z ≡ pos 0
zero_is (pos zero) e = refl
zero_is (pos (suc k)) e = absurd (cc)
zero_is (negsuc k) e = absurd (cc)

zero_total : (xs : List ℤ) (ms : List Monomial) → all_zero ms ≡ true → total xs ms ≡ pos 0
zero_total xs [] e = refl
zero_total xs (m ∷ ms) e =
    let h = and_second (is_zero m.by) (all_zero ms) e in
    let f = ap (λ z. z *ℤ product xs m.of) (zero_is m.by h.0) ∙ zero-*ℤ (product xs m.of) in
    let g = zero_total xs ms h.1 in omega (arith, ints)

-- every coefficient is 0
abbrev pub vanishes : Poly → Bool
vanishes p = all_zero (normal p)

pub vanishing : (xs : List ℤ) (p : Poly) → vanishes p ≡ true → value xs p ≡ pos 0
vanishing xs p e = sym (normal_total xs p) ∙ zero_total xs (normal p) e

-- two polynomials are equal where their difference has no coefficient
pub alike : (xs : List ℤ) (p q : Poly) → vanishes (p ⊖ q) ≡ true → value xs p ≡ value xs q
alike xs p q e = let f = vanishing xs (p ⊖ q) e in omega (arith, ints)

-- an equation l = r and its factor k
pub record Equation : Type 0 where
  pub by : Poly
  pub left : Poly
  pub right : Poly

-- the sum of the equations' differences, each times its factor
abbrev pub combined : List Equation → Poly
combined [] = n (pos 0)
combined (e ∷ es) = e.by ⊗ (e.left ⊖ e.right) ⊕ combined es

abbrev pub Hold : List ℤ → List Equation → Type 0
Hold xs [] = Unit {0}
Hold xs (e ∷ es) = (value xs e.left ≡ value xs e.right) × Hold xs es

nothing_times : (k x y : ℤ) → x ≡ y → k *ℤ (x -ℤ y) ≡ pos 0
nothing_times k x y e = let f : x -ℤ y ≡ pos 0 = omega (arith, ints) in ap (λ z. k *ℤ z) f ∙ *ℤ-zero k

combined_zero : (xs : List ℤ) (es : List Equation) → Hold xs es → value xs (combined es) ≡ pos 0
combined_zero xs [] h = refl
combined_zero xs (e ∷ es) h =
    let f = nothing_times (value xs e.by) (value xs e.left) (value xs e.right) h.0 in
    let g = combined_zero xs es h.1 in omega (arith, ints)

-- two polynomials are equal where their difference is made of equations that hold
pub follows : (xs : List ℤ) (p q : Poly) (es : List Equation) → vanishes (p ⊖ q ⊖ combined es) ≡ true → Hold xs es → value xs p ≡ value xs q
follows xs p q es e h =
    let f = vanishing xs (p ⊖ q ⊖ combined es) e in let g = combined_zero xs es h in omega (arith, ints)
