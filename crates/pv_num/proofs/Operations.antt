use Rattle.std.proofs.Common.{◌≡◌, ◌≢◌, ◌↔◌, IsTrue, ℕ, zero, suc, ◌+◌, ◌-◌, ◌*◌, ◌^◌, ◌<◌, ◌≤◌, inl, inr, Bool, true, false, not, Option, arith, refl, ap, sym, subst, ◌∙◌, ℤ, pos, negsuc, neg_ℤ, ◌*ℤ◌, ◌+ℤ◌, unsigned_abs}
use mathlib.Core.Bool.{beq}
use Rattle.std.proofs.lemmas.Bool.{true≢false, cases_lt, le-ltb}
use Rattle.std.proofs.lemmas.Int.{ints}
use Rattle.std.proofs.Math.IntN.{negsuc-*ℤ-pos}
use Rattle.std.specs.Int.Signed.{lt_z}
use Rattle.pv_num.specs.Extended.{Extended, NegInf, Fin, PosInf}
use Rattle.pv_num.specs.Grid.{unit}
use Rattle.pv_num.specs.Rounding.{rounded}
use Rattle.pv_num.specs.Arithmetic.{div_of, ratio_of}
use Rattle.pv_num.specs.Sizes.{IsSized, fine, signed_of, toward_of, magnitude_of, is_negative_of, is_infinite_of, whole_of, with_sign}
use Rattle.pv_num.specs.declared.num.End.{End}
use Rattle.pv_num.specs.declared.magnitude.Magnitude.{Magnitude}
use Rattle.pv_num.specs.declared.magnitude.Toward.{Toward}
use Rattle.pv_num.proofs.Scales.{signed_is, round_sum}
use Rattle.pv_num.proofs.Signs.{neg-mul}
use Rattle.std.proofs.lemmas.Nat.{pow_pos}

pub signed_to : (side : End) (s : Bool) (v b : ℕ) (r : Option Magnitude) (z : ℤ) → with_sign s v ≡ z → 0 < b → IsSized (toward_of side s) v b r → signed_of s r ≡ rounded side z b
signed_to side s v b r z e p h = signed_is side s v b r p h ∙ ap (λ x. rounded side x b) e

restated : (side : End) (s s' : Bool) (t : Toward) (v v' b : ℕ) (r : Option Magnitude) → s ≡ s' → t ≡ toward_of side s → v ≡ v' → IsSized t v b r → IsSized (toward_of side s') v' b r
restated side s s' t v v' b r es et ev h = subst (λ z. IsSized (toward_of side z) v' b r) es (subst (λ z. IsSized z v' b r) et (subst (λ z. IsSized t z b r) ev h))

both_signs : (p q p' q' : Bool) → p ≡ p' → q ≡ q' → not (beq p q) ≡ not (beq p' q')
both_signs p q p' q' e f = ap (λ z. not (beq z q)) e ∙ ap (λ z. not (beq p' z)) f

-- ---- Quotients

div_core : (side : End) (a b : Extended) (r : Option Magnitude) → is_infinite_of a ≡ false → is_infinite_of b ≡ false → 0 < magnitude_of b → IsSized (toward_of side (not (beq (is_negative_of a) (is_negative_of b)))) (magnitude_of a * unit) (magnitude_of b) r → signed_of (not (beq (is_negative_of a) (is_negative_of b))) r ≡ div_of side a b
div_core side NegInf b r f g p h = absurd (true≢false f)
div_core side PosInf b r f g p h = absurd (true≢false f)
div_core side (Fin a) NegInf r f g p h = absurd (true≢false g)
div_core side (Fin a) PosInf r f g p h = absurd (true≢false g)
div_core side (Fin (pos m)) (Fin (pos n)) r f g p h = signed_to side false (m * unit) n r (pos m *ℤ pos unit) refl p h
div_core side (Fin (pos m)) (Fin (negsuc n)) r f g p h = signed_to side true (m * unit) (suc n) r (neg_ℤ (pos m) *ℤ pos unit) (sym (neg-mul (pos m) unit)) p h
div_core side (Fin (negsuc m)) (Fin (pos n)) r f g p h = signed_to side true (suc m * unit) n r (negsuc m *ℤ pos unit) (sym (negsuc-*ℤ-pos m unit)) p h
div_core side (Fin (negsuc m)) (Fin (negsuc n)) r f g p h = signed_to side false (suc m * unit) (suc n) r (pos (suc m) *ℤ pos unit) refl p h

pub not_zero : (b : Extended) → is_infinite_of b ≡ false → b ≢ Fin (pos 0) → 0 < magnitude_of b
not_zero NegInf f h = absurd (true≢false f)
not_zero PosInf f h = absurd (true≢false f)
not_zero (Fin (pos zero)) f h = absurd (h refl)
not_zero (Fin (pos (suc n))) f h = omega arith
not_zero (Fin (negsuc n)) f h = omega arith

pub div_finite : (side : End) (a b : Extended) (t : Toward) (x y : ℕ) (p q : Bool) (r : Option Magnitude) → is_infinite_of a ≡ false → is_infinite_of b ≡ false → b ≢ Fin (pos 0) → p ≡ is_negative_of a → q ≡ is_negative_of b → x ≡ magnitude_of a → y ≡ magnitude_of b → t ≡ toward_of side (not (beq p q)) → IsSized t (x * unit) y r → signed_of (not (beq p q)) r ≡ div_of side a b
div_finite side a b t x y p q r f g n ep eq ex ey et h =
    let es = both_signs p q (is_negative_of a) (is_negative_of b) ep eq in
    let h' : IsSized t (x * unit) (magnitude_of b) r = subst (λ z. IsSized t (x * unit) z r) ey h in
    ap (λ z. signed_of z r) es ∙ div_core side a b r f g (not_zero b g n) (restated side (not (beq p q)) _ t (x * unit) _ (magnitude_of b) r es et (ap (λ z. z * unit) ex) h')

ratio_core : (side : End) (p : ℤ) (q : ℕ) (r : Option Magnitude) → 0 < q → IsSized (toward_of side (lt_z p (pos 0))) (unsigned_abs p * unit) q r → signed_of (lt_z p (pos 0)) r ≡ ratio_of side p q
ratio_core side (pos m) q r l h =
    let e : lt_z (pos m) (pos 0) ≡ false = le-ltb m 0 (omega arith) in
    let h' : IsSized (toward_of side false) (m * unit) q r = subst (λ z. IsSized (toward_of side z) (m * unit) q r) e h in
    ap (λ z. signed_of z r) e ∙ signed_to side false (m * unit) q r (pos m *ℤ pos unit) refl l h'
ratio_core side (negsuc m) q r l h = signed_to side true (suc m * unit) q r (negsuc m *ℤ pos unit) (sym (negsuc-*ℤ-pos m unit)) l h

pub ratio_finite : (side : End) (p p' : ℤ) (q x : ℕ) (t : Toward) (r : Option Magnitude) → p' ≡ p → 0 < q → x ≡ unsigned_abs p' → t ≡ toward_of side (lt_z p' (pos 0)) → IsSized t (x * unit) q r → signed_of (lt_z p' (pos 0)) r ≡ ratio_of side p q
ratio_finite side p p' q x t r e l ex et h =
    let es : lt_z p' (pos 0) ≡ lt_z p (pos 0) = ap (λ z. lt_z z (pos 0)) e in
    let ev : x * unit ≡ unsigned_abs p * unit = ap (λ z. z * unit) (ex ∙ ap unsigned_abs e) in
    ap (λ z. signed_of z r) es ∙ ratio_core side p q r l (restated side (lt_z p' (pos 0)) _ t (x * unit) _ q r es et ev h)

-- ---- Sums

sum_smaller : (a b : Extended) → is_infinite_of a ≡ false → is_infinite_of b ≡ false → not (beq (is_negative_of a) (is_negative_of b)) ≡ true → magnitude_of a < magnitude_of b → with_sign (not (is_negative_of a)) (magnitude_of b - magnitude_of a) ≡ whole_of a +ℤ whole_of b
sum_smaller NegInf b f g s l = absurd (true≢false f)
sum_smaller PosInf b f g s l = absurd (true≢false f)
sum_smaller (Fin a) NegInf f g s l = absurd (true≢false g)
sum_smaller (Fin a) PosInf f g s l = absurd (true≢false g)
sum_smaller (Fin (pos m)) (Fin (pos n)) f g s l = absurd (true≢false (sym s))
sum_smaller (Fin (pos m)) (Fin (negsuc n)) f g s l = omega (arith, ints)
sum_smaller (Fin (negsuc m)) (Fin (pos n)) f g s l = omega (arith, ints)
sum_smaller (Fin (negsuc m)) (Fin (negsuc n)) f g s l = absurd (true≢false (sym s))

sum_larger : (a b : Extended) → is_infinite_of a ≡ false → is_infinite_of b ≡ false → not (beq (is_negative_of a) (is_negative_of b)) ≡ true → magnitude_of b ≤ magnitude_of a → with_sign (is_negative_of a) (magnitude_of a - magnitude_of b) ≡ whole_of a +ℤ whole_of b
sum_larger NegInf b f g s l = absurd (true≢false f)
sum_larger PosInf b f g s l = absurd (true≢false f)
sum_larger (Fin a) NegInf f g s l = absurd (true≢false g)
sum_larger (Fin a) PosInf f g s l = absurd (true≢false g)
sum_larger (Fin (pos m)) (Fin (pos n)) f g s l = absurd (true≢false (sym s))
sum_larger (Fin (pos m)) (Fin (negsuc n)) f g s l = omega (arith, ints)
sum_larger (Fin (negsuc m)) (Fin (pos n)) f g s l = omega (arith, ints)
sum_larger (Fin (negsuc m)) (Fin (negsuc n)) f g s l = absurd (true≢false (sym s))

pub sum_alike : (a b : Extended) → is_infinite_of a ≡ false → is_infinite_of b ≡ false → not (beq (is_negative_of a) (is_negative_of b)) ≡ false → with_sign (is_negative_of a) (magnitude_of a + magnitude_of b) ≡ whole_of a +ℤ whole_of b
sum_alike NegInf b f g s = absurd (true≢false f)
sum_alike PosInf b f g s = absurd (true≢false f)
sum_alike (Fin a) NegInf f g s = absurd (true≢false g)
sum_alike (Fin a) PosInf f g s = absurd (true≢false g)
sum_alike (Fin (pos m)) (Fin (pos n)) f g s = refl
sum_alike (Fin (pos m)) (Fin (negsuc n)) f g s = absurd (true≢false s)
sum_alike (Fin (negsuc m)) (Fin (pos n)) f g s = absurd (true≢false s)
sum_alike (Fin (negsuc m)) (Fin (negsuc n)) f g s = omega (arith, ints)

-- A sum from its size: v is the size, s the sign.
sum_core : (side : End) (s s' : Bool) (t : Toward) (v v' at : ℕ) (r : Option Magnitude) (z : ℤ) → s ≡ s' → v ≡ v' → with_sign s' v' ≡ z → at ≤ 1024 → t ≡ toward_of side s → IsSized t (v * 2 ^ at) fine r → signed_of s r ≡ rounded side z (2 ^ (1024 - at))
sum_core side s s' t v v' at r z es ev e l et h =
    ap (λ x. signed_of x r) es ∙ signed_to side s' v' (2 ^ (1024 - at)) r z e (pow_pos (1024 - at)) (round_sum (toward_of side s') v' at r l (restated side s s' t (v * 2 ^ at) (v' * 2 ^ at) fine r es et (ap (λ x. x * 2 ^ at) ev) h))

pub smaller_finite : (side : End) (a b : Extended) (t : Toward) (x y at : ℕ) (p q : Bool) (r : Option Magnitude) → is_infinite_of a ≡ false → is_infinite_of b ≡ false → p ≡ is_negative_of a → q ≡ is_negative_of b → x ≡ magnitude_of a → y ≡ magnitude_of b → not (beq p q) ≡ true → x < y → at ≤ 1024 → t ≡ toward_of side (not p) → IsSized t ((y - x) * 2 ^ at) fine r → signed_of (not p) r ≡ rounded side (whole_of a +ℤ whole_of b) (2 ^ (1024 - at))
smaller_finite side a b t x y at p q r f g ep eq ex ey d l w et h =
    let d' : not (beq (is_negative_of a) (is_negative_of b)) ≡ true = sym (both_signs p q _ _ ep eq) ∙ d in
    let l' : magnitude_of a < magnitude_of b = omega (arith, l, ex, ey) in
    sum_core side (not p) (not (is_negative_of a)) t (y - x) (magnitude_of b - magnitude_of a) at r _ (ap not ep) (ap (λ z. z - x) ey ∙ ap (λ z. magnitude_of b - z) ex) (sum_smaller a b f g d' l') w et h

pub larger_finite : (side : End) (a b : Extended) (t : Toward) (x y at : ℕ) (p q : Bool) (r : Option Magnitude) → is_infinite_of a ≡ false → is_infinite_of b ≡ false → p ≡ is_negative_of a → q ≡ is_negative_of b → x ≡ magnitude_of a → y ≡ magnitude_of b → not (beq p q) ≡ true → y ≤ x → at ≤ 1024 → t ≡ toward_of side p → IsSized t ((x - y) * 2 ^ at) fine r → signed_of p r ≡ rounded side (whole_of a +ℤ whole_of b) (2 ^ (1024 - at))
larger_finite side a b t x y at p q r f g ep eq ex ey d l w et h =
    let d' : not (beq (is_negative_of a) (is_negative_of b)) ≡ true = sym (both_signs p q _ _ ep eq) ∙ d in
    let l' : magnitude_of b ≤ magnitude_of a = omega (arith, l, ex, ey) in
    sum_core side p (is_negative_of a) t (x - y) (magnitude_of a - magnitude_of b) at r _ ep (ap (λ z. z - y) ex ∙ ap (λ z. magnitude_of a - z) ey) (sum_larger a b f g d' l') w et h

pub alike_finite : (side : End) (a b : Extended) (t : Toward) (x y at : ℕ) (p q : Bool) (r : Option Magnitude) → is_infinite_of a ≡ false → is_infinite_of b ≡ false → p ≡ is_negative_of a → q ≡ is_negative_of b → x ≡ magnitude_of a → y ≡ magnitude_of b → not (beq p q) ≡ false → at ≤ 1024 → t ≡ toward_of side p → IsSized t ((x + y) * 2 ^ at) fine r → signed_of p r ≡ rounded side (whole_of a +ℤ whole_of b) (2 ^ (1024 - at))
alike_finite side a b t x y at p q r f g ep eq ex ey d w et h =
    let d' : not (beq (is_negative_of a) (is_negative_of b)) ≡ false = sym (both_signs p q _ _ ep eq) ∙ d in
    sum_core side p (is_negative_of a) t (x + y) (magnitude_of a + magnitude_of b) at r _ ep (ap (λ z. z + y) ex ∙ ap (λ z. magnitude_of a + z) ey) (sum_alike a b f g d') w et h

pub not_smaller : (x y : ℕ) → (x < y → false ≡ true) → y ≤ x
not_smaller x y h = elim (cases_lt x y) [ inl l ↦ absurd (true≢false (sym (h l))) | inr l ↦ l ]

pub same_signs : (p q : Bool) → p ≡ q → not (beq p q) ≡ false
same_signs true true e = refl
same_signs true false e = absurd (true≢false e)
same_signs false true e = absurd (true≢false (sym e))
same_signs false false e = refl

-- ---- Sums of numbers of opposite signs, over 1

different_signs : (p q : Bool) → (p ≡ q → ⊥) → not (beq p q) ≡ true
different_signs true true d = absurd (d refl)
different_signs true false d = refl
different_signs false true d = refl
different_signs false false d = absurd (d refl)

pub smaller_whole : (side : End) (a b : Extended) (t : Toward) (x y : ℕ) (p : Bool) (r : Option Magnitude) → is_infinite_of a ≡ false → is_infinite_of b ≡ false → (is_negative_of a ≡ is_negative_of b → ⊥) → p ≡ is_negative_of a → x ≡ magnitude_of a → y ≡ magnitude_of b → x < y → t ≡ toward_of side (not p) → IsSized t (y - x) 1 r → signed_of (not p) r ≡ rounded side (whole_of a +ℤ whole_of b) 1
smaller_whole side a b t x y p r f g d ep ex ey l et h =
    let one : 0 < 1 = omega arith in
    let l' : magnitude_of a < magnitude_of b = omega (arith, l, ex, ey) in
    ap (λ z. signed_of (not z) r) ep
    ∙ signed_to side (not (is_negative_of a)) (magnitude_of b - magnitude_of a) 1 r _ (sum_smaller a b f g (different_signs _ _ d) l') one
    (restated side (not p) (not (is_negative_of a)) t (y - x) (magnitude_of b - magnitude_of a) 1 r (ap not ep) et (ap (λ z. z - x) ey ∙ ap (λ z. magnitude_of b - z) ex) h)

pub larger_whole : (side : End) (a b : Extended) (t : Toward) (x y : ℕ) (p : Bool) (r : Option Magnitude) → is_infinite_of a ≡ false → is_infinite_of b ≡ false → (is_negative_of a ≡ is_negative_of b → ⊥) → p ≡ is_negative_of a → x ≡ magnitude_of a → y ≡ magnitude_of b → y ≤ x → t ≡ toward_of side p → IsSized t (x - y) 1 r → signed_of p r ≡ rounded side (whole_of a +ℤ whole_of b) 1
larger_whole side a b t x y p r f g d ep ex ey l et h =
    let one : 0 < 1 = omega arith in
    let l' : magnitude_of b ≤ magnitude_of a = omega (arith, l, ex, ey) in
    ap (λ z. signed_of z r) ep
    ∙ signed_to side (is_negative_of a) (magnitude_of a - magnitude_of b) 1 r _ (sum_larger a b f g (different_signs _ _ d) l') one
    (restated side p (is_negative_of a) t (x - y) (magnitude_of a - magnitude_of b) 1 r ep et (ap (λ z. z - y) ex ∙ ap (λ z. magnitude_of a - z) ey) h)

-- The same where the order of the sizes is a value.
pub unlike_whole : (side : End) (a b : Extended) (t : Toward) (x y : ℕ) (p s : Bool) (r : Option Magnitude) → is_infinite_of a ≡ false → is_infinite_of b ≡ false → (is_negative_of a ≡ is_negative_of b → ⊥) → p ≡ is_negative_of a → x ≡ magnitude_of a → y ≡ magnitude_of b → (IsTrue s ↔ (x < y)) → t ≡ toward_of side (not (beq p s)) → IsSized t ((x - y) + (y - x)) 1 r → signed_of (not (beq p s)) r ≡ rounded side (whole_of a +ℤ whole_of b) 1
unlike_whole side a b t x y p true r f g d ep ex ey o et h =
    let l : x < y = o.0 refl in
    let v : (x - y) + (y - x) ≡ y - x = omega (arith, l) in
    ap (λ z. signed_of z r) (other p) ∙ smaller_whole side a b t x y p r f g d ep ex ey l (et ∙ ap (λ z. toward_of side z) (other p)) (subst (λ z. IsSized t z 1 r) v h)
  where
    other : (p : Bool) → not (beq p true) ≡ not p
    other true = refl
    other false = refl
unlike_whole side a b t x y p false r f g d ep ex ey o et h =
    let l : y ≤ x = not_smaller x y o.1 in
    let v : (x - y) + (y - x) ≡ x - y = omega (arith, l) in
    ap (λ z. signed_of z r) (own p) ∙ larger_whole side a b t x y p r f g d ep ex ey l (et ∙ ap (λ z. toward_of side z) (own p)) (subst (λ z. IsSized t z 1 r) v h)
  where
    own : (p : Bool) → not (beq p false) ≡ p
    own true = refl
    own false = refl

-- The same, from the sum of the sizes.
pub alike_from : (side : End) (a b r : Extended) (x y : ℕ) → is_infinite_of a ≡ false → is_infinite_of b ≡ false → is_negative_of a ≡ is_negative_of b → x ≡ magnitude_of a → y ≡ magnitude_of b → r ≡ rounded side (with_sign (is_negative_of a) (x + y)) 1 → r ≡ rounded side (whole_of a +ℤ whole_of b) 1
alike_from side a b r x y f g same ex ey h =
    let e : x + y ≡ magnitude_of a + magnitude_of b = ap (λ z. z + y) ex ∙ ap (λ z. magnitude_of a + z) ey in
    h ∙ ap (λ z. rounded side (with_sign (is_negative_of a) z) 1) e ∙ ap (λ z. rounded side z 1) (sum_alike a b f g (same_signs _ _ same))

-- A sum of sizes, rounded, as a number of a sign.
pub sum_rounded : (side : End) (p s : Bool) (t : Toward) (v : ℕ) (r : Option Magnitude) → p ≡ s → t ≡ toward_of side p → IsSized t v 1 r → signed_of p r ≡ rounded side (with_sign s v) 1
sum_rounded side p s t v r ep et h =
    let one : 0 < 1 = omega arith in
    ap (λ z. signed_of z r) ep ∙ signed_is side s v 1 r one (restated side p s t v v 1 r ep et refl h)
