use Rattle.std.proofs.Common.{◌≡◌, ℕ, zero, suc, ◌+◌, ◌*◌, ◌/◌, ◌^◌, ◌<◌, ◌≤◌, inl, inr, arith, refl, ap, sym, subst, ◌∙◌, pos, neg_ℤ}
use Rattle.std.proofs.lemmas.Bool.{cases_eq, cond-true, cond-false, le-leb, lt-leb}
use Rattle.std.proofs.lemmas.Nat.{pow-add, pow_pos, shl_below, shl-shr}
use Rattle.std.proofs.Math.Nat.{mul-le-mul_right, mul-pos, pow-le-pow_right, lt_of_lt_of_le}
use Rattle.pv_num.specs.View.{exponent_within, exponent_of, value_of, number_of, inside_of, IsJustified, IsClassOf}
use Rattle.pv_num.specs.Extended.{Fin}
use Rattle.pv_num.specs.declared.num.Class.{Class}
use Rattle.pv_num.specs.declared.num.Class.TheVariants.{MinusOo, Negative, NonNegative, PlusOo}
use Rattle.pv_num.specs.declared.num.Num.TheInside.{Inside}

pub shifted_one : (c : ℕ) → 2 ^ (62 + c) ≡ 2 ^ 61 * 2 ^ suc c
shifted_one c = let e : 62 + c ≡ 61 + suc c = omega arith in ap (λ k. 2 ^ k) e ∙ pow-add 2 61 (suc c)

pub at_top : (m c : ℕ) → 2 ^ 61 ≤ m → 2 ^ (62 + c) ≤ m * 2 ^ suc c
at_top m c h = subst (λ x. x ≤ m * 2 ^ suc c) (sym (shifted_one c)) (mul-le-mul_right (2 ^ suc c) h)

pub below_top : (m e c : ℕ) → m < 2 ^ 62 → e ≤ c → m * 2 ^ e < 2 ^ (62 + c)
below_top m e c f h =
    let mono : 62 + e ≤ 62 + c = omega arith in
    let two : 0 < 2 = omega arith in
    lt_of_lt_of_le (shl_below m 62 e f) (pow-le-pow_right two mono)

pub exponent_within-at : (m e c : ℕ) → m < 2 ^ 62 → (0 < e → 2 ^ 61 ≤ m) → e ≤ c → exponent_within (m * 2 ^ e) c ≡ e
unfolding exponent_within
exponent_within-at m e zero f j h = omega arith
exponent_within-at m e (suc c) f j h =
    elim (cases_eq e (suc c)) [
      | inl q ↦
          let now : 2 ^ 61 ≤ m = j (omega arith) in
          let here : 2 ^ (62 + c) ≤ m * 2 ^ e = subst (λ k. 2 ^ (62 + c) ≤ m * 2 ^ k) (sym q) (at_top m c now) in
          cond-true _ _ _ (le-leb _ _ here) ∙ sym q
      | inr n ↦
          let less : e ≤ c = omega arith in
          cond-false _ _ _ (lt-leb _ _ (below_top m e c f less)) ∙ exponent_within-at m e c f j less
    ]

pub exponent_of-at : (m e : ℕ) → m < 2 ^ 62 → (0 < e → 2 ^ 61 ≤ m) → e ≤ 962 → exponent_of (m * 2 ^ e) ≡ e
unfolding exponent_of
exponent_of-at m e f j h = exponent_within-at m e 962 f j h

pub mantissa-at : (m e : ℕ) → m < 2 ^ 62 → (0 < e → 2 ^ 61 ≤ m) → e ≤ 962 → m * 2 ^ e / 2 ^ exponent_of (m * 2 ^ e) ≡ m
mantissa-at m e f j h = subst (λ k. m * 2 ^ e / 2 ^ k ≡ m) (sym (exponent_of-at m e f j h)) (shl-shr m e)

negative_inside : (n : ℕ) → 0 < n → inside_of (Fin (neg_ℤ (pos n))) ≡ record { class = Negative; exponent = exponent_of n; mantissa = n / 2 ^ exponent_of n }
negative_inside zero h = absurd (omega arith)
negative_inside (suc n) h = refl

justified_inside : (k : Class) (e m : ℕ) → m < 2 ^ 62 → e ≤ 962 → (0 < e → 2 ^ 61 ≤ m) → IsClassOf k e m → inside_of (number_of k (m * 2 ^ e)) ≡ record { class = k; exponent = e; mantissa = m }
justified_inside MinusOo e m f x j c = ap (λ p. record { class = MinusOo; exponent = p; mantissa = 0 }) (sym c.0) ∙ ap (λ p. record { class = MinusOo; exponent = e; mantissa = p }) (sym c.1)
justified_inside Negative e m f x j c =
    negative_inside (m * 2 ^ e) (mul-pos c (pow_pos e))
    ∙ ap (λ p. record { class = Negative; exponent = p; mantissa = m * 2 ^ e / 2 ^ exponent_of (m * 2 ^ e) }) (exponent_of-at m e f j x)
    ∙ ap (λ p. record { class = Negative; exponent = e; mantissa = p }) (mantissa-at m e f j x)
justified_inside NonNegative e m f x j c =
    ap (λ p. record { class = NonNegative; exponent = p; mantissa = m * 2 ^ e / 2 ^ exponent_of (m * 2 ^ e) }) (exponent_of-at m e f j x)
    ∙ ap (λ p. record { class = NonNegative; exponent = e; mantissa = p }) (mantissa-at m e f j x)
justified_inside PlusOo e m f x j c = ap (λ p. record { class = PlusOo; exponent = p; mantissa = 0 }) (sym c.0) ∙ ap (λ p. record { class = PlusOo; exponent = e; mantissa = p }) (sym c.1)

pub inside_of-value_of : (a : Inside) → IsJustified a → inside_of (value_of a) ≡ a
inside_of-value_of a h = justified_inside a.class a.exponent a.mantissa h.mantissa_fits h.exponent_fits h.justified h.classed
