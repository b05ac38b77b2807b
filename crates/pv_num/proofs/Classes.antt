use Rattle.std.proofs.Common.{◌≡◌, ℕ, zero, suc, ◌*◌, ◌^◌, ◌<◌, ◌≤◌, Bool, true, false, Some, arith, refl, ap, sym, ◌∙◌, pos, negsuc, neg_ℤ, zero-mul}
use Rattle.std.proofs.lemmas.Bool.{true≢false}
use Rattle.std.proofs.lemmas.Nat.{pow_pos}
use Rattle.std.proofs.Math.Nat.{mul-pos}
use Rattle.pv_num.specs.Extended.{Extended, NegInf, Fin, PosInf}
use Rattle.pv_num.specs.View.{number_of, opposite_of, IsClassOf, IsJustified}
use Rattle.pv_num.specs.Sizes.{size_of, signed_of, magnitude_of, is_negative_of, is_infinite_of}
use Rattle.pv_num.specs.declared.magnitude.Magnitude.{Magnitude}
use Rattle.pv_num.specs.declared.num.Class.{Class}
use Rattle.pv_num.specs.declared.num.Class.TheVariants.{MinusOo, Negative, NonNegative, PlusOo}
use Rattle.pv_num.proofs.Divisions.{divisor_pos}

-- What the class of a number says of it.

abbrev minus : Class → Bool
minus MinusOo = true
minus Negative = true
minus NonNegative = false
minus PlusOo = false

abbrev endless : Class → Bool
endless MinusOo = true
endless Negative = false
endless NonNegative = false
endless PlusOo = true

below_zero : (n : ℕ) → 0 < n → is_negative_of (Fin (neg_ℤ (pos n))) ≡ true
below_zero zero p = absurd (omega (arith, p))
below_zero (suc n) p = refl

class_negative : (k : Class) (m e : ℕ) → IsClassOf k e m → is_negative_of (number_of k (m * 2 ^ e)) ≡ minus k
class_negative MinusOo m e c = refl
class_negative Negative m e c = below_zero (m * 2 ^ e) (mul-pos c (pow_pos e))
class_negative NonNegative m e c = refl
class_negative PlusOo m e c = refl

class_infinite : (k : Class) (n : ℕ) → is_infinite_of (number_of k n) ≡ endless k
class_infinite MinusOo n = refl
class_infinite Negative n = refl
class_infinite NonNegative n = refl
class_infinite PlusOo n = refl

negative_is : (k : Class) (m e : ℕ) (a : Extended) → number_of k (m * 2 ^ e) ≡ a → IsClassOf k e m → is_negative_of a ≡ minus k
negative_is k m e a q c = ap is_negative_of (sym q) ∙ class_negative k m e c

infinite_is : (k : Class) (n : ℕ) (a : Extended) → number_of k n ≡ a → is_infinite_of a ≡ endless k
infinite_is k n a q = ap is_infinite_of (sym q) ∙ class_infinite k n

-- ---- Two numbers of one class

pub one_class : (k l : Class) (m e n f : ℕ) (a b : Extended) → k ≡ l → number_of k (m * 2 ^ e) ≡ a → number_of l (n * 2 ^ f) ≡ b → IsClassOf k e m → IsClassOf l f n → is_infinite_of b ≡ false → (is_infinite_of a ≡ false) × (is_negative_of a ≡ is_negative_of b)
one_class k l m e n f a b q ea eb ca cb fb = (
  infinite_is k (m * 2 ^ e) a ea ∙ ap endless q ∙ sym (infinite_is l (n * 2 ^ f) b eb) ∙ fb,
  negative_is k m e a ea ca ∙ ap minus q ∙ sym (negative_is l n f b eb cb),
)

apart : (k l : Class) → (k ≡ l → ⊥) → endless k ≡ false → endless l ≡ false → minus k ≡ minus l → ⊥
apart MinusOo l n f g e = true≢false f
apart PlusOo l n f g e = true≢false f
apart k MinusOo n f g e = true≢false g
apart k PlusOo n f g e = true≢false g
apart Negative Negative n f g e = n refl
apart Negative NonNegative n f g e = true≢false e
apart NonNegative Negative n f g e = true≢false (sym e)
apart NonNegative NonNegative n f g e = n refl

pub two_classes : (k l : Class) (m e n f : ℕ) (a b : Extended) → (k ≡ l → ⊥) → number_of k (m * 2 ^ e) ≡ a → number_of l (n * 2 ^ f) ≡ b → IsClassOf k e m → IsClassOf l f n → is_infinite_of a ≡ false → is_infinite_of b ≡ false → is_negative_of a ≡ is_negative_of b → ⊥
two_classes k l m e n f a b d ea eb ca cb fa fb same =
    apart k l d (sym (infinite_is k (m * 2 ^ e) a ea) ∙ fa) (sym (infinite_is l (n * 2 ^ f) b eb) ∙ fb)
    (sym (negative_is k m e a ea ca) ∙ same ∙ negative_is l n f b eb cb)

-- ---- A number of the same class with another size

classed : (k : Class) (m e : ℕ) → endless k ≡ false → (minus k ≡ true → 0 < m * 2 ^ e) → IsClassOf k e m
classed MinusOo m e f z = absurd (true≢false f)
classed Negative m e f z = divisor_pos m e (z refl)
classed NonNegative m e f z = tt
classed PlusOo m e f z = absurd (true≢false f)

valued : (k : Class) (s : Magnitude) → endless k ≡ false → number_of k (size_of s) ≡ signed_of (minus k) (Some s)
valued MinusOo s f = absurd (true≢false f)
valued Negative s f = refl
valued NonNegative s f = refl
valued PlusOo s f = absurd (true≢false f)

pub resized : (k : Class) (m e : ℕ) (a : Extended) (s : Magnitude) → number_of k (m * 2 ^ e) ≡ a → IsClassOf k e m → is_infinite_of a ≡ false → (is_negative_of a ≡ true → 0 < size_of s) → IsJustified (record { class = k; exponent = s.exponent; mantissa = s.mantissa })
resized k m e a s q c f z = record {
  mantissa_fits = s.mantissa_fits;
  exponent_fits = s.exponent_fits;
  justified = s.justified;
  classed = classed k s.mantissa s.exponent (sym (infinite_is k (m * 2 ^ e) a q) ∙ f) (λ n. z (negative_is k m e a q c ∙ n));
}

pub resized_is : (k : Class) (m e : ℕ) (a : Extended) (s : Magnitude) → number_of k (m * 2 ^ e) ≡ a → IsClassOf k e m → is_infinite_of a ≡ false → number_of k (size_of s) ≡ signed_of (is_negative_of a) (Some s)
resized_is k m e a s q c f = valued k s (sym (infinite_is k (m * 2 ^ e) a q) ∙ f) ∙ ap (λ n. signed_of n (Some s)) (sym (negative_is k m e a q c))

-- A negative number is not zero.
pub not_zero : (a : Extended) → is_infinite_of a ≡ false → is_negative_of a ≡ true → 0 < magnitude_of a
not_zero NegInf f n = absurd (true≢false f)
not_zero (Fin (pos m)) f n = absurd (true≢false (sym n))
not_zero (Fin (negsuc m)) f n = omega arith
not_zero PosInf f n = absurd (true≢false f)

-- ---- The other sign

positive_or_zero : (m e : ℕ) → (Fin (pos (m * 2 ^ e)) ≡ Fin (pos 0) → ⊥) → 0 < m
positive_or_zero zero e n = absurd (n (ap (λ x. Fin (pos x)) (zero-mul (2 ^ e))))
positive_or_zero (suc m) e n = omega arith

other_class : (k : Class) (m e : ℕ) → IsClassOf k e m → (number_of k (m * 2 ^ e) ≡ Fin (pos 0) → ⊥) → IsClassOf (opposite_of k) e m
other_class MinusOo m e c n = c
other_class Negative m e c n = tt
other_class NonNegative m e c n = positive_or_zero m e n
other_class PlusOo m e c n = c

pub other_sign : (k : Class) (m e : ℕ) (a : Extended) → number_of k (m * 2 ^ e) ≡ a → (a ≡ Fin (pos 0) → ⊥) → m < 2 ^ 62 → e ≤ 962 → (0 < e → 2 ^ 61 ≤ m) → IsClassOf k e m → IsJustified (record { class = opposite_of k; exponent = e; mantissa = m })
other_sign k m e a q n f x j c = record {
  mantissa_fits = f;
  exponent_fits = x;
  justified = j;
  classed = other_class k m e c (λ z. n (sym q ∙ z));
}
