use Rattle.std.proofs.Common.{rules, IsTrue, nat_eq, Fits, w64, ◌≡◌, ℕ, suc, ◌+◌, ◌-◌, ◌*◌, ◌/◌, ◌%◌, ◌^◌, ◌<◌, ◌≤◌, ◌↔◌, arith, inl, inr, ap, sym, subst, ◌∙◌}
use Rattle.std.proofs.lemmas.Bool.{cases_lt, eqb-true, eq-eqb}
use Rattle.std.proofs.lemmas.Nat.{pow_pos, pow-add, shl_below, shr_below, leading_top}
use lib.Count.{count_leading_zeros}
use Rattle.std.proofs.Math.Nat.{two-pow-succ, mul-le-mul_right, mul-lt-mul_of_pos_right, lt_of_mul-lt-mul_right, mul_assoc, add-mul, one-mul, lt_of_lt_of_le, pow-le-pow_right, mod-eq_of_lt, div-mul-le_self, lt-div-mul-add, eq_of_mul-eq-mul_right}

-- a * 2 ^ d * 2 ^ c is a * 2 ^ (d + c)
pub shifted_twice : (a d c : ℕ) → a * 2 ^ d * 2 ^ c ≡ a * 2 ^ (d + c)
shifted_twice a d c = mul_assoc a (2 ^ d) (2 ^ c) ∙ ap (λ x. a * x) (sym (pow-add 2 d c))

pub shifted_to : (a d c e : ℕ) → d + c ≡ e → a * 2 ^ d * 2 ^ c ≡ a * 2 ^ e
shifted_to a d c e h = shifted_twice a d c ∙ ap (λ x. a * 2 ^ x) h

pub one_below : (a c d : ℕ) → 1 ≤ a → a * 2 ^ c < 2 ^ d → c < d
one_below a c d h l =
    elim (cases_lt c d) [
      | inl k ↦ k
      | inr k ↦
          let two : 0 < 2 = omega arith in
          let up : 2 ^ d ≤ 2 ^ c = pow-le-pow_right two k in
          let more : 1 * 2 ^ c ≤ a * 2 ^ c = mul-le-mul_right (2 ^ c) h in
          absurd (omega (arith, one-mul (2 ^ c)))
    ]

pub left_fits : (a d c at : ℕ) → d + c ≡ at → a * 2 ^ at < 2 ^ (62 + c) → a * 2 ^ d < 2 ^ 62
left_fits a d c at e h =
    let l : a * 2 ^ d * 2 ^ c < 2 ^ 62 * 2 ^ c = subst (λ x. x < 2 ^ 62 * 2 ^ c) (sym (shifted_to a d c at e)) (subst (λ x. a * 2 ^ at < x) (pow-add 2 62 c) h) in
    lt_of_mul-lt-mul_right (2 ^ c) l

pub kept_fits : (a d at c : ℕ) → d + at ≡ c → a * 2 ^ at < 2 ^ (62 + c) → a / 2 ^ d < 2 ^ 62
kept_fits a d at c e h =
    let q : 62 + c ≡ 62 + d + at = omega arith in
    let split : 2 ^ (62 + c) ≡ 2 ^ (62 + d) * 2 ^ at = ap (λ x. 2 ^ x) q ∙ pow-add 2 (62 + d) at in
    let l : a * 2 ^ at < 2 ^ (62 + d) * 2 ^ at = subst (λ x. a * 2 ^ at < x) split h in
    shr_below a 62 d (lt_of_mul-lt-mul_right (2 ^ at) l)

pub kept_below : (a d at c : ℕ) → d + at ≡ c → a / 2 ^ d * 2 ^ c ≤ a * 2 ^ at
kept_below a d at c e =
    subst (λ x. x ≤ a * 2 ^ at) (shifted_to (a / 2 ^ d) d at c e) (mul-le-mul_right (2 ^ at) (div-mul-le_self a (2 ^ d)))

pub kept_above : (a d at c : ℕ) → d + at ≡ c → a * 2 ^ at < (a / 2 ^ d + 1) * 2 ^ c
kept_above a d at c e =
    let one : a < a / 2 ^ d * 2 ^ d + 2 ^ d = lt-div-mul-add (pow_pos d) in
    let l : a < (a / 2 ^ d + 1) * 2 ^ d = omega (arith, add-mul (a / 2 ^ d) 1 (2 ^ d), one-mul (2 ^ d)) in
    subst (λ x. a * 2 ^ at < x) (shifted_to (a / 2 ^ d + 1) d at c e) (mul-lt-mul_of_pos_right l (pow_pos at))

pub kept_exact : (a d at c : ℕ) → d + at ≡ c → (a / 2 ^ d * 2 ^ d ≡ a) ↔ (a / 2 ^ d * 2 ^ c ≡ a * 2 ^ at)
kept_exact a d at c e = (
  λ h. sym (shifted_to (a / 2 ^ d) d at c e) ∙ ap (λ x. x * 2 ^ at) h,
  λ h. eq_of_mul-eq-mul_right (2 ^ at) (pow_pos at) (a / 2 ^ d * 2 ^ d) a (shifted_to (a / 2 ^ d) d at c e ∙ h),
)

-- Where more is dropped than there is, nothing is kept.
pub all_dropped : (a d at c : ℕ) → d + at ≡ c → 128 ≤ d → a < 2 ^ 128 → a * 2 ^ at < 1 * 2 ^ c
all_dropped a d at c e h l =
    let two : 0 < 2 = omega arith in
    let less : a < 2 ^ d = lt_of_lt_of_le l (pow-le-pow_right two h) in
    let both : a * 2 ^ at < 2 ^ d * 2 ^ at = mul-lt-mul_of_pos_right less (pow_pos at) in
    subst (λ x. a * 2 ^ at < x) (sym (pow-add 2 d at) ∙ ap (λ x. 2 ^ x) e ∙ sym (one-mul (2 ^ c))) both

pub is_small : (n : ℕ) → n < 2 ^ 62 → Fits w64 n
is_small n h = search rules

pub left_whole : (a d c at : ℕ) → d + c ≡ at → a * 2 ^ at < 2 ^ (62 + c) → (a * 2 ^ d) % 2 ^ 128 ≡ a * 2 ^ d
left_whole a d c at e h =
    let l : a * 2 ^ d < 2 ^ 62 = left_fits a d c at e h in
    let k : a * 2 ^ d < 2 ^ 128 = omega arith in
    mod-eq_of_lt k

pub left_exact : (a d c at : ℕ) → d + c ≡ at → a * 2 ^ at < 2 ^ (62 + c) → (a * 2 ^ d) % 2 ^ 128 * 2 ^ c ≡ a * 2 ^ at
left_exact a d c at e h = ap (λ x. x * 2 ^ c) (left_whole a d c at e h) ∙ shifted_to a d c at e

pub left_next : (a d c at : ℕ) → d + c ≡ at → a * 2 ^ at < 2 ^ (62 + c) → a * 2 ^ at < ((a * 2 ^ d) % 2 ^ 128 + 1) * 2 ^ c
left_next a d c at e h =
    omega (arith, left_exact a d c at e h, add-mul ((a * 2 ^ d) % 2 ^ 128) 1 (2 ^ c), one-mul (2 ^ c), pow_pos c)

pub kept_whole : (a d : ℕ) → a < 2 ^ 128 → (a / 2 ^ d * 2 ^ d) % 2 ^ 128 ≡ a / 2 ^ d * 2 ^ d
kept_whole a d h =
    let l : a / 2 ^ d * 2 ^ d ≤ a = div-mul-le_self a (2 ^ d) in
    let k : a / 2 ^ d * 2 ^ d < 2 ^ 128 = omega arith in
    mod-eq_of_lt k

pub kept_tested : (a d at c : ℕ) → d + at ≡ c → a < 2 ^ 128 → IsTrue (nat_eq ((a / 2 ^ d * 2 ^ d) % 2 ^ 128) a) ↔ (a / 2 ^ d * 2 ^ c ≡ a * 2 ^ at)
kept_tested a d at c e h = (
  λ t. (kept_exact a d at c e).0 (sym (kept_whole a d h) ∙ eqb-true _ _ t),
  λ q. eq-eqb _ _ (kept_whole a d h ∙ (kept_exact a d at c e).1 q),
)

-- ---- Bit lengths

pub bits_above : (a : ℕ) → 0 < a → a < 2 ^ 128 → a < 2 ^ (128 - count_leading_zeros 128 a)
bits_above a p h =
    let (j, e, low, high) = leading_top 128 a p h in
    let q : suc j ≡ 128 - count_leading_zeros 128 a = omega arith in
    subst (λ k. a < 2 ^ k) q high

pub bits_below : (a : ℕ) → 0 < a → a < 2 ^ 128 → 2 ^ (128 - count_leading_zeros 128 a) ≤ 2 * a
bits_below a p h =
    let (j, e, low, high) = leading_top 128 a p h in
    let q : suc j ≡ 128 - count_leading_zeros 128 a = omega arith in
    let twice : 2 ^ suc j ≤ 2 * a = omega (arith, two-pow-succ j) in
    subst (λ k. 2 ^ k ≤ 2 * a) q twice

-- ---- Exponents of the mantissa's unit

pub fits_under : (l at k parts : ℕ) → parts < 2 ^ l → l + at ≤ k → parts * 2 ^ at < 2 ^ k
fits_under l at k parts h e =
    let two : 0 < 2 = omega arith in
    lt_of_lt_of_le (shl_below parts l at h) (pow-le-pow_right two e)

pub whole_fits : (m c v : ℕ) → m * 2 ^ c ≤ v → v < 2 ^ (62 + c) → m < 2 ^ 62
whole_fits m c v h l =
    let b : m * 2 ^ c < 2 ^ 62 * 2 ^ c = subst (λ x. m * 2 ^ c < x) (pow-add 2 62 c) (omega (arith, h, l)) in
    lt_of_mul-lt-mul_right (2 ^ c) b

pub whole_justified : (l at c m parts : ℕ) → l + at ≡ 62 + c → 2 ^ l ≤ 2 * parts → parts * 2 ^ at < (m + 1) * 2 ^ c → 2 ^ 61 ≤ m
whole_justified l at c m parts e low high =
    let left : 2 ^ l * 2 ^ at ≤ 2 * parts * 2 ^ at = mul-le-mul_right (2 ^ at) low in
    let same : 2 ^ l * 2 ^ at ≡ 2 ^ 62 * 2 ^ c = sym (pow-add 2 l at) ∙ ap (λ x. 2 ^ x) e ∙ pow-add 2 62 c in
    let twice : 2 * parts * 2 ^ at ≡ 2 * (parts * 2 ^ at) = mul_assoc 2 parts (2 ^ at) in
    let again : 2 * (m + 1) * 2 ^ c ≡ 2 * ((m + 1) * 2 ^ c) = mul_assoc 2 (m + 1) (2 ^ c) in
    let both : 2 ^ 62 * 2 ^ c < 2 * (m + 1) * 2 ^ c = omega (arith, left, same, twice, again, high) in
    let less : 2 ^ 62 < 2 * (m + 1) = lt_of_mul-lt-mul_right (2 ^ c) both in
    omega arith
