use Rattle.std.proofs.Common.{◌≡◌, ℕ, ◌+◌, ◌-◌, ◌*◌, ◌%◌, ◌^◌, ◌<◌, ◌≤◌, Option, Some, None, arith, inl, inr, ap, sym, subst, ◌∙◌, zero-mul}
use Rattle.std.proofs.lemmas.Bool.{cases_lt, cases_eq}
use Rattle.std.proofs.lemmas.Nat.{pow_pos, pow-add, shl_below}
use Rattle.std.proofs.Math.Nat.{mul-le-mul_right, mul-pos, lt_of_mul-lt-mul_right, le_of_mul-le-mul_right, mul_comm, add-mul, mul-sub, lt_of_lt_of_le, lt_of_le_of_lt, pow-le-pow_right, mod-eq_of_lt, sub-zero}
use Rattle.pv_num.specs.Sizes.{size_of, IsSized, fine}
use Rattle.pv_num.specs.declared.magnitude.Magnitude.{Magnitude}
use Rattle.pv_num.specs.declared.magnitude.Toward.{Toward}
use Rattle.pv_num.specs.declared.magnitude.Toward.TheVariants.{Zero, Away}
use Rattle.pv_num.proofs.Sizes.{exponent_orders}
use Rattle.pv_num.proofs.Align.{shifted_to, shifted_twice}
use Rattle.pv_num.proofs.Rounds.{gap, above_gap, at_fine}

pub exponents_ordered : (m e n f : ℕ) → m < 2 ^ 62 → (0 < f → 2 ^ 61 ≤ n) → n * 2 ^ f ≤ m * 2 ^ e → f ≤ e
exponents_ordered m e n f h j l =
    elim (cases_lt e f) [
      | inl k ↦ let o : m * 2 ^ e < n * 2 ^ f = exponent_orders m e n f h j k in absurd (omega (arith, o, l))
      | inr k ↦ k
    ]

-- ---- Near sizes: the sum is exact before it is rounded

pub whole_shift : (m d : ℕ) → m < 2 ^ 62 → d ≤ 64 → (m * 2 ^ d) % 2 ^ 128 ≡ m * 2 ^ d
whole_shift m d h k =
    let two : 0 < 2 = omega arith in
    let w : 62 + d ≤ 128 = omega arith in
    mod-eq_of_lt (lt_of_lt_of_le (shl_below m 62 d h) (pow-le-pow_right two w))

pub near_sum : (m e n f d at : ℕ) → m < 2 ^ 62 → d ≤ 64 → d + f ≡ e → ((m * 2 ^ d) % 2 ^ 128 + n) * 2 ^ (f + at) ≡ (m * 2 ^ e + n * 2 ^ f) * 2 ^ at
near_sum m e n f d at h k q =
    ap (λ x. (x + n) * 2 ^ (f + at)) (whole_shift m d h k)
    ∙ sym (shifted_twice (m * 2 ^ d + n) f at)
    ∙ ap (λ x. x * 2 ^ at) (add-mul (m * 2 ^ d) n (2 ^ f) ∙ ap (λ x. x + n * 2 ^ f) (shifted_to m d f e q))

pub sub-mul : (a b c : ℕ) → (a - b) * c ≡ a * c - b * c
sub-mul a b c = mul_comm (a - b) c ∙ mul-sub c a b ∙ ap (λ x. x - c * b) (mul_comm c a) ∙ ap (λ x. a * c - x) (mul_comm c b)

pub near_difference : (m e n f d at : ℕ) → m < 2 ^ 62 → d ≤ 64 → d + f ≡ e → ((m * 2 ^ d) % 2 ^ 128 - n) * 2 ^ (f + at) ≡ (m * 2 ^ e - n * 2 ^ f) * 2 ^ at
near_difference m e n f d at h k q =
    ap (λ x. (x - n) * 2 ^ (f + at)) (whole_shift m d h k)
    ∙ sym (shifted_twice (m * 2 ^ d - n) f at)
    ∙ ap (λ x. x * 2 ^ at) (sub-mul (m * 2 ^ d) n (2 ^ f) ∙ ap (λ x. x - n * 2 ^ f) (shifted_to m d f e q))

pub near_fits : (m e n f d : ℕ) → m < 2 ^ 62 → d ≤ 64 → d + f ≡ e → n * 2 ^ f ≤ m * 2 ^ e → n ≤ (m * 2 ^ d) % 2 ^ 128
near_fits m e n f d h k q l =
    subst (λ x. n ≤ x) (sym (whole_shift m d h k))
    (le_of_mul-le-mul_right (subst (λ x. n * 2 ^ f ≤ x) (sym (shifted_to m d f e q)) l) (pow_pos f))

-- ---- Values between the same two neighbours are rounded alike

pub inside : (t : Toward) (m k b v w : ℕ) (r : Option Magnitude) → (0 < k → 2 ^ 61 ≤ m) → m * 2 ^ k * b < v → v < (m + 1) * 2 ^ k * b → m * 2 ^ k * b < w → w < (m + 1) * 2 ^ k * b → IsSized t v b r → IsSized t w b r
inside Zero m k b v w None j lo hi low high h = h
inside Zero m k b v w (Some r) j lo hi low high h =
    let n : size_of r ≤ m * 2 ^ k = gap m k (size_of r) j h.grid (lt_of_mul-lt-mul_right b (lt_of_le_of_lt h.below hi)) in
    let n' : size_of r * b ≤ m * 2 ^ k * b = mul-le-mul_right b n in
    record {
      grid = h.grid;
      below = omega (arith, n', low);
      greatest = λ f g l.
          let f' : f * b ≤ m * 2 ^ k * b = mul-le-mul_right b (gap m k f j g (lt_of_mul-lt-mul_right b (lt_of_le_of_lt l high))) in
          h.greatest f g (omega (arith, f', lo));
    }
inside Away m k b v w None j lo hi low high h = λ f g.
    let l : f * b < v = h f g in
    let f' : f * b ≤ m * 2 ^ k * b = mul-le-mul_right b (gap m k f j g (lt_of_mul-lt-mul_right b (omega (arith, l, hi)))) in
    omega (arith, f', low)
inside Away m k b v w (Some r) j lo hi low high h =
    let n : (m + 1) * 2 ^ k ≤ size_of r = above_gap m k (size_of r) j h.grid (lt_of_mul-lt-mul_right b (lt_of_lt_of_le lo h.above)) in
    let n' : (m + 1) * 2 ^ k * b ≤ size_of r * b = mul-le-mul_right b n in
    record {
      grid = h.grid;
      above = omega (arith, n', high);
      least = λ f g l.
          let f' : (m + 1) * 2 ^ k * b ≤ f * b = mul-le-mul_right b (above_gap m k f j g (lt_of_mul-lt-mul_right b (lt_of_lt_of_le low l))) in
          h.least f g (omega (arith, f', hi));
    }

-- The same, with the neighbours written as multiples of 2 ^ p, p at least the exponent of `fine`.
pub inside_fine : (t : Toward) (m p v w : ℕ) (r : Option Magnitude) → 2 ^ 61 ≤ m → 1024 ≤ p → m * 2 ^ p < v → v < (m + 1) * 2 ^ p → m * 2 ^ p < w → w < (m + 1) * 2 ^ p → IsSized t v fine r → IsSized t w fine r
inside_fine t m p v w r j k lo hi low high =
    at_fine (λ b. IsSized t v b r → IsSized t w b r) (λ s is.
    let q : p - s + s ≡ p = omega (arith, is) in
    let own : m * 2 ^ (p - s) * 2 ^ s ≡ m * 2 ^ p = shifted_to m (p - s) s p q in
    let next : (m + 1) * 2 ^ (p - s) * 2 ^ s ≡ (m + 1) * 2 ^ p = shifted_to (m + 1) (p - s) s p q in
    inside t m (p - s) (2 ^ s) v w r (λ _. j)
    (subst (λ x. x < v) (sym own) lo)
    (subst (λ x. v < x) (sym next) hi)
    (subst (λ x. x < w) (sym own) low)
    (subst (λ x. w < x) (sym next) high))

-- ---- Far sizes: the smaller one only decides whether the sum is exact

-- What the smaller size is, against 2 ^ (g + at).
pub small_part : (n f g at : ℕ) → n < 2 ^ 62 → f < g → n * 2 ^ f * 2 ^ at < 2 ^ 61 * 2 ^ (g + at)
small_part n f g at h l =
    let two : 0 < 2 = omega arith in
    let k : 62 + (f + at) ≤ 61 + (g + at) = omega arith in
    let a : n * 2 ^ (f + at) < 2 ^ (62 + (f + at)) = shl_below n 62 (f + at) h in
    let b : 2 ^ (62 + (f + at)) ≤ 2 ^ (61 + (g + at)) = pow-le-pow_right two k in
    subst (λ x. x < 2 ^ 61 * 2 ^ (g + at)) (sym (shifted_twice n f at)) (subst (λ x. n * 2 ^ (f + at) < x) (pow-add 2 61 (g + at)) (lt_of_lt_of_le a b))

pub large_part : (m g at : ℕ) → m * 2 ^ (g + 64) * 2 ^ at ≡ m * 2 ^ 64 * 2 ^ (g + at)
large_part m g at =
    let e : g + 64 ≡ 64 + g = omega arith in
    ap (λ x. m * 2 ^ x * 2 ^ at) e
    ∙ ap (λ x. x * 2 ^ at) (sym (shifted_twice m 64 g))
    ∙ shifted_twice (m * 2 ^ 64) g at

power_up : (x p at g c : ℕ) → c + (g + at) ≡ p → x * 2 ^ p ≡ x * 2 ^ c * 2 ^ (g + at)
power_up x p at g c q = sym (shifted_to x c (g + at) p q)

far_some : (t : Toward) (m n f g at : ℕ) (r : Option Magnitude) → 2 ^ 61 ≤ m → n < 2 ^ 62 → 0 < n → f < g → 1023 ≤ at → IsSized t ((m * 2 ^ 64 + 1) * 2 ^ (g + at)) fine r → IsSized t ((m * 2 ^ (g + 64) + n * 2 ^ f) * 2 ^ at) fine r
far_some t m n f g at r j h p l k s =
    let q : 64 + (g + at) ≡ 64 + g + at = omega arith in
    let own : m * 2 ^ (64 + g + at) ≡ m * 2 ^ 64 * 2 ^ (g + at) = power_up m (64 + g + at) at g 64 q in
    let next : (m + 1) * 2 ^ (64 + g + at) ≡ (m + 1) * 2 ^ 64 * 2 ^ (g + at) = power_up (m + 1) (64 + g + at) at g 64 q in
    let unit : 0 < 2 ^ (g + at) = pow_pos (g + at) in
    let low : n * 2 ^ f * 2 ^ at < 2 ^ 61 * 2 ^ (g + at) = small_part n f g at h l in
    let pos : 0 < n * 2 ^ f * 2 ^ at = mul-pos (mul-pos p (pow_pos f)) (pow_pos at) in
    let both : (m * 2 ^ (g + 64) + n * 2 ^ f) * 2 ^ at ≡ m * 2 ^ 64 * 2 ^ (g + at) + n * 2 ^ f * 2 ^ at = add-mul (m * 2 ^ (g + 64)) (n * 2 ^ f) (2 ^ at) ∙ ap (λ x. x + n * 2 ^ f * 2 ^ at) (large_part m g at) in
    let w : 1024 ≤ 64 + g + at = omega arith in
    inside_fine t m (64 + g + at) ((m * 2 ^ 64 + 1) * 2 ^ (g + at)) ((m * 2 ^ (g + 64) + n * 2 ^ f) * 2 ^ at) r j w
    (omega (arith, own, unit)) (omega (arith, next, unit)) (omega (arith, own, both, pos)) (omega (arith, next, both, low, unit)) s

pub far_sum : (t : Toward) (m n f g at tr : ℕ) (r : Option Magnitude) → 2 ^ 61 ≤ m → m < 2 ^ 62 → n < 2 ^ 62 → f < g → 1023 ≤ at → (n ≡ 0 → tr ≡ 0) → (0 < n → tr ≡ 1) → IsSized t (((m * 2 ^ 64) % 2 ^ 128 + tr) * 2 ^ (g + at)) fine r → IsSized t ((m * 2 ^ (g + 64) + n * 2 ^ f) * 2 ^ at) fine r
far_sum t m n f g at tr r j fits h l k none some s =
    let w : 64 ≤ 64 = omega arith in
    let whole : (m * 2 ^ 64) % 2 ^ 128 ≡ m * 2 ^ 64 = whole_shift m 64 fits w in
    let s' : IsSized t ((m * 2 ^ 64 + tr) * 2 ^ (g + at)) fine r = subst (λ x. IsSized t ((x + tr) * 2 ^ (g + at)) fine r) whole s in
    elim (cases_eq n 0) [
      | inl z ↦
          let e : (m * 2 ^ 64 + tr) * 2 ^ (g + at) ≡ (m * 2 ^ (g + 64) + n * 2 ^ f) * 2 ^ at =
          omega (arith, none z, ap (λ x. x * 2 ^ f * 2 ^ at) z, large_part m g at, ap (λ x. x * 2 ^ (g + at)) (none z), zero-mul (2 ^ f * 2 ^ at)) in
          subst (λ x. IsSized t x fine r) e s'
      | inr c ↦
          let p : 0 < n = omega (arith, c) in
          far_some t m n f g at r j h p l k (subst (λ x. IsSized t ((m * 2 ^ 64 + x) * 2 ^ (g + at)) fine r) (some p) s')
    ]

far_less_some : (t : Toward) (m n f g at : ℕ) (r : Option Magnitude) → 2 ^ 61 ≤ m → n < 2 ^ 62 → 0 < n → f < g → 1023 ≤ at → IsSized t ((m * 2 ^ 64 - 1) * 2 ^ (g + at)) fine r → IsSized t ((m * 2 ^ (g + 64) - n * 2 ^ f) * 2 ^ at) fine r
far_less_some t m n f g at r j h p l k s =
    let q : 63 + (g + at) ≡ 63 + g + at = omega arith in
    let half : 2 * m - 1 + 1 ≡ 2 * m = omega arith in
    let own : (2 * m - 1) * 2 ^ (63 + g + at) ≡ (2 * m - 1) * 2 ^ 63 * 2 ^ (g + at) = power_up (2 * m - 1) (63 + g + at) at g 63 q in
    let next : (2 * m - 1 + 1) * 2 ^ (63 + g + at) ≡ 2 * m * 2 ^ 63 * 2 ^ (g + at) = ap (λ x. x * 2 ^ (63 + g + at)) half ∙ power_up (2 * m) (63 + g + at) at g 63 q in
    let step : (2 * m - 1) * 2 ^ 63 * 2 ^ (g + at) + 2 ^ 63 * 2 ^ (g + at) ≡ 2 * m * 2 ^ 63 * 2 ^ (g + at) = omega (arith, ap (λ x. x * 2 ^ 63 * 2 ^ (g + at)) half, add-mul (2 * m - 1) 1 (2 ^ 63), add-mul ((2 * m - 1) * 2 ^ 63) (1 * 2 ^ 63) (2 ^ (g + at))) in
    let unit : 0 < 2 ^ (g + at) = pow_pos (g + at) in
    let low : n * 2 ^ f * 2 ^ at < 2 ^ 61 * 2 ^ (g + at) = small_part n f g at h l in
    let pos : 0 < n * 2 ^ f * 2 ^ at = mul-pos (mul-pos p (pow_pos f)) (pow_pos at) in
    let big : 1 * 2 ^ (g + at) ≤ m * 2 ^ (g + at) = mul-le-mul_right (2 ^ (g + at)) (omega arith) in
    let both : (m * 2 ^ (g + 64) - n * 2 ^ f) * 2 ^ at ≡ m * 2 ^ 64 * 2 ^ (g + at) - n * 2 ^ f * 2 ^ at = sub-mul (m * 2 ^ (g + 64)) (n * 2 ^ f) (2 ^ at) ∙ ap (λ x. x - n * 2 ^ f * 2 ^ at) (large_part m g at) in
    let first : (m * 2 ^ 64 - 1) * 2 ^ (g + at) ≡ m * 2 ^ 64 * 2 ^ (g + at) - 1 * 2 ^ (g + at) = sub-mul (m * 2 ^ 64) 1 (2 ^ (g + at)) in
    let w : 1024 ≤ 63 + g + at = omega arith in
    let j' : 2 ^ 61 ≤ 2 * m - 1 = omega arith in
    inside_fine t (2 * m - 1) (63 + g + at) ((m * 2 ^ 64 - 1) * 2 ^ (g + at)) ((m * 2 ^ (g + 64) - n * 2 ^ f) * 2 ^ at) r j' w
    (omega (arith, own, step, unit, first, big)) (omega (arith, next, unit, first, big)) (omega (arith, own, step, both, low, big)) (omega (arith, next, both, pos, low, big)) s

pub far_difference : (t : Toward) (m n f g at tr : ℕ) (r : Option Magnitude) → 2 ^ 61 ≤ m → m < 2 ^ 62 → n < 2 ^ 62 → f < g → 1023 ≤ at → (n ≡ 0 → tr ≡ 0) → (0 < n → tr ≡ 1) → IsSized t (((m * 2 ^ 64) % 2 ^ 128 - tr) * 2 ^ (g + at)) fine r → IsSized t ((m * 2 ^ (g + 64) - n * 2 ^ f) * 2 ^ at) fine r
far_difference t m n f g at tr r j fits h l k none some s =
    let w : 64 ≤ 64 = omega arith in
    let whole : (m * 2 ^ 64) % 2 ^ 128 ≡ m * 2 ^ 64 = whole_shift m 64 fits w in
    let s' : IsSized t ((m * 2 ^ 64 - tr) * 2 ^ (g + at)) fine r = subst (λ x. IsSized t ((x - tr) * 2 ^ (g + at)) fine r) whole s in
    elim (cases_eq n 0) [
      | inl z ↦
          let a : (m * 2 ^ 64 - tr) * 2 ^ (g + at) ≡ m * 2 ^ 64 * 2 ^ (g + at) = ap (λ x. (m * 2 ^ 64 - x) * 2 ^ (g + at)) (none z) ∙ ap (λ x. x * 2 ^ (g + at)) (sub-zero (m * 2 ^ 64)) in
          let b : (m * 2 ^ (g + 64) - n * 2 ^ f) * 2 ^ at ≡ m * 2 ^ (g + 64) * 2 ^ at = ap (λ x. (m * 2 ^ (g + 64) - x * 2 ^ f) * 2 ^ at) z ∙ ap (λ x. (m * 2 ^ (g + 64) - x) * 2 ^ at) (zero-mul (2 ^ f)) ∙ ap (λ x. x * 2 ^ at) (sub-zero (m * 2 ^ (g + 64))) in
          subst (λ x. IsSized t x fine r) (a ∙ sym (large_part m g at) ∙ sym b) s'
      | inr c ↦
          let p : 0 < n = omega (arith, c) in
          far_less_some t m n f g at r j h p l k (subst (λ x. IsSized t ((m * 2 ^ 64 - x) * 2 ^ (g + at)) fine r) (some p) s')
    ]
