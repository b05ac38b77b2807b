use Rattle.std.proofs.Common.{◌≡◌, ℕ, suc, ◌+◌, ◌-◌, ◌*◌, ◌/◌, ◌^◌, ◌<◌, ◌≤◌, inl, inr, Option, Some, None, arith, ap, sym, subst, ◌∙◌, zero-mul}
use Rattle.std.proofs.lemmas.Bool.{cases_lt, cases_eq}
use Rattle.std.proofs.lemmas.Nat.{pow_pos, le-div, mul-le}
use Rattle.std.proofs.Math.Nat.{mul-le-mul_right, mul-lt-mul_of_pos_right, lt_of_mul-lt-mul_right, mul_assoc, mul_comm, mul_right_comm, mul-pos, two-pow-succ, add-mul, one-mul, div-add-mod'}
use Rattle.pv_num.specs.Grid.{IsGridSize, unit}
use Rattle.pv_num.specs.Sizes.{size_of, IsSized, fine}
use Rattle.pv_num.specs.declared.magnitude.Magnitude.{Magnitude}
use Rattle.pv_num.specs.declared.magnitude.Toward.{Toward}
use Rattle.pv_num.specs.declared.magnitude.Toward.TheVariants.{Zero, Away}
use Rattle.pv_num.proofs.Align.{shifted_to, shifted_twice}
use Rattle.pv_num.proofs.Rounds.{gap, at_fine, fine_pos}
use Rattle.pv_num.proofs.Scales.{equal_sized, by_unit}

-- No size times b lies strictly between lo and hi.
pub record IsGap (b lo hi : ℕ) : Type 0 where
  pub none : (f : ℕ) → IsGridSize f → f * b < hi → f * b ≤ lo

-- Values in one gap are rounded alike.
pub inside_gap : (t : Toward) (b lo hi v w : ℕ) (r : Option Magnitude) → IsGap b lo hi → lo < v → v < hi → lo < w → w < hi → IsSized t v b r → IsSized t w b r
inside_gap Zero b lo hi v w None j a c d e h = h
inside_gap Zero b lo hi v w (Some r) j a c d e h =
    let l : size_of r * b ≤ v = h.below in
    let n : size_of r * b ≤ lo = j.none (size_of r) h.grid (omega (arith, l, c)) in
    record {
      grid = h.grid;
      below = omega (arith, n, d);
      greatest = λ f g l.
          let k : f * b ≤ lo = j.none f g (omega (arith, l, e)) in
          h.greatest f g (omega (arith, k, a));
    }
inside_gap Away b lo hi v w None j a c d e h = λ f g.
    let l : f * b < v = h f g in
    let k : f * b ≤ lo = j.none f g (omega (arith, l, c)) in
    omega (arith, k, d)
inside_gap Away b lo hi v w (Some r) j a c d e h =
    let l : v ≤ size_of r * b = h.above in
    let above : w ≤ size_of r * b = elim (cases_lt (size_of r * b) hi) [
      | inl k ↦ let m : size_of r * b ≤ lo = j.none (size_of r) h.grid k in absurd (omega (arith, m, l, a))
      | inr k ↦ omega (arith, k, e)
    ] in
    record {
      grid = h.grid;
      above = above;
      least = λ f g o. elim (cases_lt (f * b) hi) [
        | inl k ↦ let m : f * b ≤ lo = j.none f g k in absurd (omega (arith, m, o, d))
        | inr k ↦ h.least f g (omega (arith, k, c))
      ];
    }

power_gap : (q p s f : ℕ) → 2 ^ 61 ≤ q → IsGridSize f → f * 2 ^ s < (q + 1) * 2 ^ p → f * 2 ^ s ≤ q * 2 ^ p
power_gap q p s f h g l =
    elim (cases_lt p s) [
      | inl less ↦
          let e : s - p + p ≡ s = omega (arith, less) in
          let own : f * 2 ^ (s - p) * 2 ^ p ≡ f * 2 ^ s = shifted_to f (s - p) p s e in
          let k : f * 2 ^ (s - p) < q + 1 = lt_of_mul-lt-mul_right (2 ^ p) (subst (λ x. x < (q + 1) * 2 ^ p) (sym own) l) in
          let k' : f * 2 ^ (s - p) ≤ q = omega (arith, k) in
          subst (λ x. x ≤ q * 2 ^ p) own (mul-le-mul_right (2 ^ p) k')
      | inr more ↦
          let e : p - s + s ≡ p = omega (arith, more) in
          let own : q * 2 ^ (p - s) * 2 ^ s ≡ q * 2 ^ p = shifted_to q (p - s) s p e in
          let next : (q + 1) * 2 ^ (p - s) * 2 ^ s ≡ (q + 1) * 2 ^ p = shifted_to (q + 1) (p - s) s p e in
          let k : f < (q + 1) * 2 ^ (p - s) = lt_of_mul-lt-mul_right (2 ^ s) (subst (λ x. f * 2 ^ s < x) (sym next) l) in
          subst (λ x. f * 2 ^ s ≤ x) own (mul-le-mul_right (2 ^ s) (gap q (p - s) f (λ _. h) g k))
    ]

fine_gap : (q p f : ℕ) → 2 ^ 61 ≤ q → IsGridSize f → f * fine < (q + 1) * 2 ^ p → f * fine ≤ q * 2 ^ p
fine_gap q p f h g = at_fine (λ b. f * b < (q + 1) * 2 ^ p → f * b ≤ q * 2 ^ p) (λ s _. power_gap q p s f h g)

scaled_gap : (q p d : ℕ) → 2 ^ 61 ≤ q → IsGap (fine * d) (q * 2 ^ p * d) ((q + 1) * 2 ^ p * d)
scaled_gap q p d h = record {
  none = λ f g l.
      let a : f * fine * d < (q + 1) * 2 ^ p * d = subst (λ x. x < (q + 1) * 2 ^ p * d) (sym (mul_assoc f fine d)) l in
      let b : f * fine ≤ q * 2 ^ p = fine_gap q p f h g (lt_of_mul-lt-mul_right d a) in
      subst (λ x. x ≤ q * 2 ^ p * d) (mul_assoc f fine d) (mul-le-mul_right d b);
}

-- A quotient with many bits is rounded by twice its whole part, with 1 added where a rest is left.
pub division_sized : (t : Toward) (n d q rest s at : ℕ) (r : Option Magnitude) → 2 ^ 61 ≤ q → q * d + rest ≡ n → rest < d → (rest ≡ 0 → s ≡ 0) → (0 < rest → s ≡ 1) → IsSized t ((2 * q + s) * 2 ^ at) fine r → IsSized t (n * 2 ^ suc at) (fine * d) r
division_sized t n d q rest s at r h e l none some k =
    let dp : 0 < d = omega (arith, l) in
    let swap : (2 * q + s) * 2 ^ at * (fine * d) ≡ (2 * q + s) * 2 ^ at * d * fine = ap (λ x. (2 * q + s) * 2 ^ at * x) (mul_comm fine d) ∙ sym (mul_assoc ((2 * q + s) * 2 ^ at) d fine) in
    let here : IsSized t ((2 * q + s) * 2 ^ at * d) (fine * d) r = equal_sized t ((2 * q + s) * 2 ^ at) fine ((2 * q + s) * 2 ^ at * d) (fine * d) r fine_pos (mul-pos fine_pos dp) swap k in
    let u : 0 < 2 ^ at = pow_pos at in
    let two : 2 ^ suc at ≡ 2 ^ at + 2 ^ at = two-pow-succ at in
    let goal_value : n * 2 ^ suc at ≡ (q * d + rest) * (2 ^ at + 2 ^ at) = ap (λ x. x * 2 ^ suc at) (sym e) ∙ ap (λ x. (q * d + rest) * x) two in
    let low : q * 2 ^ suc at * d ≡ q * (2 ^ at + 2 ^ at) * d = ap (λ x. q * x * d) two in
    let high : (q + 1) * 2 ^ suc at * d ≡ (q + 1) * (2 ^ at + 2 ^ at) * d = ap (λ x. (q + 1) * x * d) two in
    elim (cases_eq rest 0) [
      | inl z ↦
          let a : (2 * q + s) * 2 ^ at * d ≡ (2 * q + 0) * 2 ^ at * d = ap (λ x. (2 * q + x) * 2 ^ at * d) (none z) in
          let b : n * 2 ^ suc at ≡ (q * d + 0) * (2 ^ at + 2 ^ at) = goal_value ∙ ap (λ x. (q * d + x) * (2 ^ at + 2 ^ at)) z in
          let same : (2 * q + s) * 2 ^ at * d ≡ n * 2 ^ suc at = omega (arith, a, b) in
          subst (λ x. IsSized t x (fine * d) r) same here
      | inr c ↦
          let p : 0 < rest = omega (arith, c) in
          let a : (2 * q + s) * 2 ^ at * d ≡ (2 * q + 1) * 2 ^ at * d = ap (λ x. (2 * q + x) * 2 ^ at * d) (some p) in
          let small : rest * 2 ^ at < d * 2 ^ at = mul-lt-mul_of_pos_right l u in
          let pos : 0 < rest * 2 ^ at = mul-pos p u in
          let dpos : 0 < d * 2 ^ at = mul-pos dp u in
          inside_gap t (fine * d) (q * 2 ^ suc at * d) ((q + 1) * 2 ^ suc at * d) ((2 * q + s) * 2 ^ at * d) (n * 2 ^ suc at) r (scaled_gap q (suc at) d h)
          (omega (arith, a, low, dpos)) (omega (arith, a, high, dpos)) (omega (arith, low, goal_value, pos)) (omega (arith, high, goal_value, small)) here
    ]

-- ---- The quotient of two sizes

pub large_quotient : (n d : ℕ) → 2 ^ 126 ≤ 2 * n → 0 < d → d < 2 ^ 62 → 2 ^ 61 ≤ n / d
large_quotient n d h p l =
    let a : 2 ^ 61 * d ≤ 2 ^ 61 * 2 ^ 62 = mul-le (2 ^ 61) d (2 ^ 61) (2 ^ 62) (omega arith) (omega (arith, l)) in
    le-div (2 ^ 61) n d p (omega (arith, a, h))

pub quotient_rest : (n d : ℕ) → 0 < d → n - n / d * d < d
quotient_rest n d p = omega (arith, div-add-mod' n d)

pub quotient_whole : (n d : ℕ) → n / d * d + (n - n / d * d) ≡ n
quotient_whole n d = omega (arith, div-add-mod' n d)

-- 2 ^ 1536 in units and finer units.
by_both : (p k : ℕ) → p * 2 ^ (k + 1536) ≡ p * 2 ^ k * unit * fine
by_both p k =
    at_fine (λ b. p * 2 ^ (k + 1536) ≡ p * 2 ^ k * unit * b) (λ s q.
    let e : k + 512 + s ≡ k + 1536 = omega (arith, q) in
    sym (ap (λ x. x * 2 ^ s) (sym (by_unit p k)) ∙ shifted_to p (k + 512) s (k + 1536) e))

pub quotient_sized : (t : Toward) (m e d f shift at : ℕ) (r : Option Magnitude) → 0 < d → suc at + shift + f ≡ e + 1536 → IsSized t (m * 2 ^ shift * 2 ^ suc at) (fine * d) r → IsSized t (m * 2 ^ e * unit) (d * 2 ^ f) r
quotient_sized t m e d f shift at r p w h =
    let own : m * 2 ^ shift * 2 ^ suc at ≡ m * 2 ^ (shift + suc at) = shifted_twice m shift (suc at) in
    let k : shift + suc at + f ≡ e + 1536 = omega (arith, w) in
    let all : m * 2 ^ (shift + suc at) * 2 ^ f ≡ m * 2 ^ e * unit * fine = shifted_to m (shift + suc at) f (e + 1536) k ∙ by_both m e in
    let same : m * 2 ^ shift * 2 ^ suc at * (d * 2 ^ f) ≡ m * 2 ^ e * unit * (fine * d) =
    ap (λ x. x * (d * 2 ^ f)) own
    ∙ ap (λ x. m * 2 ^ (shift + suc at) * x) (mul_comm d (2 ^ f))
    ∙ sym (mul_assoc (m * 2 ^ (shift + suc at)) (2 ^ f) d)
    ∙ ap (λ x. x * d) all
    ∙ mul_assoc (m * 2 ^ e * unit) fine d in
    equal_sized t (m * 2 ^ shift * 2 ^ suc at) (fine * d) (m * 2 ^ e * unit) (d * 2 ^ f) r (mul-pos fine_pos p) (mul-pos p (pow_pos f)) same h

-- ---- The ratio of two whole numbers

pub large_ratio : (n d q rest : ℕ) → 2 ^ 126 ≤ 2 * n → d < 2 ^ 120 → rest < d → q * d + rest ≡ n * 2 ^ 63 → 2 ^ 61 ≤ q
large_ratio n d q rest h l k e =
    elim (cases_lt q (2 ^ 61)) [
      | inl less ↦
          let a : (q + 1) * d ≤ 2 ^ 61 * 2 ^ 120 = mul-le (q + 1) d (2 ^ 61) (2 ^ 120) (omega (arith, less)) (omega (arith, l)) in
          absurd (omega (arith, a, e, k, h, add-mul q 1 d, one-mul d))
      | inr more ↦ more
    ]

omega_regroup : (p a u q f : ℕ) → p * a * u * q * f ≡ p * u * (f * (q * a))
omega_regroup p a u q f = grind arith

pub ratio_sized : (t : Toward) (p q up along at : ℕ) (r : Option Magnitude) → 0 < q → suc at + 63 + up ≡ along + 1536 → IsSized t (p * 2 ^ up * 2 ^ 63 * 2 ^ suc at) (fine * (q * 2 ^ along)) r → IsSized t (p * unit) q r
ratio_sized t p q up along at r l w h =
    let k : up + 63 + suc at ≡ along + 1536 = omega (arith, w) in
    let own : p * 2 ^ up * 2 ^ 63 * 2 ^ suc at ≡ p * 2 ^ along * unit * fine = ap (λ x. x * 2 ^ suc at) (shifted_twice p up 63) ∙ shifted_to p (up + 63) (suc at) (along + 1536) k ∙ by_both p along in
    let same : p * 2 ^ up * 2 ^ 63 * 2 ^ suc at * q ≡ p * unit * (fine * (q * 2 ^ along)) =
    ap (λ x. x * q) own
    ∙ mul_right_comm (p * 2 ^ along * unit) fine q
    ∙ omega_regroup p (2 ^ along) unit q fine in
    equal_sized t (p * 2 ^ up * 2 ^ 63 * 2 ^ suc at) (fine * (q * 2 ^ along)) (p * unit) q r (mul-pos fine_pos (mul-pos l (pow_pos along))) l same h

-- Zero over any divisor is rounded as zero is.
pub zero_sized_at : (t : Toward) (v b : ℕ) (r : Option Magnitude) → v ≡ 0 → 0 < b → IsSized t (0 * 2 ^ 0) fine r → IsSized t v b r
zero_sized_at t v b r z p h =
    let e : 0 * 2 ^ 0 * b ≡ v * fine = ap (λ x. x * b) (zero-mul (2 ^ 0)) ∙ zero-mul b ∙ sym (ap (λ x. x * fine) z ∙ zero-mul fine) in
    equal_sized t (0 * 2 ^ 0) fine v b r fine_pos p e h

pub divisor_pos : (m e : ℕ) → 0 < m * 2 ^ e → 0 < m
divisor_pos m e h =
    elim (cases_eq m 0) [
      | inl z ↦ let k : m * 2 ^ e ≡ 0 = ap (λ x. x * 2 ^ e) z ∙ zero-mul (2 ^ e) in absurd (omega (arith, k, h))
      | inr c ↦ omega (arith, c)
    ]
