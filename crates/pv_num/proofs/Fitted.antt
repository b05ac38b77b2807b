use Rattle.std.proofs.Common.{◌≡◌, ℕ, suc, zero, ◌+◌, ◌-◌, ◌*◌, ◌^◌, ◌<◌, ◌≤◌, Option, Some, None, inl, inr, arith, refl, ap, sym, subst, ◌∙◌, one-mul, mul-one, add-mul, mul_assoc}
use Rattle.std.proofs.lemmas.Bool.{cases_lt}
use Rattle.std.proofs.lemmas.Nat.{pow_pos, pow-add}
use Rattle.std.proofs.Math.Nat.{mul-le-mul_right, mul-lt-mul_of_pos_right, lt_of_mul-lt-mul_right, lt_of_le_of_lt, lt_of_lt_of_le, le_trans}
use Rattle.pv_num.specs.Grid.{IsGridSize}
use Rattle.pv_num.specs.Rounding.{top_size}
use Rattle.pv_num.specs.Sizes.{size_of, IsSizeOf, IsWhole, IsFloorSize, IsCeilingSize, IsSized}
use Rattle.pv_num.specs.declared.magnitude.Magnitude.{Magnitude}
use Rattle.pv_num.specs.declared.magnitude.Toward.{Toward}
use Rattle.pv_num.specs.declared.magnitude.Toward.TheVariants.{Zero, Away}
use Rattle.pv_num.proofs.Align.{shifted_to}
use Rattle.pv_num.proofs.AlikeSums.{sum_low, sum_high, past_top}
use Rattle.pv_num.proofs.Rounds.{is_grid, floor_between, ceiling_between, ceiling_exact, last_sized}

-- ---- Sums: the smaller size in units of the greater one

pub sum_whole : (t : Toward) (m n p d e f : ℕ) → d + f ≡ e → IsWhole t n (2 ^ d) p → IsWhole t (m * 2 ^ e + n * 2 ^ f) (2 ^ e) (m + p)
sum_whole Zero m n p d e f q h = (sum_low m n p d e f q h.0, sum_high m n p d e f q h.1)
sum_whole Away m n p d e f q h =
    let s : p * 2 ^ d * 2 ^ f ≡ p * 2 ^ e = shifted_to p d f e q in
    let u : 2 ^ d * 2 ^ f ≡ 2 ^ e = sym (pow-add 2 d f) ∙ ap (λ x. 2 ^ x) q in
    let l : n * 2 ^ f ≤ p * 2 ^ d * 2 ^ f = mul-le-mul_right (2 ^ f) h.0 in
    let k : p * 2 ^ d * 2 ^ f < (n + 2 ^ d) * 2 ^ f = mul-lt-mul_of_pos_right h.1 (pow_pos f) in
    (omega (arith, s, l, add-mul m p (2 ^ e)), omega (arith, s, u, k, add-mul n (2 ^ d) (2 ^ f), add-mul m p (2 ^ e)))

-- ---- A value of whole units that fits a mantissa

less_one : (p u v : ℕ) → (p + 1) * u < v + u → p * u < v
less_one p u v h = omega (arith, h, add-mul p 1 u, one-mul u)

-- p units are less than the value, and one more is the ceiling.
raised : (p e v b : ℕ) → (0 < e → 2 ^ 61 ≤ p) → p + 1 < 2 ^ 62 → e ≤ 962 → p * (2 ^ e * b) < v → v ≤ (p + 1) * (2 ^ e * b) → IsCeilingSize v b ((p + 1) * 2 ^ e)
raised p e v b j f x lo hi =
    ceiling_between p e v b j (is_grid (p + 1) e f x)
    (subst (λ y. y < v) (sym (mul_assoc p (2 ^ e) b)) lo)
    (subst (λ y. v ≤ y) (sym (mul_assoc (p + 1) (2 ^ e) b)) hi)

ceiled : (s e v b : ℕ) → 0 < b → s < 2 ^ 62 → e ≤ 962 → (0 < e → 2 ^ 61 * (2 ^ e * b) ≤ v) → v ≤ s * (2 ^ e * b) → s * (2 ^ e * b) < v + 2 ^ e * b → IsCeilingSize v b (s * 2 ^ e)
ceiled s e v b p f x j hi lo =
    elim (cases_lt v (s * (2 ^ e * b))) [
      | inl less ↦
          let above : 0 < s = positive s (2 ^ e * b) v less in
          let q : s - 1 + 1 ≡ s = omega (arith, above) in
          let first : (s - 1) * (2 ^ e * b) < v = less_one (s - 1) (2 ^ e * b) v (subst (λ y. y * (2 ^ e * b) < v + 2 ^ e * b) (sym q) lo) in
          subst (λ y. IsCeilingSize v b (y * 2 ^ e)) q
          (raised (s - 1) e v b
          (λ k. let g : 2 ^ 61 < s = lt_of_mul-lt-mul_right (2 ^ e * b) (lt_of_le_of_lt (j k) less) in omega (arith, g))
          (omega (arith, q, f)) x first (subst (λ y. v ≤ y * (2 ^ e * b)) (sym q) hi))
      | inr more ↦
          let same : s * (2 ^ e * b) ≡ v = omega (arith, more, hi) in
          ceiling_exact (s * 2 ^ e) v b p (is_grid s e f x) (mul_assoc s (2 ^ e) b ∙ same)
    ]
  where
    positive : (s u v : ℕ) → v < s * u → 0 < s
    positive zero u v h = omega (arith, h)
    positive (suc s) u v h = omega arith

pub kept_sized : (t : Toward) (s e v b : ℕ) (m : Magnitude) → size_of m ≡ s * 2 ^ e → 0 < b → s < 2 ^ 62 → e ≤ 962 → (0 < e → 2 ^ 61 ≤ s) → (0 < e → 2 ^ 61 * (2 ^ e * b) ≤ v) → IsWhole t v (2 ^ e * b) s → IsSized t v b (Some m)
kept_sized Zero s e v b m q p f x j k h =
    subst (IsFloorSize v b) (sym q)
    (floor_between s e v b f x j (subst (λ y. y ≤ v) (sym (mul_assoc s (2 ^ e) b)) h.0) (subst (λ y. v < y) (sym (mul_assoc (s + 1) (2 ^ e) b)) h.1))
kept_sized Away s e v b m q p f x j k h = subst (IsCeilingSize v b) (sym q) (ceiled s e v b p f x k h.0 h.1)

-- ---- One that is halved

twice : (h e b : ℕ) → h * (2 ^ (e + 1) * b) ≡ h * 2 * (2 ^ e * b)
twice h e b =
    let q : 1 + e ≡ e + 1 = omega arith in
    let a : h * 2 * 2 ^ e ≡ h * 2 ^ (e + 1) = shifted_to h 1 e (e + 1) q in
    sym (mul_assoc h (2 ^ (e + 1)) b) ∙ ap (λ x. x * b) (sym a) ∙ mul_assoc (h * 2) (2 ^ e) b

doubled : (h e : ℕ) → h * 2 * 2 ^ e ≡ h * 2 ^ (e + 1)
doubled h e = let q : 1 + e ≡ e + 1 = omega arith in shifted_to h 1 e (e + 1) q

half_ceiled : (s h e v b : ℕ) → 0 < b → 2 ^ 62 ≤ s → h < 2 ^ 62 → e + 1 ≤ 962 → v ≤ s * (2 ^ e * b) → s * (2 ^ e * b) < v + 2 ^ e * b → s ≤ h * 2 → h * 2 < s + 2 → IsCeilingSize v b (h * 2 ^ (e + 1))
half_ceiled s h e v b p l f x hi lo k g =
    let qs : s - 1 + 1 ≡ s = omega (arith, l) in
    let qh : h - 1 + 1 ≡ h = omega (arith, l, k) in
    let first : (s - 1) * (2 ^ e * b) < v = less_one (s - 1) (2 ^ e * b) v (subst (λ y. y * (2 ^ e * b) < v + 2 ^ e * b) (sym qs) lo) in
    let top : v ≤ h * (2 ^ (e + 1) * b) = subst (λ y. v ≤ y) (sym (twice h e b)) (le_trans hi (mul-le-mul_right (2 ^ e * b) k)) in
    elim (cases_lt (2 ^ 61) h) [
      | inl more ↦
          let two : (h - 1) * 2 ≤ s - 1 = omega (arith, g, l, k) in
          let low : (h - 1) * (2 ^ (e + 1) * b) < v = subst (λ y. y < v) (sym (twice (h - 1) e b)) (lt_of_le_of_lt (mul-le-mul_right (2 ^ e * b) two) first) in
          subst (λ y. IsCeilingSize v b (y * 2 ^ (e + 1))) qh
          (raised (h - 1) (e + 1) v b (λ _. omega (arith, more)) (omega (arith, qh, f)) x low (subst (λ y. v ≤ y * (2 ^ (e + 1) * b)) (sym qh) top))
      | inr least ↦
          let same : s - 1 + 1 ≡ h * 2 = omega (arith, least, k, l, g) in
          let own : (s - 1 + 1) * 2 ^ e ≡ h * 2 ^ (e + 1) = ap (λ y. y * 2 ^ e) same ∙ doubled h e in
          let up : v ≤ (s - 1 + 1) * 2 ^ e * b = subst (λ y. v ≤ y) (sym (ap (λ y. y * b) own ∙ mul_assoc h (2 ^ (e + 1)) b)) top in
          subst (IsCeilingSize v b) own
          (ceiling_between (s - 1) e v b (λ _. omega (arith, l))
          (subst IsGridSize (sym own) (is_grid h (e + 1) f x))
          (subst (λ y. y < v) (sym (mul_assoc (s - 1) (2 ^ e) b)) first)
          up)
    ]

half_floored : (s h e v b : ℕ) → 2 ^ 62 ≤ s → h < 2 ^ 62 → e + 1 ≤ 962 → s * (2 ^ e * b) ≤ v → v < (s + 1) * (2 ^ e * b) → h * 2 ≤ s → s < (h + 1) * 2 → IsFloorSize v b (h * 2 ^ (e + 1))
half_floored s h e v b l f x lo hi k g =
    let low : h * (2 ^ (e + 1) * b) ≤ v = subst (λ y. y ≤ v) (sym (twice h e b)) (le_trans (mul-le-mul_right (2 ^ e * b) k) lo) in
    let g' : s + 1 ≤ (h + 1) * 2 = omega (arith, g) in
    let high : v < (h + 1) * (2 ^ (e + 1) * b) = subst (λ y. v < y) (sym (twice (h + 1) e b)) (lt_of_lt_of_le hi (mul-le-mul_right (2 ^ e * b) g')) in
    floor_between h (e + 1) v b f x (λ _. omega (arith, l, g))
    (subst (λ y. y ≤ v) (sym (mul_assoc h (2 ^ (e + 1)) b)) low)
    (subst (λ y. v < y) (sym (mul_assoc (h + 1) (2 ^ (e + 1)) b)) high)

pub half_sized : (t : Toward) (s h e v b : ℕ) (m : Magnitude) → size_of m ≡ h * 2 ^ (e + 1) → 0 < b → 2 ^ 62 ≤ s → h < 2 ^ 62 → e + 1 ≤ 962 → IsWhole t v (2 ^ e * b) s → IsWhole t s 2 h → IsSized t v b (Some m)
half_sized Zero s h e v b m q p l f x w k = subst (IsFloorSize v b) (sym q) (half_floored s h e v b l f x w.0 w.1 k.0 k.1)
half_sized Away s h e v b m q p l f x w k = subst (IsCeilingSize v b) (sym q) (half_ceiled s h e v b p l f x w.0 w.1 k.0 k.1)

-- ---- One above all sizes

pub past_sized : (t : Toward) (s e v : ℕ) (r : Option Magnitude) → e ≡ 962 → 2 ^ 62 ≤ s → IsWhole t v (2 ^ e) s → (t ≡ Zero → IsSizeOf r top_size) → (t ≡ Away → r ≡ None) → IsSized t v 1 r
past_sized Zero s e v r q l h z a = past_top Zero s e v r q l h.0 z a
past_sized Away s e v None q l h z a = λ f g.
    last_sized (2 ^ 62 - 1) e v 1 f (omega arith) q (λ _. omega arith) g (past (2 ^ 62 - 1) s (2 ^ e) v (omega (arith, l)) h.1)
  where
    past : (m s u v : ℕ) → m + 1 ≤ s → s * u < v + u → m * u * 1 < v
    past m s u v l h =
        let k : (m + 1) * u ≤ s * u = mul-le-mul_right u l in
        omega (arith, k, h, add-mul m 1 u, one-mul u, mul-one (m * u))
past_sized Away s e v (Some m) q l h z a = let e = a refl in cc
