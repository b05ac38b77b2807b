use Rattle.std.proofs.Common.{lit<, lit≤, ◌≡◌, ℕ, suc, ◌+◌, ◌-◌, ◌*◌, ◌^◌, ◌<◌, ◌≤◌, ◌↔◌, IsTrue, Bool, true, false, Option, Some, None, arith, refl, inl, inr, ap, sym, subst, ◌∙◌}
use Rattle.std.proofs.lemmas.Bool.{cases_lt, true≢false}
use Rattle.std.proofs.lemmas.Nat.{pow_pos, pow-add, shl_below}
use Rattle.std.proofs.Math.Nat.{mul-le-mul, mul-le-mul_right, lt_of_mul-lt-mul_right, le_of_mul-le-mul_right, mul_assoc, lt_of_lt_of_le, lt_of_le_of_lt, pow-le-pow_right, two-pow-succ}
use Rattle.pv_num.specs.Grid.{IsGridSize}
use Rattle.pv_num.specs.Rounding.{top_size}
use Rattle.pv_num.specs.Sizes.{size_of, IsSizeOf, IsSizeAbove, IsFloorSize, IsCeilingSize, IsFloor, IsCeiling, IsSized, fine}
use Rattle.pv_num.specs.declared.magnitude.Magnitude.{Magnitude}
use Rattle.pv_num.specs.declared.magnitude.Toward.{Toward}
use Rattle.pv_num.specs.declared.magnitude.Toward.TheVariants.{Zero, Away}
use Rattle.pv_num.proofs.Sizes.{exponent_orders}
use Rattle.pv_num.proofs.Align.{shifted_to}

pub at_fine : (P : ℕ → Type 0) → ((s : ℕ) → s ≡ 1024 → P (2 ^ s)) → P fine
unfolding fine
at_fine P h = h 1024 refl

-- A left-justified size is a size.
pub is_grid : (m e : ℕ) → m < 2 ^ 62 → e ≤ 962 → IsGridSize (m * 2 ^ e)
is_grid m e h k = record { mantissa = m; exponent = e; mantissa_fits = h; exponent_fits = k; value = refl }

-- No size lies strictly between m * 2 ^ k and (m + 1) * 2 ^ k, where m is left-justified or k is 0.
pub gap : (m k f : ℕ) → (0 < k → 2 ^ 61 ≤ m) → IsGridSize f → f < (m + 1) * 2 ^ k → f ≤ m * 2 ^ k
gap m k f j g l =
    let at_own : f ≡ g.mantissa * 2 ^ g.exponent = g.value in
    elim (cases_lt g.exponent k) [
      | inl less ↦
          let o : g.mantissa * 2 ^ g.exponent < m * 2 ^ k = exponent_orders g.mantissa g.exponent m k g.mantissa_fits j less in
          omega (arith, at_own, o)
      | inr more ↦
          let e : g.exponent - k + k ≡ g.exponent = omega arith in
          let s : g.mantissa * 2 ^ (g.exponent - k) * 2 ^ k ≡ f = shifted_to g.mantissa (g.exponent - k) k g.exponent e ∙ sym at_own in
          let n : g.mantissa * 2 ^ (g.exponent - k) < m + 1 = lt_of_mul-lt-mul_right (2 ^ k) (subst (λ x. x < (m + 1) * 2 ^ k) (sym s) l) in
          let n' : g.mantissa * 2 ^ (g.exponent - k) ≤ m = omega arith in
          subst (λ x. x ≤ m * 2 ^ k) s (mul-le-mul_right (2 ^ k) n')
    ]

-- A value between two neighbours is rounded down to the lower one.
pub floor_between : (m k v b : ℕ) → m < 2 ^ 62 → k ≤ 962 → (0 < k → 2 ^ 61 ≤ m) → m * 2 ^ k * b ≤ v → v < (m + 1) * 2 ^ k * b → IsFloorSize v b (m * 2 ^ k)
floor_between m k v b h x j lo hi = record {
  grid = is_grid m k h x;
  below = lo;
  greatest = λ f g l. gap m k f j g (lt_of_mul-lt-mul_right b (lt_of_le_of_lt l hi));
}

pub ceiling_exact : (n v b : ℕ) → 0 < b → IsGridSize n → n * b ≡ v → IsCeilingSize v b n
ceiling_exact n v b p g e = record {
  grid = g;
  above = omega (arith, e);
  least = λ f _ l. le_of_mul-le-mul_right (subst (λ x. x ≤ f * b) (sym e) l) p;
}

pub above_gap : (m k f : ℕ) → (0 < k → 2 ^ 61 ≤ m) → IsGridSize f → m * 2 ^ k < f → (m + 1) * 2 ^ k ≤ f
above_gap m k f j g l =
    elim (cases_lt f ((m + 1) * 2 ^ k)) [
      | inl less ↦ let q : f ≤ m * 2 ^ k = gap m k f j g less in absurd (omega (arith, q, l))
      | inr more ↦ more
    ]

pub ceiling_between : (m k v b : ℕ) → (0 < k → 2 ^ 61 ≤ m) → IsGridSize ((m + 1) * 2 ^ k) → m * 2 ^ k * b < v → v ≤ (m + 1) * 2 ^ k * b → IsCeilingSize v b ((m + 1) * 2 ^ k)
ceiling_between m k v b j g lo hi = record {
  grid = g;
  above = hi;
  least = λ f h l. above_gap m k f j h (lt_of_mul-lt-mul_right b (lt_of_lt_of_le lo l));
}

pub fine_pos : 0 < fine
fine_pos = at_fine (λ b. 0 < b) (λ s q. pow_pos s)

pub zero_sized : (t : Toward) (v : ℕ) (m : Magnitude) → v ≡ 0 → size_of m ≡ 0 → IsSized t v fine (Some m)
zero_sized Zero v m e z =
    let g : IsGridSize (size_of m) = is_grid m.mantissa m.exponent m.mantissa_fits m.exponent_fits in
    record {
      grid = g;
      below = omega (arith, e, ap (λ x. x * fine) z);
      greatest = λ f h l. le_of_mul-le-mul_right (omega (arith, e, l, ap (λ x. x * fine) z)) fine_pos;
    }
zero_sized Away v m e z =
    let g : IsGridSize (size_of m) = is_grid m.mantissa m.exponent m.mantissa_fits m.exponent_fits in
    record { grid = g; above = omega (arith, e); least = λ f h l. omega (arith, z) }

-- ---- Above the largest size

pub below_all : (f t : ℕ) → t ≡ 962 → IsGridSize f → f < 2 ^ (62 + t)
below_all f t q g =
    let l : g.mantissa * 2 ^ g.exponent < 2 ^ (62 + g.exponent) = shl_below g.mantissa 62 g.exponent g.mantissa_fits in
    let fits : g.exponent ≤ 962 = g.exponent_fits in
    let k : 62 + g.exponent ≤ 62 + t = omega (arith, fits) in
    let two : 0 < 2 = omega arith in
    subst (λ x. x < 2 ^ (62 + t)) (sym g.value) (lt_of_lt_of_le l (pow-le-pow_right two k))

pub at_most_top : (f : ℕ) → IsGridSize f → f ≤ top_size
unfolding top_size
at_most_top f g =
    let two : 0 < 2 = omega arith in
    let fits : g.mantissa < 2 ^ 62 = g.mantissa_fits in
    let m : g.mantissa ≤ 2 ^ 62 - 1 = omega (arith, fits) in
    subst (λ x. x ≤ (2 ^ 62 - 1) * 2 ^ 962) (sym g.value) (mul-le-mul m (pow-le-pow_right two g.exponent_fits))

pub top_grid : IsGridSize top_size
unfolding top_size
top_grid = record { mantissa = 2 ^ 62 - 1; exponent = 962; mantissa_fits = lit< tt; exponent_fits = lit≤ tt; value = refl }

-- A value that is too long is above all sizes.
over : (s t l at parts f : ℕ) → t ≡ 962 → 62 + t + s < l + at → 2 ^ l ≤ 2 * parts → IsGridSize f → f * 2 ^ s < parts * 2 ^ at
over s t l at parts f q less low g =
    let two : 0 < 2 = omega arith in
    let a : f * 2 ^ s < 2 ^ (62 + t + s) = shl_below f (62 + t) s (below_all f t q g) in
    let k : suc (62 + t + s) ≤ l + at = omega (arith, less) in
    let b : 2 ^ suc (62 + t + s) ≤ 2 ^ (l + at) = pow-le-pow_right two k in
    let c : 2 ^ l * 2 ^ at ≤ 2 * parts * 2 ^ at = mul-le-mul_right (2 ^ at) low in
    omega (arith, a, b, c, two-pow-succ (62 + t + s), pow-add 2 l at, mul_assoc 2 parts (2 ^ at))

pub over_fine : (l at parts f : ℕ) → 2048 < l + at → 2 ^ l ≤ 2 * parts → IsGridSize f → f * fine < parts * 2 ^ at
over_fine l at parts f h low g =
    at_fine (λ b. f * b < parts * 2 ^ at) (λ s q.
    let less : 62 + 962 + s < l + at = omega (arith, q, h) in
    over s 962 l at parts f refl less low g)

pub beyond_sized : (t : Toward) (l at parts : ℕ) (r : Option Magnitude) → 2048 < l + at → 2 ^ l ≤ 2 * parts → (t ≡ Zero → IsSizeOf r top_size) → (t ≡ Away → r ≡ None) → IsSized t (parts * 2 ^ at) fine r
beyond_sized Zero l at parts None h low z a = z refl
beyond_sized Zero l at parts (Some m) h low z a =
    let o = over_fine l at parts top_size h low top_grid in
    subst (IsFloorSize (parts * 2 ^ at) fine) (sym (z refl)) (record {
      grid = top_grid;
      below = omega (arith, o);
      greatest = λ f g _. at_most_top f g;
    })
beyond_sized Away l at parts None h low z a = λ f g. over_fine l at parts f h low g
beyond_sized Away l at parts (Some m) h low z a = let e = a refl in cc

-- ---- Between two neighbours

not_kept : (m e v b : ℕ) → (m * 2 ^ e * b ≡ v → ⊥) → m * 2 ^ e * b ≤ v → m * 2 ^ e * b < v
not_kept m e v b n h = omega (arith, n, h)

pub last_sized : (m e v b f : ℕ) → m + 1 ≡ 2 ^ 62 → e ≡ 962 → (0 < e → 2 ^ 61 ≤ m) → IsGridSize f → m * 2 ^ e * b < v → f * b < v
last_sized m e v b f q x j g lo =
    let l : f < 2 ^ (62 + e) = below_all f e x g in
    let k : f < (m + 1) * 2 ^ e = subst (λ y. f < y * 2 ^ e) (sym q) (subst (λ y. f < y) (pow-add 2 62 e) l) in
    lt_of_le_of_lt (mul-le-mul_right b (gap m e f j g k)) lo

ceiled : (m e v b : ℕ) (x : Bool) (r : Option Magnitude) → 0 < b → m < 2 ^ 62 → e ≤ 962 → (0 < e → 2 ^ 61 ≤ m) → m * 2 ^ e * b ≤ v → v < (m + 1) * 2 ^ e * b → (IsTrue x ↔ (m * 2 ^ e * b ≡ v)) → (IsTrue x → IsSizeOf r (m * 2 ^ e)) → (x ≡ false → IsSizeAbove r m e) → IsCeiling v b r
ceiled m e v b true None p f k j lo hi t kept up = absurd (kept refl)
ceiled m e v b true (Some n) p f k j lo hi t kept up =
    subst (IsCeilingSize v b) (sym (kept refl)) (ceiling_exact (m * 2 ^ e) v b p (is_grid m e f k) (t.0 refl))
ceiled m e v b false None p f k j lo hi t kept up =
    let less : m * 2 ^ e * b < v = not_kept m e v b (λ q. true≢false (sym (t.1 q))) lo in
    λ h g. last_sized m e v b h (up refl).0 (up refl).1 j g less
ceiled m e v b false (Some n) p f k j lo hi t kept up =
    let less : m * 2 ^ e * b < v = not_kept m e v b (λ q. true≢false (sym (t.1 q))) lo in
    let g : IsGridSize (size_of n) = is_grid n.mantissa n.exponent n.mantissa_fits n.exponent_fits in
    subst (IsCeilingSize v b) (sym (up refl)) (ceiling_between m e v b j (subst IsGridSize (up refl) g) less (omega (arith, hi)))

floored : (m e v b : ℕ) (r : Option Magnitude) → m < 2 ^ 62 → e ≤ 962 → (0 < e → 2 ^ 61 ≤ m) → m * 2 ^ e * b ≤ v → v < (m + 1) * 2 ^ e * b → IsSizeOf r (m * 2 ^ e) → IsFloor v b r
floored m e v b None f k j lo hi kept = kept
floored m e v b (Some n) f k j lo hi kept = subst (IsFloorSize v b) (sym kept) (floor_between m e v b f k j lo hi)

pub sized_at : (t : Toward) (m e v b : ℕ) (x : Bool) (r : Option Magnitude) → 0 < b → m < 2 ^ 62 → e ≤ 962 → (0 < e → 2 ^ 61 ≤ m) → m * 2 ^ e * b ≤ v → v < (m + 1) * 2 ^ e * b → (IsTrue x ↔ (m * 2 ^ e * b ≡ v)) → (IsTrue x → IsSizeOf r (m * 2 ^ e)) → (t ≡ Zero → IsSizeOf r (m * 2 ^ e)) → (x ≡ false → t ≡ Away → IsSizeAbove r m e) → IsSized t v b r
sized_at Zero m e v b x r p f k j lo hi t kept down up = floored m e v b r f k j lo hi (down refl)
sized_at Away m e v b x r p f k j lo hi t kept down up = ceiled m e v b x r p f k j lo hi t kept (λ q. up q refl)

pub sized : (t : Toward) (m e v : ℕ) (x : Bool) (r : Option Magnitude) → m < 2 ^ 62 → e ≤ 962 → (0 < e → 2 ^ 61 ≤ m) → m * 2 ^ (1024 + e) ≤ v → v < (m + 1) * 2 ^ (1024 + e) → (IsTrue x ↔ (m * 2 ^ (1024 + e) ≡ v)) → (IsTrue x → IsSizeOf r (m * 2 ^ e)) → (t ≡ Zero → IsSizeOf r (m * 2 ^ e)) → (x ≡ false → t ≡ Away → IsSizeAbove r m e) → IsSized t v fine r
sized t m e v x r f k j lo hi q kept down up =
    at_fine (λ b. IsSized t v b r) (λ s is.
    let w : e + s ≡ 1024 + e = omega (arith, is) in
    let own : m * 2 ^ e * 2 ^ s ≡ m * 2 ^ (1024 + e) = shifted_to m e s (1024 + e) w in
    let next : (m + 1) * 2 ^ e * 2 ^ s ≡ (m + 1) * 2 ^ (1024 + e) = shifted_to (m + 1) e s (1024 + e) w in
    sized_at t m e v (2 ^ s) x r (pow_pos s) f k j
    (subst (λ y. y ≤ v) (sym own) lo)
    (subst (λ y. v < y) (sym next) hi)
    (λ h. own ∙ q.0 h, λ h. q.1 (sym own ∙ h))
    kept down up)
