use Rattle.std.proofs.Common.{◌≡◌, ℕ, zero, suc, ◌+◌, ◌*◌, ◌/◌, ◌^◌, ◌<◌, ◌≤◌, inl, inr, arith, refl, ap, sym, subst, ◌∙◌, zero-mul, one-mul, add-mul, mul_assoc, w64, Fits, to_z, of_z, ℤ, pos, negsuc, ◌+ℤ◌, ◌-ℤ◌}
use Rattle.std.proofs.lemmas.Bool.{cases_lt}
use Rattle.std.proofs.lemmas.Int.{ints}
use Rattle.std.proofs.lemmas.Nat.{pow_pos}
use Rattle.std.proofs.Math.Nat.{mul-le-mul_right, mul-lt-mul_of_pos_right, div-mul-le_self, lt-div-mul-add, div-le_self, lt_of_lt_of_le, pow-le-pow_right}
use lib.Signed.{shr_z, mag, mag_shr, non_neg}
use lib.IntN.{nat_abs}
use lib.Dec.{T}
use mir.ValLaws.{to_z-of_z, to_z_pos}
use Rattle.pv_num.specs.Sizes.{IsWhole}
use Rattle.pv_num.specs.declared.magnitude.Toward.{Toward}
use Rattle.pv_num.specs.declared.magnitude.Toward.TheVariants.{Zero, Away}

-- What the code makes of a mantissa: u is taken off before the shift, and put on behind it.
abbrev pub shifted_back : ℕ → ℕ → ℕ → ℤ
shifted_back m k u = to_z w64 (of_z w64 (to_z w64 (of_z w64 (shr_z (to_z w64 (of_z w64 (to_z w64 m -ℤ to_z w64 u))) (2 ^ k))) +ℤ to_z w64 u))

-- It has no word that wraps.
plain : (m k u w : ℕ) (z s : ℤ) → m < 2 ^ 63 → u < 2 ^ 63 → w < 2 ^ 63 → pos m -ℤ pos u ≡ z → mag z < 2 ^ 63 → shr_z z (2 ^ k) ≡ s → s +ℤ pos u ≡ pos w → shifted_back m k u ≡ pos w
plain m k u w z s hm hu hw ez hz es ew =
    let a : to_z w64 m ≡ pos m = to_z_pos w64 m hm in
    let b : to_z w64 u ≡ pos u = to_z_pos w64 u hu in
    let c : to_z w64 (of_z w64 (to_z w64 m -ℤ to_z w64 u)) ≡ z =
    (λ i. to_z w64 (of_z w64 (a i -ℤ b i))) ∙ ap (λ y. to_z w64 (of_z w64 y)) ez ∙ to_z-of_z w64 z (record { sfits = hz }) in
    let less : mag (shr_z z (2 ^ k)) < 2 ^ 63 = omega (arith, hz, mag_shr z (2 ^ k)) in
    let d : to_z w64 (of_z w64 (shr_z (to_z w64 (of_z w64 (to_z w64 m -ℤ to_z w64 u))) (2 ^ k))) ≡ s =
    ap (λ y. to_z w64 (of_z w64 (shr_z y (2 ^ k)))) c ∙ to_z-of_z w64 (shr_z z (2 ^ k)) (record { sfits = less }) ∙ es in
    (λ i. to_z w64 (of_z w64 (d i +ℤ b i))) ∙ ap (λ y. to_z w64 (of_z w64 y)) ew ∙ to_z-of_z w64 (pos w) (record { sfits = hw })

-- A distance of 63 serves for all that are more.
record IsReach (d k : ℕ) : Type 0 where
  pub near : d < 63 → k ≡ d
  pub far : 63 ≤ d → k ≡ 63

beyond_all : (n d : ℕ) → n < 2 ^ 63 → 63 ≤ d → n < 2 ^ d
beyond_all n d h l =
    let two : 0 < 2 = omega arith in
    lt_of_lt_of_le h (pow-le-pow_right two l)

none_left : (n : ℕ) → n < 2 ^ 63 → n / 2 ^ 63 ≡ 0
none_left n h = let l : n / 2 ^ 63 * 2 ^ 63 ≤ n = div-mul-le_self n (2 ^ 63) in omega (arith, l, h)

below : (n d k : ℕ) → n < 2 ^ 63 → IsReach d k → n / 2 ^ k * 2 ^ d ≤ n
below n d k h r =
    elim (cases_lt d 63) [
      | inl l ↦ subst (λ x. n / 2 ^ x * 2 ^ d ≤ n) (sym (r.near l)) (div-mul-le_self n (2 ^ d))
      | inr l ↦
          let e : n / 2 ^ k ≡ 0 = ap (λ x. n / 2 ^ x) (r.far l) ∙ none_left n h in
          omega (arith, ap (λ x. x * 2 ^ d) e, zero-mul (2 ^ d))
    ]

above : (n d k : ℕ) → n < 2 ^ 63 → IsReach d k → n < (n / 2 ^ k + 1) * 2 ^ d
above n d k h r =
    elim (cases_lt d 63) [
      | inl l ↦
          let one : n < n / 2 ^ d * 2 ^ d + 2 ^ d = lt-div-mul-add (pow_pos d) in
          subst (λ x. n < (n / 2 ^ x + 1) * 2 ^ d) (sym (r.near l)) (omega (arith, one, add-mul (n / 2 ^ d) 1 (2 ^ d), one-mul (2 ^ d)))
      | inr l ↦
          let o : n < 2 ^ d = beyond_all n d h l in
          omega (arith, o, add-mul (n / 2 ^ k) 1 (2 ^ d), one-mul (2 ^ d))
    ]

-- What comes of it.
pub record IsShifted (t : Toward) (m d : ℕ) (x : ℤ) : Type 0 where
  pub word : ℕ
  pub is : x ≡ pos word
  pub fits : word ≤ m
  pub whole : IsWhole t m (2 ^ d) word

zero_shifted : (m d k : ℕ) → m < 2 ^ 63 → IsReach d k → IsShifted Zero m d (shifted_back m k 0)
zero_shifted m d k h r =
    let n : 0 < 2 ^ 63 = omega arith in
    let e : pos m -ℤ pos 0 ≡ pos m = omega (arith, ints) in
    let s : pos (m / 2 ^ k) +ℤ pos 0 ≡ pos (m / 2 ^ k) = omega (arith, ints) in
    let l : m / 2 ^ k ≤ m = div-le_self m (2 ^ k) in
    record {
      word = m / 2 ^ k;
      is = plain m k 0 (m / 2 ^ k) (pos m) (pos (m / 2 ^ k)) h n (omega (arith, l, h)) e h refl s;
      fits = l;
      whole = (below m d k h r, above m d k h r);
    }

away_shifted : (m d k : ℕ) → m < 2 ^ 63 → IsReach d k → IsShifted Away m d (shifted_back m k 1)
away_shifted zero d k h r =
    let n : 0 < 2 ^ 63 = omega arith in
    let o : 1 < 2 ^ 63 = omega arith in
    let q : negsuc (0 / 2 ^ k) ≡ negsuc 0 = let l : 0 / 2 ^ k ≤ 0 = div-le_self 0 (2 ^ k) in let z : 0 / 2 ^ k ≡ 0 = omega (arith, l) in ap negsuc z in
    record {
      word = 0;
      is = plain 0 k 1 0 (negsuc 0) (negsuc 0) n o n refl n q refl;
      fits = omega arith;
      whole = (omega (arith, zero-mul (2 ^ d)), omega (arith, zero-mul (2 ^ d), pow_pos d));
    }
away_shifted (suc m) d k h r =
    let o : 1 < 2 ^ 63 = omega arith in
    let f : m < 2 ^ 63 = omega (arith, h) in
    let e : pos (suc m) -ℤ pos 1 ≡ pos m = omega (arith, ints) in
    let s : pos (m / 2 ^ k) +ℤ pos 1 ≡ pos (m / 2 ^ k + 1) = omega (arith, ints) in
    let l : m / 2 ^ k ≤ m = div-le_self m (2 ^ k) in
    let b = below m d k f r in
    let a = above m d k f r in
    record {
      word = m / 2 ^ k + 1;
      is = plain (suc m) k 1 (m / 2 ^ k + 1) (pos m) (pos (m / 2 ^ k)) h o (omega (arith, l, h)) e f refl s;
      fits = omega (arith, l);
      whole = (omega (arith, a), omega (arith, b, add-mul (m / 2 ^ k) 1 (2 ^ d), one-mul (2 ^ d)));
    }

pub is_shifted : (t : Toward) (m d k u : ℕ) → m < 2 ^ 63 → (d < 63 → k ≡ d) → (63 ≤ d → k ≡ 63) → (t ≡ Zero → u ≡ 0) → (t ≡ Away → u ≡ 1) → IsShifted t m d (shifted_back m k u)
is_shifted Zero m d k u h n f z a = subst (λ x. IsShifted Zero m d (shifted_back m k x)) (sym (z refl)) (zero_shifted m d k h (record { near = n; far = f }))
is_shifted Away m d k u h n f z a = subst (λ x. IsShifted Away m d (shifted_back m k x)) (sym (a refl)) (away_shifted m d k h (record { near = n; far = f }))

pub casts : (t : Toward) (m d : ℕ) (x : ℤ) → m < 2 ^ 63 → IsShifted t m d x → T (non_neg x) × Fits w64 (nat_abs x)
casts t m d x h s =
    let f : s.word < 2 ^ 64 = omega (arith, h, s.fits) in
    subst (λ y. T (non_neg y) × Fits w64 (nat_abs y)) (sym s.is) (tt, record { fits = f })

pub word_whole : (t : Toward) (m d : ℕ) (x : ℤ) → IsShifted t m d x → IsWhole t m (2 ^ d) (nat_abs x)
word_whole t m d x s = subst (λ y. IsWhole t m (2 ^ d) (nat_abs y)) (sym s.is) s.whole

-- A value of whole units in other units.
pub times_whole : (t : Toward) (p u c w : ℕ) → 0 < c → IsWhole t p u w → IsWhole t (p * c) (u * c) w
times_whole Zero p u c w h k = (
  subst (λ y. y ≤ p * c) (mul_assoc w u c) (mul-le-mul_right c k.0),
  subst (λ y. p * c < y) (mul_assoc (w + 1) u c) (mul-lt-mul_of_pos_right k.1 h),
)
times_whole Away p u c w h k = (
  subst (λ y. p * c ≤ y) (mul_assoc w u c) (mul-le-mul_right c k.0),
  (let l : w * u * c < (p + u) * c = mul-lt-mul_of_pos_right k.1 h in
      omega (arith, l, mul_assoc w u c, add-mul p u c)),
)
