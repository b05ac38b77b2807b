use Rattle.std.proofs.Common.{◌≡◌, ℕ, zero, suc, ◌+◌, ◌-◌, ◌*◌, ◌/◌, ◌%◌, ◌^◌, ◌<◌, ◌≤◌, ◌==◌, inl, inr, Bool, true, false, arith, refl, ap, sym, subst, ◌∙◌, zero-mul, add-one, ℤ, pos, negsuc, neg_ℤ, ◌*ℤ◌, ◌+ℤ◌, ◌-ℤ◌, unsigned_abs, to_z, of_z, w64, eqb-true}
use mir.Syntax.{w16}
use Rattle.std.proofs.lemmas.Int.{ints}
use Rattle.std.proofs.lemmas.Bool.{cases_lt, cases_eq, true≢false, eq-eqb}
use Rattle.std.proofs.lemmas.Nat.{pow_pos, pow-add, mod-pow-add}
use Rattle.std.proofs.lemmas.Nat.Bits.{bit_at-trailing_zeros}
use Rattle.std.proofs.Math.IntN.{negsuc-*ℤ-pos}
use Rattle.std.proofs.Math.Nat.{div-add-mod', mod-one, mul-mod_left, mul-div_cancel, mul-le-mul_right, pow-zero, two-pow-succ, eq_of_mul-eq-mul_right, le-mul_of_pos_right, lt_of_lt_of_le, pow-le-pow_right, mul-div-mul_right, div-eq_of_lt, mod-eq_of_lt, lt_of_mul-lt-mul_right}
use lib.Count.{count_trailing_zeros}
use Rattle.pv_num.specs.Extended.{Extended, NegInf, Fin, PosInf}
use Rattle.pv_num.specs.Grid.{IsGridSize, unit}
use Rattle.pv_num.specs.Sizes.{fine, magnitude_of, is_negative_of, is_infinite_of, with_sign}
use Rattle.pv_num.specs.Parts.{IsValueAt, IsValue, IsCanonical, IsPartsOf, twos, odd_of, exponent_parts, parts_of}
use Rattle.pv_num.specs.declared.convert.Parts.{Parts}
use Rattle.pv_num.specs.declared.convert.Parts.TheVariants.{Fin as FinParts}
use Rattle.pv_num.proofs.Align.{shifted_to, shifted_twice}
use Rattle.pv_num.proofs.Rounds.{below_all}
use Rattle.pv_num.proofs.Rounding.{greatest_upto-passes, greatest_upto-greatest}
use Rattle.pv_num.proofs.Scales.{at_unit}

-- ---- Trailing zeros

zeros_below : (n t : ℕ) → ((i : ℕ) → i < t → n / 2 ^ i % 2 ≡ 0) → n % 2 ^ t ≡ 0
zeros_below n zero h = ap (λ x. n % x) (pow-zero 2) ∙ mod-one n
zeros_below n (suc t) h =
    let e : 1 + t ≡ suc t = omega arith in
    let a : n / 2 ^ t % 2 ≡ 0 = h t (omega arith) in
    let b : n % 2 ^ t ≡ 0 = zeros_below n t (λ i l. h i (omega (arith, l))) in
    ap (λ x. n % 2 ^ x) (sym e) ∙ mod-pow-add n 1 t ∙ ap (λ x. x * 2 ^ t + n % 2 ^ t) a ∙ ap (λ x. 0 * 2 ^ t + x) b ∙ omega (arith, zero-mul (2 ^ t))

pub odd_value : (m : ℕ) → 0 < m → m < 2 ^ 64 → m / 2 ^ count_trailing_zeros 64 m * 2 ^ count_trailing_zeros 64 m ≡ m
odd_value m p h =
    let (a, b, below) = bit_at-trailing_zeros w64 m p h in
    let z : m % 2 ^ count_trailing_zeros 64 m ≡ 0 = zeros_below m (count_trailing_zeros 64 m) below in
    omega (arith, z, div-add-mod' m (2 ^ count_trailing_zeros 64 m))

pub odd_last : (m : ℕ) → 0 < m → m < 2 ^ 64 → m / 2 ^ count_trailing_zeros 64 m % 2 ≡ 1
odd_last m p h = (bit_at-trailing_zeros w64 m p h).1

-- ---- The canonical parts are the only ones

divides_at : (q k : ℕ) → q * 2 ^ k % 2 ^ k ≡ 0
divides_at q k = mul-mod_left q (2 ^ k)

small_power : (k : ℕ) → k < 2 ^ k
small_power zero = omega (arith, pow_pos 0)
small_power (suc k) = let h : k < 2 ^ k = small_power k in omega (arith, h, two-pow-succ k)

exponent_small : (n q k : ℕ) → 0 < n → q * 2 ^ k ≡ n → k ≤ n
exponent_small n q k p e =
    let qp : 0 < q = elim (cases_eq q 0) [
      | inl z ↦ let w : q * 2 ^ k ≡ 0 = ap (λ x. x * 2 ^ k) z ∙ zero-mul (2 ^ k) in absurd (omega (arith, w, e, p))
      | inr c ↦ omega (arith, c)
    ] in
    let a : 1 * 2 ^ k ≤ q * 2 ^ k = mul-le-mul_right (2 ^ k) (omega (arith, qp)) in
    omega (arith, a, e, small_power k)

twos-divides : (n : ℕ) → n % 2 ^ twos n ≡ 0
unfolding twos
twos-divides n = eqb-true _ _ (greatest_upto-passes (λ k. n % 2 ^ k == 0) n (eq-eqb _ _ (ap (λ x. n % x) (pow-zero 2) ∙ mod-one n)))

pub twos-greatest : (n q k : ℕ) → 0 < n → q * 2 ^ k ≡ n → k ≤ twos n
unfolding twos
twos-greatest n q k p e =
    greatest_upto-greatest (λ k. n % 2 ^ k == 0) n k (exponent_small n q k p e)
    (eq-eqb _ _ (ap (λ x. x % 2 ^ k) (sym e) ∙ divides_at q k))

pub odd_of-value : (n : ℕ) → odd_of n * 2 ^ twos n ≡ n
unfolding odd_of
odd_of-value n = omega (arith, twos-divides n, div-add-mod' n (2 ^ twos n))

pub odd_of-odd : (n : ℕ) → 0 < n → odd_of n % 2 ≡ 1
odd_of-odd n p =
    elim (cases_eq (odd_of n % 2) 1) [
      | inl e ↦ e
      | inr c ↦
          let half : odd_of n / 2 * 2 ≡ odd_of n = omega (arith, c) in
          let split : odd_of n / 2 * 2 ^ suc (twos n) ≡ n =
          ap (λ x. odd_of n / 2 * x) (two-pow-succ (twos n))
          ∙ omega (arith, odd_of-value n, ap (λ x. x * 2 ^ twos n) half) in
          let k : suc (twos n) ≤ twos n = twos-greatest n (odd_of n / 2) (suc (twos n)) p split in
          absurd (omega (arith, k))
    ]

pub twos-unique : (n q k : ℕ) → 0 < n → q % 2 ≡ 1 → q * 2 ^ k ≡ n → twos n ≡ k
twos-unique n q k p odd e =
    let least : k ≤ twos n = twos-greatest n q k p e in
    elim (cases_eq (twos n) k) [
      | inl same ↦ same
      | inr c ↦
          let d : twos n - k - 1 + 1 + k ≡ twos n = omega (arith, least, c) in
          let a : odd_of n * 2 ^ (twos n - k - 1 + 1) * 2 ^ k ≡ q * 2 ^ k = shifted_to (odd_of n) (twos n - k - 1 + 1) k (twos n) d ∙ odd_of-value n ∙ sym e in
          let b : odd_of n * 2 ^ (twos n - k - 1 + 1) ≡ q = eq_of_mul-eq-mul_right (2 ^ k) (pow_pos k) (odd_of n * 2 ^ (twos n - k - 1 + 1)) q a in
          let t : 2 ^ (twos n - k - 1 + 1) ≡ 2 ^ (twos n - k - 1) + 2 ^ (twos n - k - 1) = ap (λ x. 2 ^ x) (add-one (twos n - k - 1)) ∙ two-pow-succ (twos n - k - 1) in
          let even : q ≡ odd_of n * 2 ^ (twos n - k - 1) * 2 = omega (arith, sym b ∙ ap (λ x. odd_of n * x) t) in
          absurd (omega (arith, odd, ap (λ x. x % 2) even ∙ mul-mod_left (odd_of n * 2 ^ (twos n - k - 1)) 2))
    ]

pub odd_of-unique : (n q k : ℕ) → 0 < n → q % 2 ≡ 1 → q * 2 ^ k ≡ n → odd_of n ≡ q
odd_of-unique n q k p odd e =
    let t : twos n ≡ k = twos-unique n q k p odd e in
    eq_of_mul-eq-mul_right (2 ^ k) (pow_pos k) (odd_of n) q (ap (λ x. odd_of n * 2 ^ x) (sym t) ∙ odd_of-value n ∙ sym e)

-- ---- The parts of a number

pub parts_of-signed : (s : Bool) (n : ℕ) → 0 < n → parts_of (Fin (with_sign s n)) ≡ FinParts (with_sign s (odd_of n)) (exponent_parts n)
parts_of-signed s zero p = absurd (omega arith)
parts_of-signed true (suc n) p = refl
parts_of-signed false (suc n) p = refl

pub parts_from : (s : Bool) (n q k : ℕ) (m e : ℤ) → 0 < n → q % 2 ≡ 1 → q * 2 ^ k ≡ n → m ≡ with_sign s q → e ≡ pos k -ℤ pos 512 → FinParts m e ≡ parts_of (Fin (with_sign s n))
parts_from s n q k m e p odd v em ee =
    ap (λ x. FinParts x e) (em ∙ ap (with_sign s) (sym (odd_of-unique n q k p odd v)))
    ∙ ap (λ x. FinParts (with_sign s (odd_of n)) x) (ee ∙ ap (λ x. pos x -ℤ pos 512) (sym (twos-unique n q k p odd v)))
    ∙ sym (parts_of-signed s n p)

pub exponent_word : (e t : ℕ) → e ≤ 962 → t < 64 → to_z w16 (of_z w16 (to_z w16 (e + t) -ℤ pos 512)) ≡ pos (t + e) -ℤ pos 512
exponent_word e t h k = omega (arith, ints)

pub negative_word : (q : ℕ) → q < 2 ^ 62 → to_z w64 (of_z w64 (pos 0 -ℤ to_z w64 q)) ≡ neg_ℤ (pos q)
negative_word q h = omega (arith, ints)

pub positive_word : (q : ℕ) → q < 2 ^ 62 → to_z w64 q ≡ pos q
positive_word q h = omega (arith, ints)

pub size_value : (m e q t : ℕ) → q * 2 ^ t ≡ m → q * 2 ^ (t + e) ≡ m * 2 ^ e
size_value m e q t h = sym (shifted_twice q t e) ∙ ap (λ x. x * 2 ^ e) h

pub finite_is : (x : Extended) (s : Bool) (n : ℕ) → is_infinite_of x ≡ false → s ≡ is_negative_of x → n ≡ magnitude_of x → Fin (with_sign s n) ≡ x
finite_is NegInf s n f e g = absurd (true≢false f)
finite_is PosInf s n f e g = absurd (true≢false f)
finite_is (Fin (pos m)) s n f e g = ap (λ z. Fin (with_sign z n)) e ∙ ap (λ z. Fin (pos z)) g
finite_is (Fin (negsuc m)) s n f e g = ap (λ z. Fin (with_sign z n)) e ∙ ap (λ z. Fin (neg_ℤ (pos z))) g

value_from : (m e z : ℤ) (k : ℕ) → e +ℤ pos 512 ≡ pos k → z ≡ m *ℤ pos (2 ^ k) → IsValue m e z
value_from m e z k h v = subst (λ x. IsValueAt m x z) (sym h) v

back_512 : (k : ℕ) → (pos k -ℤ pos 512) +ℤ pos 512 ≡ pos k
back_512 k = omega (arith, ints)

odd_size : (s : Bool) (n : ℕ) → n % 2 ≡ 1 → unsigned_abs (with_sign s n) % 2 ≡ 1
odd_size true zero h = h
odd_size true (suc n) h = h
odd_size false n h = h

signed_value : (s : Bool) (q k n : ℕ) → q * 2 ^ k ≡ n → with_sign s n ≡ with_sign s q *ℤ pos (2 ^ k)
signed_value false q k n h = ap pos (sym h)
signed_value true zero k n h = ap (λ x. neg_ℤ (pos x)) (sym h ∙ zero-mul (2 ^ k)) ∙ sym (ap pos (zero-mul (2 ^ k)))
signed_value true (suc q) k n h = ap (λ x. neg_ℤ (pos x)) (sym h) ∙ sym (negsuc-*ℤ-pos q (2 ^ k))

signed_parts_are : (s : Bool) (n : ℕ) → 0 < n → IsValue (with_sign s (odd_of n)) (exponent_parts n) (with_sign s n) × IsCanonical (with_sign s (odd_of n)) (exponent_parts n)
signed_parts_are s n p = (
  value_from (with_sign s (odd_of n)) (exponent_parts n) (with_sign s n) (twos n) (back_512 (twos n)) (signed_value s (odd_of n) (twos n) n (odd_of-value n)),
  inl (odd_size s (odd_of n) (odd_of-odd n p)),
)

pub parts_of-are : (x : Extended) → IsPartsOf x (parts_of x)
parts_of-are NegInf = tt
parts_of-are (Fin (pos zero)) = (ap pos (sym (zero-mul (2 ^ 512))), inr (refl, refl))
parts_of-are (Fin (pos (suc n))) = signed_parts_are false (suc n) (omega arith)
parts_of-are (Fin (negsuc n)) = signed_parts_are true (suc n) (omega arith)
parts_of-are PosInf = tt

-- ---- The whole part

high_part : (m e : ℕ) → 512 ≤ e → m * 2 ^ e / unit ≡ m * 2 ^ (e - 512)
high_part m e h =
    at_unit (λ u. m * 2 ^ e / u ≡ m * 2 ^ (e - 512)) (λ s q.
    let w : e - 512 + s ≡ e = omega (arith, q, h) in
    ap (λ x. x / 2 ^ s) (sym (shifted_to m (e - 512) s e w)) ∙ mul-div_cancel (m * 2 ^ (e - 512)) (pow_pos s))

pub high_small : (m e : ℕ) → 512 ≤ e → m * 2 ^ e < 2 ^ 64 * unit → m * 2 ^ (e - 512) < 2 ^ 64
high_small m e h =
    at_unit (λ u. m * 2 ^ e < 2 ^ 64 * u → m * 2 ^ (e - 512) < 2 ^ 64) (λ s q l.
    let w : e - 512 + s ≡ e = omega (arith, q, h) in
    lt_of_mul-lt-mul_right (2 ^ s) (subst (λ x. x < 2 ^ 64 * 2 ^ s) (sym (shifted_to m (e - 512) s e w)) l))

pub high_whole : (m e : ℕ) → 512 ≤ e → m * 2 ^ e < 2 ^ 64 * unit → m * 2 ^ (e - 512) % 2 ^ 64 ≡ m * 2 ^ e / unit
high_whole m e h l = mod-eq_of_lt (high_small m e h l) ∙ sym (high_part m e h)

pub high_shift : (m e : ℕ) → 512 ≤ e → 2 ^ 61 ≤ m → m * 2 ^ e < 2 ^ 64 * unit → e - 512 < 64
high_shift m e h j l =
    let a : m * 2 ^ (e - 512) < 2 ^ 64 = high_small m e h l in
    let b : 1 * 2 ^ (e - 512) ≤ m * 2 ^ (e - 512) = mul-le-mul_right (2 ^ (e - 512)) (omega (arith, j)) in
    let c : 2 ^ (e - 512) < 2 ^ 64 = omega (arith, a, b) in
    elim (cases_lt (e - 512) 64) [
      | inl k ↦ k
      | inr k ↦
          let two : 0 < 2 = omega arith in
          let d : 2 ^ 64 ≤ 2 ^ (e - 512) = pow-le-pow_right two k in
          absurd (omega (arith, c, d))
    ]

pub low_whole : (m e : ℕ) → e < 512 → m / 2 ^ (512 - e) ≡ m * 2 ^ e / unit
low_whole m e h =
    at_unit (λ u. m / 2 ^ (512 - e) ≡ m * 2 ^ e / u) (λ s q.
    let w : 512 - e + e ≡ s = omega (arith, q, h) in
    let split : 2 ^ s ≡ 2 ^ (512 - e) * 2 ^ e = ap (λ x. 2 ^ x) (sym w) ∙ pow-add 2 (512 - e) e in
    sym (mul-div-mul_right m (2 ^ (512 - e)) (pow_pos e)) ∙ ap (λ x. m * 2 ^ e / x) (sym split))

pub none_whole : (m e : ℕ) → m < 2 ^ 62 → 64 ≤ 512 - e → 0 ≡ m * 2 ^ e / unit
none_whole m e f h =
    let less : e < 512 = omega arith in
    let two : 0 < 2 = omega arith in
    let l : m < 2 ^ (512 - e) = lt_of_lt_of_le (omega (arith, f)) (pow-le-pow_right two h) in
    sym (div-eq_of_lt l) ∙ low_whole m e less

pub parts_with : (s t : Bool) (n : ℕ) (p : Parts) → s ≡ t → p ≡ parts_of (Fin (with_sign t n)) → p ≡ parts_of (Fin (with_sign s n))
parts_with s t n p e h = h ∙ ap (λ x. parts_of (Fin (with_sign x n))) (sym e)

-- Two roundings that meet are the value.
pub met : (v lo hi : ℕ) → lo * fine ≤ v → v ≤ hi * fine → hi ≤ lo → lo * fine ≡ v
met v lo hi a b h = let k : hi * fine ≤ lo * fine = mul-le-mul_right fine h in omega (arith, a, b, k)

-- ---- The parts of a size are small

pub odd_below : (n : ℕ) → 0 < n → IsGridSize n → odd_of n < 2 ^ 62
odd_below n p g =
    let k : g.exponent ≤ twos n = twos-greatest n g.mantissa g.exponent p (sym g.value) in
    let d : twos n - g.exponent + g.exponent ≡ twos n = omega (arith, k) in
    let a : odd_of n * 2 ^ (twos n - g.exponent) * 2 ^ g.exponent ≡ g.mantissa * 2 ^ g.exponent = shifted_to (odd_of n) (twos n - g.exponent) g.exponent (twos n) d ∙ odd_of-value n ∙ g.value in
    let b : odd_of n * 2 ^ (twos n - g.exponent) ≡ g.mantissa = eq_of_mul-eq-mul_right (2 ^ g.exponent) (pow_pos g.exponent) _ _ a in
    let c : odd_of n ≤ odd_of n * 2 ^ (twos n - g.exponent) = le-mul_of_pos_right (odd_of n) (pow_pos (twos n - g.exponent)) in
    let fits : g.mantissa < 2 ^ 62 = g.mantissa_fits in
    omega (arith, b, c, fits)

twos_under : (n t : ℕ) → t ≡ 962 → 0 < n → IsGridSize n → twos n < 62 + t
twos_under n t q p g =
    let odd : 0 < odd_of n = elim (cases_eq (odd_of n) 0) [
      | inl z ↦ let w : odd_of n * 2 ^ twos n ≡ 0 = ap (λ x. x * 2 ^ twos n) z ∙ zero-mul (2 ^ twos n) in absurd (omega (arith, w, odd_of-value n, p))
      | inr c ↦ omega (arith, c)
    ] in
    let low : 1 * 2 ^ twos n ≤ odd_of n * 2 ^ twos n = mul-le-mul_right (2 ^ twos n) (omega (arith, odd)) in
    let high : n < 2 ^ (62 + t) = below_all n t q g in
    elim (cases_lt (twos n) (62 + t)) [
      | inl l ↦ l
      | inr l ↦
          let two : 0 < 2 = omega arith in
          let up : 2 ^ (62 + t) ≤ 2 ^ twos n = pow-le-pow_right two l in
          absurd (omega (arith, up, low, high, odd_of-value n))
    ]

pub twos_below : (n : ℕ) → 0 < n → IsGridSize n → twos n < 1024
twos_below n p g = twos_under n 962 refl p g
