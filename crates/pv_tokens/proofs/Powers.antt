-- Powers of ten, and quotients by a common divisor.
use Rattle.std.proofs.Common.{◌≡◌, ℕ, ◌*◌, ◌^◌, ◌<◌, ◌≤◌, ◌/◌, pos, refl, sym, ◌∙◌, ap, subst, arith}
use Rattle.std.specs.Int.{IsGcd}
use Rattle.std.proofs.Math.Nat.{pow-le-pow_right, one-le-pow, mul-div_cancel', div-le_self, dvd-mul_left, dvd_of_mul-dvd-mul_left, mul-dvd-mul_left, pos_of_dvd_of_pos, mul_assoc, mul_comm, mul-one, one-dvd}
use Prim.Native.Nat.{◌∣◌}
use Rattle.pv_expr.specs.Systems.{IsFraction}
use Rattle.pv_tokens.specs.Numbers.{IsLowest}

pub least_power : (n : ℕ) → 1 ≤ 10 ^ n
least_power n = one-le-pow n 10 (omega arith)

pub most_power : (n k : ℕ) → n ≤ k → 10 ^ n ≤ 10 ^ k
most_power n k h = pow-le-pow_right {n = 10} (omega arith) h

-- a number's part over a divisor
part : (a g : ℕ) → g ∣ a → g * (a / g) ≡ a
part a g by_g = mul-div_cancel' g by_g

part_positive : (b g : ℕ) → 0 < b → g ∣ b → 0 < b / g
part_positive b g some by_g = pos_of_dvd_of_pos (subst (λ n. b / g ∣ n) (part b g by_g) (dvd-mul_left (b / g) g)) some

wider : (a g d : ℕ) → g ∣ a → d ∣ a / g → g * d ∣ a
wider a g d by_g by_d = subst (λ n. g * d ∣ n) (part a g by_g) (mul-dvd-mul_left d g by_d)

coprime : (a b g : ℕ) → 0 < b → IsGcd a b g → IsGcd (a / g) (b / g) 1
coprime a b g some is_gcd = (
  one-dvd (a / g),
  one-dvd (b / g),
  λ d in_a in_b. dvd_of_mul-dvd-mul_left {k = g} d (pos_of_dvd_of_pos is_gcd.1 some)
      (subst (λ n. g * d ∣ n) (sym (mul-one g)) (is_gcd.2 (g * d) (wider a g d is_gcd.0 in_a) (wider b g d is_gcd.1 in_b))),
)

-- both over their greatest common divisor
pub divided : (a b g : ℕ) → 0 < b → IsGcd a b g → (0 < g) × IsLowest a b (pos (a / g), b / g)
divided a b g some is_gcd = (
  pos_of_dvd_of_pos is_gcd.1 some,
  record {
    above = a / g;
    numerator = refl;
    same_value = ap (λ n. a / g * n) (sym (part b g is_gcd.1)) ∙ sym (mul_assoc (a / g) g (b / g)) ∙ ap (λ n. n * (b / g)) (mul_comm (a / g) g ∙ part a g is_gcd.0);
    not_zero = part_positive b g some is_gcd.1;
    no_common_factor = coprime a b g some is_gcd;
  },
)

-- and then within the bounds of a fraction
pub fraction_of : (a b g : ℕ) → a < 10 ^ 37 → 0 < b → b ≤ 10 ^ 36 → IsGcd a b g → IsFraction (pos (a / g)) (b / g)
fraction_of a b g above some below is_gcd = record {
  lowest = coprime a b g some is_gcd;
  top_below = omega (arith, div-le_self a g);
  under_above = part_positive b g some is_gcd.1;
  under_below = omega (arith, div-le_self b g);
}
