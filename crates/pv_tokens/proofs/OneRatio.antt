-- A ratio has one numerator and one denominator in lowest terms.
use Rattle.std.proofs.Common.{◌≡◌, ℕ, zero, suc, ◌-◌, ◌*◌, ◌<◌, ◌≤◌, ◌/◌, ◌%◌, pos, ℤ, refl, sym, ◌∙◌, ap, subst, arith}
use Prim.Native.Nat.{◌∣◌}
use Rattle.std.specs.Int.{IsGcd}
use Rattle.std.proofs.Math.Nat.{mul_comm, mul_assoc, mul-one, mul-sub, mod-eq-sub-mul-div, mod-lt, dvd-sub, dvd-mul_right, dvd-mul_right_of_dvd, eq_of_mul-eq-mul_right}
use Rattle.std.proofs.lemmas.Nat.Gcd.{IsGcd-from_mod, IsGcd-from_zero, dvd_antisymm, same_from_IsGcd}
use Rattle.pv_tokens.specs.Numbers.{IsLowest}

-- the greatest common divisor, and what divides multiples of both numbers
pub record Common (a b : ℕ) : Type 0 where
  pub divisor : ℕ
  pub gcd : IsGcd a b divisor
  pub multiple : (c r : ℕ) → c ∣ r * a → c ∣ r * b → c ∣ r * divisor

rest_divides : (a b c r : ℕ) → c ∣ r * a → c ∣ r * b → c ∣ r * (a % b)
rest_divides a b c r in_a in_b =
    let cut : r * (a % b) ≡ r * a - r * b * (a / b) = ap (λ n. r * n) (mod-eq-sub-mul-div a b) ∙ mul-sub r a (b * (a / b)) ∙ ap (λ n. r * a - n) (sym (mul_assoc r b (a / b))) in
    subst (λ n. c ∣ n) (sym cut) (dvd-sub c in_a (dvd-mul_right_of_dvd c in_b (a / b)))

pub common : (n a b : ℕ) → b ≤ n → Common a b
common n a zero few = record { divisor = a; gcd = IsGcd-from_zero a 0 refl; multiple = λ c r in_a in_b. in_a }
common zero a (suc b) few = absurd (omega arith)
common (suc n) a (suc b) few =
    let rest = common n (suc b) (a % suc b) (let less : a % suc b < suc b = mod-lt a (omega arith) in omega arith) in
    record {
      divisor = rest.divisor;
      gcd = IsGcd-from_mod a (suc b) rest.divisor rest.gcd;
      multiple = λ c r in_a in_b. rest.multiple c r in_b (rest_divides a (suc b) c r in_a in_b);
    }

crossed : (a b x q y r : ℕ) → 0 < b → x * b ≡ a * q → y * b ≡ a * r → r * x ≡ q * y
crossed a b x q y r some first second =
    let left : r * x * b ≡ r * (a * q) = mul_assoc r x b ∙ ap (λ n. r * n) first in
    let right : q * y * b ≡ q * (a * r) = mul_assoc q y b ∙ ap (λ n. q * n) second in
    let middle : r * (a * q) ≡ q * (a * r) = mul_comm r (a * q) ∙ ap (λ n. n * r) (mul_comm a q) ∙ mul_assoc q a r in
    eq_of_mul-eq-mul_right b some (r * x) (q * y) (left ∙ middle ∙ sym right)

-- the denominator divides each other one
divides : (a b : ℕ) (v w : ℤ × ℕ) → 0 < b → IsLowest a b v → IsLowest a b w → v.1 ∣ w.1
divides a b v w some h k =
    let c = common v.1 h.above v.1 (omega arith) in
    let one : c.divisor ≡ 1 = same_from_IsGcd h.above v.1 c.divisor 1 c.gcd h.no_common_factor in
    let by_above : v.1 ∣ w.1 * h.above = subst (λ n. v.1 ∣ n) (sym (crossed a b h.above v.1 k.above w.1 some h.same_value k.same_value)) (dvd-mul_right v.1 k.above) in
    let by_under : v.1 ∣ w.1 * v.1 = subst (λ n. v.1 ∣ n) (mul_comm v.1 w.1) (dvd-mul_right v.1 w.1) in
    subst (λ n. v.1 ∣ n) (ap (λ n. w.1 * n) one ∙ mul-one w.1) (c.multiple v.1 w.1 by_above by_under)

-- a quotient has one value in lowest terms
pub one_lowest : (a b : ℕ) (v w : ℤ × ℕ) → 0 < b → IsLowest a b v → IsLowest a b w → (v.0 ≡ w.0) × (v.1 ≡ w.1)
one_lowest a b v w some h k =
    let unders : v.1 ≡ w.1 = dvd_antisymm (divides a b v w some h k) (divides a b w v some k h) in
    let aboves : h.above ≡ k.above = eq_of_mul-eq-mul_right b some h.above k.above (h.same_value ∙ ap (λ n. a * n) unders ∙ sym k.same_value) in
    (h.numerator ∙ ap pos aboves ∙ sym k.numerator, unders)
