-- A product of two numbers of 128 bits from their halves.
use Rattle.std.proofs.Common.{◌≡◌, ℕ, ◌+◌, ◌*◌, ◌/◌, ◌%◌, arith}

wide_by_parts : (ah al bh bl lq lr oq or tq tr : ℕ) →
    al * bl ≡ 18446744073709551616 * lq + lr → ah * bl + lq ≡ 18446744073709551616 * oq + or →
    al * bh + or ≡ 18446744073709551616 * tq + tr →
    (ah * bh + oq + tq) * 340282366920938463463374607431768211456 + (tr * 18446744073709551616 + lr)
    ≡ (18446744073709551616 * ah + al) * (18446744073709551616 * bh + bl)
wide_by_parts ah al bh bl lq lr oq or tq tr low one two = omega arith

split : (n : ℕ) → n ≡ 18446744073709551616 * (n / 18446744073709551616) + n % 18446744073709551616
split n = omega arith

pub wide : (ah al bh bl : ℕ) →
    (ah * bh + (ah * bl + al * bl / 18446744073709551616) / 18446744073709551616
    + (al * bh + (ah * bl + al * bl / 18446744073709551616) % 18446744073709551616) / 18446744073709551616)
    * 340282366920938463463374607431768211456
    + ((al * bh + (ah * bl + al * bl / 18446744073709551616) % 18446744073709551616) % 18446744073709551616
    * 18446744073709551616 + al * bl % 18446744073709551616)
    ≡ (18446744073709551616 * ah + al) * (18446744073709551616 * bh + bl)
wide ah al bh bl = wide_by_parts ah al bh bl _ _ _ _ _ _ (split (al * bl)) (split (ah * bl + al * bl / 18446744073709551616))
    (split (al * bh + (ah * bl + al * bl / 18446744073709551616) % 18446744073709551616))

-- for two numbers by their halves
pub wide_of : (a b : ℕ) →
    (18446744073709551616 * (a / 18446744073709551616) + a % 18446744073709551616)
    * (18446744073709551616 * (b / 18446744073709551616) + b % 18446744073709551616) ≡ a * b
wide_of a b = rw (← split a, ← split b)
