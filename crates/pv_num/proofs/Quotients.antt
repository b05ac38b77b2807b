use Rattle.std.proofs.Common.{◌≡◌, ℕ, suc, ◌+◌, ◌-◌, ◌*◌, ◌%◌, ◌^◌, ◌<◌, ◌≤◌, arith, inl, inr, ap, sym, subst, ◌∙◌}
use Rattle.std.proofs.lemmas.Bool.{cases_lt}
use Rattle.std.proofs.lemmas.Nat.{pow-add, shl_below}
use Rattle.std.proofs.Math.Nat.{mul-le-mul_right, mul_assoc, lt_of_lt_of_le, pow-le-pow_right, mod-eq_of_lt, two-pow-succ}

-- ---- Numbers shifted to a number of bits

pub length_fits : (n bits l : ℕ) → n < 2 ^ bits → 2 ^ l ≤ 2 * n → l ≤ bits
length_fits n bits l h k =
    elim (cases_lt bits l) [
      | inl less ↦
          let two : 0 < 2 = omega arith in
          let up : suc bits ≤ l = omega arith in
          let p : 2 ^ suc bits ≤ 2 ^ l = pow-le-pow_right two up in
          absurd (omega (arith, p, two-pow-succ bits, k, h))
      | inr more ↦ more
    ]

pub aligned_high : (n bits l : ℕ) → n < 2 ^ l → l ≤ bits → n * 2 ^ (bits - l) < 2 ^ bits
aligned_high n bits l h k =
    let e : l + (bits - l) ≡ bits = omega arith in
    subst (λ x. n * 2 ^ (bits - l) < 2 ^ x) e (shl_below n l (bits - l) h)

pub aligned_whole : (n bits l : ℕ) → n < 2 ^ l → l ≤ bits → bits ≤ 128 → (n * 2 ^ (bits - l)) % 2 ^ 128 ≡ n * 2 ^ (bits - l)
aligned_whole n bits l h k w =
    let two : 0 < 2 = omega arith in
    mod-eq_of_lt (lt_of_lt_of_le (aligned_high n bits l h k) (pow-le-pow_right two w))

pub aligned_low : (n bits l : ℕ) → 2 ^ l ≤ 2 * n → l ≤ bits → 2 ^ bits ≤ 2 * (n * 2 ^ (bits - l))
aligned_low n bits l h k =
    let e : l + (bits - l) ≡ bits = omega arith in
    let s : 2 ^ bits ≡ 2 ^ l * 2 ^ (bits - l) = ap (λ x. 2 ^ x) (sym e) ∙ pow-add 2 l (bits - l) in
    let m : 2 ^ l * 2 ^ (bits - l) ≤ 2 * n * 2 ^ (bits - l) = mul-le-mul_right (2 ^ (bits - l)) h in
    omega (arith, s, m, mul_assoc 2 n (2 ^ (bits - l)))

-- ---- Division by digits

pub digit_value : (q d rest n i more left : ℕ) → more * d + left ≡ (q * d + rest) * 128 → q * d + rest ≡ n * 2 ^ (7 * i) → more * d + left ≡ n * 2 ^ (7 * (i + 1))
digit_value q d rest n i more left h k =
    let e : 7 * (i + 1) ≡ 7 * i + 7 = omega arith in
    h ∙ ap (λ x. x * 128) k ∙ mul_assoc n (2 ^ (7 * i)) 128 ∙ ap (λ x. n * x) (sym (pow-add 2 (7 * i) 7)) ∙ ap (λ x. n * 2 ^ x) (sym e)

pub digit_fits : (q i more : ℕ) → more < (q + 1) * 128 → q < 2 ^ (7 + 7 * i) → more < 2 ^ (7 + 7 * (i + 1))
digit_fits q i more h k =
    let e : 7 + 7 * (i + 1) ≡ 7 + 7 * i + 7 = omega arith in
    let s : 2 ^ (7 + 7 * (i + 1)) ≡ 2 ^ (7 + 7 * i) * 128 = ap (λ x. 2 ^ x) e ∙ pow-add 2 (7 + 7 * i) 7 in
    omega (arith, s, h, k)
