use Rattle.std.proofs.Common.{◌≡◌, ℕ, ◌+◌, ◌*◌, ◌%◌, ◌^◌, ◌<◌, ◌≤◌, arith, ap, sym, subst, ◌∙◌}
use Rattle.std.proofs.lemmas.Nat.{pow-add, shl_below}
use Rattle.std.proofs.Math.Nat.{mul-le-mul_right, lt_of_lt_of_le, pow-le-pow_right, mod-eq_of_lt}
use Rattle.pv_num.proofs.Align.{shifted_to, fits_under, one_below}

-- ---- A word shifted to the left

word_whole : (m l d : ℕ) → m < 2 ^ l → l + d ≤ 64 → (m * 2 ^ d) % 2 ^ 64 ≡ m * 2 ^ d
word_whole m l d h k =
    let two : 0 < 2 = omega arith in
    mod-eq_of_lt (lt_of_lt_of_le (shl_below m l d h) (pow-le-pow_right two k))

pub left_part : (m l d g f : ℕ) → m < 2 ^ l → l + d ≤ 64 → d + g ≡ f → (m * 2 ^ d) % 2 ^ 64 * 2 ^ g ≡ m * 2 ^ f
left_part m l d g f h k q = ap (λ x. x * 2 ^ g) (word_whole m l d h k) ∙ shifted_to m d g f q

pub few_bits : (l w : ℕ) → 2 ^ l ≤ 2 * w → w < 2 ^ 62 → l ≤ 62
few_bits l w h k =
    let a : 1 * 2 ^ l < 2 ^ 63 = omega (arith, h, k) in
    let b : l < 63 = one_below 1 l 63 (omega arith) a in
    omega (arith, b)

pub left_fits : (w l d : ℕ) → w < 2 ^ l → l + d ≤ 62 → (w * 2 ^ d) % 2 ^ 64 < 2 ^ 62
left_fits w l d h k = subst (λ x. x < 2 ^ 62) (sym (word_whole w l d h (omega (arith, k)))) (fits_under l d 62 w h k)

pub left_full : (w l d : ℕ) → w < 2 ^ l → 2 ^ l ≤ 2 * w → l + d ≡ 62 → 2 ^ 61 ≤ (w * 2 ^ d) % 2 ^ 64
left_full w l d h j q =
    let e : 2 ^ l * 2 ^ d ≡ 2 ^ 62 = sym (pow-add 2 l d) ∙ ap (λ x. 2 ^ x) q in
    let k : 2 ^ l * 2 ^ d ≤ 2 * w * 2 ^ d = mul-le-mul_right (2 ^ d) j in
    let r : 2 ^ 61 ≤ w * 2 ^ d = omega (arith, e, k) in
    subst (λ x. 2 ^ 61 ≤ x) (sym (word_whole w l d h (omega (arith, q)))) r
