-- The bits of a set of marks.
use Rattle.std.proofs.Common.{◌≡◌, ◌≢◌, ℕ, zero, suc, ◌+◌, ◌*◌, ◌%◌, ◌^◌, ◌<◌, true, false, refl, sym, ◌∙◌, ap, arith, inl, inr, bit_or, bit_and, bit_xor}
use Rattle.std.specs.Prelude.{nat_eq, not, ◌||◌, ◌&&◌, min}
use Rattle.std.specs.Int.{bit_at, w64}
use Rattle.std.proofs.lemmas.Bool.{cases_eq}
use Rattle.std.proofs.lemmas.Bool.Decides.{nat_tests}
use Rattle.std.proofs.lemmas.Nat.Bits.{bit_at_set_same, bit_at_set_other, bit_at_and, bit_at_xor, bit_at-lt}

pub same_number : (i k : ℕ) → k ≡ i → nat_eq i k ≡ true
same_number i k e = grind (arith, nat_tests)

pub other_number : (i k : ℕ) → k ≢ i → nat_eq i k ≡ false
other_number i k n = grind (arith, nat_tests)

pub with_bit : (n i s k : ℕ) → i < 64 → s ≡ i → nat_eq (bit_at (bit_or n (1 * 2 ^ s % 2 ^ 64)) k) 1 ≡ (nat_eq i k || nat_eq (bit_at n k) 1)
with_bit n i s k h e = elim (cases_eq k i) [
  | inl p ↦
      let q : k ≡ s = p ∙ sym e in
      ap (λ (j : ℕ). nat_eq (bit_at (bit_or n (1 * 2 ^ s % 2 ^ 64)) j) 1) q
      ∙ ap (λ (b : ℕ). nat_eq b 1) (bit_at_set_same w64 n s (omega arith))
      ∙ sym (ap (λ t. t || nat_eq (bit_at n k) 1) (same_number i k p))
  | inr p ↦
      ap (λ (b : ℕ). nat_eq b 1) (bit_at_set_other w64 n s (omega arith) k (λ q. p (q ∙ e)))
      ∙ sym (ap (λ t. t || nat_eq (bit_at n k) 1) (other_number i k p))
]

both_bits : (a b : ℕ) → a < 2 → b < 2 → nat_eq ((a + min a b) % 2) 1 ≡ (nat_eq a 1 && not (nat_eq b 1))
both_bits zero zero h k = refl
both_bits zero (suc zero) h k = refl
both_bits (suc zero) zero h k = refl
both_bits (suc zero) (suc zero) h k = refl
both_bits (suc (suc a)) b h k = absurd (omega arith)
both_bits a (suc (suc b)) h k = absurd (omega arith)

-- n ^ (n & m) has the bits of n that m does not have
pub without_bit : (n m k : ℕ) → nat_eq (bit_at (bit_xor n (bit_and n m)) k) 1 ≡ (nat_eq (bit_at n k) 1 && not (nat_eq (bit_at m k) 1))
without_bit n m k =
    ap (λ (b : ℕ). nat_eq b 1) (bit_at_xor n (bit_and n m) k)
    ∙ ap (λ (b : ℕ). nat_eq ((bit_at n k + b) % 2) 1) (bit_at_and n m k)
    ∙ both_bits (bit_at n k) (bit_at m k) (bit_at-lt n k) (bit_at-lt m k)
