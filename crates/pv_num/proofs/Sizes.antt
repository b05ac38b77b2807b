use Rattle.std.proofs.Common.{◌≡◌, ℕ, zero, suc, ◌*◌, ◌^◌, ◌<◌, ◌≤◌, arith, ap, subst}
use Rattle.std.specs.Ordering.{nat_cmp, MatchOrdering}
use Rattle.std.specs.Cmp.{ranked, nat_cmp_is}
use Rattle.std.specs.declared.cmp.Ordering.{Ordering}
use Rattle.std.specs.declared.cmp.Ordering.TheVariants.{Less, Equal, Greater}
use Rattle.std.proofs.lemmas.Nat.{pow_pos}
use Rattle.std.proofs.Math.Nat.{mul-lt-mul_of_pos_right, lt_of_lt_of_le}
use Rattle.pv_num.specs.Inside.{at_top, below_top}

-- A larger exponent makes the larger size, where the larger mantissa is left-justified.
pub exponent_orders : (m e n f : ℕ) → m < 2 ^ 62 → (0 < f → 2 ^ 61 ≤ n) → e < f → m * 2 ^ e < n * 2 ^ f
exponent_orders m e n zero h j l = absurd (omega arith)
exponent_orders m e n (suc f) h j l =
    let less : e ≤ f = omega arith in
    lt_of_lt_of_le (below_top m e f h less) (at_top n f (j (omega arith)))

scaled : (r : Ordering) (m n p : ℕ) → 0 < p → MatchOrdering r (m < n) (m ≡ n) (n < m) → MatchOrdering r (m * p < n * p) (m * p ≡ n * p) (n * p < m * p)
scaled Less m n p h k = mul-lt-mul_of_pos_right k h
scaled Equal m n p h k = ap (λ x. x * p) k
scaled Greater m n p h k = mul-lt-mul_of_pos_right k h

pub same_exponent : (r : Ordering) (m n e f : ℕ) → e ≡ f → r ≡ nat_cmp m n → r ≡ nat_cmp (m * 2 ^ e) (n * 2 ^ f)
same_exponent r m n e f q h =
    subst (λ k. r ≡ nat_cmp (m * 2 ^ e) (n * 2 ^ k)) q
    (nat_cmp_is (m * 2 ^ e) (n * 2 ^ e) r (scaled r m n (2 ^ e) (pow_pos e) (ranked m n r h)))

pub first_less : (m e n f : ℕ) → m * 2 ^ e < n * 2 ^ f → Less ≡ nat_cmp (m * 2 ^ e) (n * 2 ^ f)
first_less m e n f h = nat_cmp_is (m * 2 ^ e) (n * 2 ^ f) Less h

pub second_less : (m e n f : ℕ) → n * 2 ^ f < m * 2 ^ e → Greater ≡ nat_cmp (m * 2 ^ e) (n * 2 ^ f)
second_less m e n f h = nat_cmp_is (m * 2 ^ e) (n * 2 ^ f) Greater h
