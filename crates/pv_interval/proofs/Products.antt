-- Products of whole numbers and their order.
use Rattle.std.proofs.Common.{◌≡◌, ℕ, suc, ◌<◌, ◌≤◌, arith, sym, subst}
use Rattle.std.specs.Prelude.{ℤ, pos, negsuc, ◌*ℤ◌, ◌≤ℤ◌, ◌<ℤ◌}
use Rattle.std.proofs.Math.Nat.{mul-le-mul_right}
use Rattle.std.proofs.Math.IntN.{*ℤ_comm, *ℤ-zero}
use Rattle.std.proofs.lemmas.Int.{ints, by_lt_z}
use lib.IntN.{neg_ℤ}

pub trans : (a b c : ℤ) → a ≤ℤ b → b ≤ℤ c → a ≤ℤ c
trans a b c h k = omega (arith, ints)

neg_pos : (m n : ℕ) → m ≤ n → neg_ℤ (pos n) ≤ℤ neg_ℤ (pos m)
neg_pos m n h = omega (arith, ints)

pub times_pos : (k : ℕ) (a x : ℤ) → a ≤ℤ x → (a *ℤ pos k) ≤ℤ (x *ℤ pos k)
times_pos k (pos m) (pos n) h = let e : m ≤ n = omega (arith, ints) in let f = mul-le-mul_right k e in omega (arith, ints)
times_pos k (pos m) (negsuc n) h = absurd (omega (arith, ints))
times_pos k (negsuc m) (pos n) h = grind (arith, ints)
times_pos k (negsuc m) (negsuc n) h = let e : suc n ≤ suc m = omega (arith, ints) in neg_pos _ _ (mul-le-mul_right k e)

pub times_negsuc : (k : ℕ) (a x : ℤ) → a ≤ℤ x → (x *ℤ negsuc k) ≤ℤ (a *ℤ negsuc k)
times_negsuc k (pos m) (pos n) h = let e : m ≤ n = omega (arith, ints) in neg_pos _ _ (mul-le-mul_right (suc k) e)
times_negsuc k (pos m) (negsuc n) h = absurd (omega (arith, ints))
times_negsuc k (negsuc m) (pos n) h = grind (arith, ints)
times_negsuc k (negsuc m) (negsuc n) h = let e : suc n ≤ suc m = omega (arith, ints) in let f = mul-le-mul_right (suc k) e in omega (arith, ints)

pub times_pos_strict : (k : ℕ) (a x : ℤ) → 0 < k → a <ℤ x → (a *ℤ pos k) <ℤ (x *ℤ pos k)
times_pos_strict k (pos m) (pos n) p h = let e : suc m ≤ n = omega (arith, ints) in let f = mul-le-mul_right k e in omega (arith, ints)
times_pos_strict k (pos m) (negsuc n) p h = absurd (omega (arith, ints))
times_pos_strict k (negsuc m) (pos n) p h = grind (arith, ints)
times_pos_strict k (negsuc m) (negsuc n) p h = let e : suc n < suc m = omega (arith, ints) in grind (arith, ints, mul-le-mul_right k e)

pub cancel_pos : (k : ℕ) (a x : ℤ) → 0 < k → (a *ℤ pos k) ≤ℤ (x *ℤ pos k) → a ≤ℤ x
cancel_pos k a x p h = by_lt_z x a (λ l. let f = times_pos_strict k x a p l in absurd (omega (arith, ints))) (λ l. l)

pub times_from_zero : (c a x : ℤ) → pos 0 ≤ℤ c → a ≤ℤ x → (a *ℤ c) ≤ℤ (x *ℤ c)
times_from_zero (pos k) a x p h = times_pos k a x h
times_from_zero (negsuc k) a x p h = absurd (omega (arith, ints))

pub times_to_zero : (c a x : ℤ) → c ≤ℤ pos 0 → a ≤ℤ x → (x *ℤ c) ≤ℤ (a *ℤ c)
times_to_zero (pos k) a x p h =
    let e : k ≡ 0 = omega (arith, ints) in
    subst (λ j. (x *ℤ pos j) ≤ℤ (a *ℤ pos j)) (sym e)
    (let f = *ℤ-zero x in let g = *ℤ-zero a in omega (arith, ints))
times_to_zero (negsuc k) a x p h = times_negsuc k a x h

pub from_zero_times : (c a x : ℤ) → pos 0 ≤ℤ c → a ≤ℤ x → (c *ℤ a) ≤ℤ (c *ℤ x)
from_zero_times c a x p h =
    let e = *ℤ_comm c a in let f = *ℤ_comm c x in let g = times_from_zero c a x p h in omega (arith, ints)

pub to_zero_times : (c a x : ℤ) → c ≤ℤ pos 0 → a ≤ℤ x → (c *ℤ x) ≤ℤ (c *ℤ a)
to_zero_times c a x p h =
    let e = *ℤ_comm c a in let f = *ℤ_comm c x in let g = times_to_zero c a x p h in omega (arith, ints)
