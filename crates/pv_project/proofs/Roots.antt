-- Roots, and the cases of the power.
use Rattle.std.proofs.Common.{◌≡◌, ◌≢◌, ℕ, zero, suc, ◌%◌, refl, arith, ◌∙◌, ap, subst, cond}
use Rattle.std.specs.Prelude.{IsTrue, Bool, true, false, pos, Option, Some, None, if◌then◌else◌, eqb}
use Rattle.std.proofs.lemmas.Bool.{eq-eqb}
use Rattle.std.proofs.Math.Dec.{eqb-suc-zero}
use lib.IntN.{neg_ℤ}
use Rattle.pv_num.specs.Extended.{Extended, NegInf, Fin, PosInf}
use Rattle.pv_num.specs.Grid.{unit}
use Rattle.pv_num.specs.Order.{le, lesser, greater}
use Rattle.pv_num.specs.Arithmetic.{neg_of, root_of}
use Rattle.pv_num.specs.Rounding.{at_least_plus}
use Rattle.pv_num.specs.declared.num.End.TheVariants.{Down, Up}
use Rattle.pv_interval.specs.Bounds.{Bounds, IsInterval, between}
use Rattle.pv_interval.specs.Tables.{nought, meet_of, holds}
use Rattle.pv_interval.proofs.Ends.{le_trans}
use Rattle.pv_interval.proofs.Choices.{greater_right}
use Rattle.pv_project.specs.Projections.{chain, back_pow_of, both_signs, even_roots, odd_low, odd_high}
use Rattle.pv_interval.proofs.Picks.{not_pos, not_neg}

pub root_down_open : (z : Extended) (n : ℕ) → root_of Down z n ≢ PosInf
unfolding root_of
root_down_open z n = not_pos _

plus_open : (o : Option ℕ) → at_least_plus o ≢ NegInf
plus_open None = λ e. cc
plus_open (Some n) = not_neg (pos n)

pub root_up_open : (z : Extended) (n : ℕ) → root_of Up z n ≢ NegInf
unfolding root_of
root_up_open NegInf n = not_neg (pos 0)
root_up_open (Fin a) n = plus_open _
root_up_open PosInf n = λ e. cc

pub neg_not_pos : (a : Extended) → a ≢ NegInf → neg_of a ≢ PosInf
neg_not_pos NegInf h = absurd (h refl)
neg_not_pos (Fin a) h = not_pos (neg_ℤ a)
neg_not_pos PosInf h = λ q. cc

pub neg_not_neg : (a : Extended) → a ≢ PosInf → neg_of a ≢ NegInf
neg_not_neg PosInf h = absurd (h refl)
neg_not_neg (Fin a) h = not_neg (neg_ℤ a)
neg_not_neg NegInf h = λ q. cc

-- ---- the numbers from 0 on

low_by : (t : Bool) (z w : Bounds) → cond t (Some (between (greater z.lo nought) (lesser z.hi PosInf))) None ≡ Some w → IsTrue (le nought w.lo)
low_by true z w e =
    let p : between (greater z.lo nought) (lesser z.hi PosInf) ≡ w = cc in
    subst (λ v. IsTrue (le nought v.lo)) p (greater_right z.lo nought)
low_by false z w e = absurd (cc)

pub from_zero_low : (z w : Bounds) → meet_of z (between nought PosInf) ≡ Some w → IsTrue (le nought w.lo)
unfolding meet_of
from_zero_low z w e = low_by (le (greater z.lo nought) (lesser z.hi PosInf)) z w e

pub from_zero_high : (z w : Bounds) → IsInterval w → meet_of z (between nought PosInf) ≡ Some w → IsTrue (le nought w.hi)
from_zero_high z w i e = le_trans nought w.lo w.hi (from_zero_low z w e) i.ordered

-- ---- the table of the power, row by row

pub power_row_zero : (z x : Bounds) (n : ℕ) → n ≡ 0 → back_pow_of z x n ≡ (if holds z (Fin (pos unit)) then Some x else None)
unfolding back_pow_of
power_row_zero z x n e = by_zero (eqb n 0) (if holds z (Fin (pos unit)) then Some x else None) _ (eq-eqb n 0 e)
  where
    by_zero : (t : Bool) (a b : Option Bounds) → t ≡ true → cond t a b ≡ a
    by_zero t a b h = ap (λ w. cond w a b) h

not_eqb : (n : ℕ) → n ≢ 0 → eqb n 0 ≡ false
not_eqb zero z = absurd (z refl)
not_eqb (suc n) z = eqb-suc-zero n

pub power_row_even : (z x : Bounds) (n : ℕ) → n ≢ 0 → n % 2 ≡ 0
    → back_pow_of z x n ≡ chain (meet_of z (between nought PosInf)) (λ w. both_signs x (even_roots w n))
unfolding back_pow_of
power_row_even z x n e h = by_tests (eqb n 0) (eqb (n % 2) 0) (if holds z (Fin (pos unit)) then Some x else None)
    (chain (meet_of z (between nought PosInf)) (λ w. both_signs x (even_roots w n)))
    (meet_of x (between (odd_low z.lo n) (odd_high z.hi n))) (not_eqb n e) (eq-eqb (n % 2) 0 h)
  where
    by_tests : (s t : Bool) (a b c : Option Bounds) → s ≡ false → t ≡ true → cond s a (cond t b c) ≡ b
    by_tests s t a b c h k = ap (λ w. cond w a (cond t b c)) h ∙ ap (λ w. cond w b c) k

pub power_row_odd : (z x : Bounds) (n : ℕ) → n % 2 ≡ 1 → back_pow_of z x n ≡ meet_of x (between (odd_low z.lo n) (odd_high z.hi n))
unfolding back_pow_of
power_row_odd z x n h = by_tests (eqb n 0) (eqb (n % 2) 0) (if holds z (Fin (pos unit)) then Some x else None)
    (chain (meet_of z (between nought PosInf)) (λ w. both_signs x (even_roots w n)))
    (meet_of x (between (odd_low z.lo n) (odd_high z.hi n))) (not_eqb n (λ e. absurd (omega arith))) (ap (λ w. eqb w 0) h)
  where
    by_tests : (s t : Bool) (a b c : Option Bounds) → s ≡ false → t ≡ false → cond s a (cond t b c) ≡ c
    by_tests s t a b c h k = ap (λ w. cond w a (cond t b c)) h ∙ ap (λ w. cond w b c) k
