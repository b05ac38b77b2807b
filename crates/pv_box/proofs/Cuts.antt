-- The cut of an interval, case by case.
use Rattle.std.proofs.Common.{◌≡◌, ◌≢◌, refl, ◌∙◌, ap, cond, rules, arith, ℤ, pos, ◌-ℤ◌, ◌*ℤ◌, ◌+ℤ◌, ◌≤ℤ◌}
use Rattle.std.specs.Prelude.{true, false, Some}
use Rattle.std.proofs.lemmas.Int.{ints}
use Rattle.pv_num.specs.Extended.{Extended, NegInf, Fin, PosInf}
use Rattle.pv_num.specs.Grid.{unit}
use Rattle.pv_num.specs.Order.{lt}
use Rattle.pv_num.specs.Parts.{IsNumber}
use Rattle.pv_num.specs.Rounding.{rounded}
use Rattle.pv_num.specs.Arithmetic.{add_of, sub_of, middle_of}
use Rattle.pv_num.specs.declared.num.End.TheVariants.{Down, Up}
use Rattle.pv_interval.specs.Bounds.{Bounds}
use Rattle.pv_interval.specs.Tables.{nought}
use Rattle.pv_box.specs.Choice.{strictly_between, cut_below, cut_above, cut_between, cut_of}
use Rattle.pv_box.proofs.Doubles.{one, once_down, once_up}

not_above : (h : ℤ) → lt nought (Fin h) ≡ false → h ≤ℤ pos 0
not_above h e = grind (arith, ints)

not_below : (l : ℤ) → lt (Fin l) nought ≡ false → pos 0 ≤ℤ l
not_below l e = grind (arith, ints)

-- ---- From -oo

pub below_zero : (h : Extended) → lt nought h ≡ true → cut_between NegInf h ≡ Some nought
unfolding cut_below
below_zero NegInf e = absurd (search rules)
below_zero (Fin h) e = ap (λ t. cond t (Some nought) (strictly_between NegInf (rounded Down (pos 2 *ℤ h -ℤ pos unit) 1) (Fin h))) e
below_zero PosInf e = refl

pub below_row : (h : Extended) → IsNumber h → lt nought h ≡ false
    → cut_between NegInf h ≡ strictly_between NegInf (sub_of Down (add_of Down h h) one) h
unfolding cut_below
below_row NegInf n e = refl
below_row (Fin h) n e =
    ap (λ t. cond t (Some nought) (strictly_between NegInf (rounded Down (pos 2 *ℤ h -ℤ pos unit) 1) (Fin h))) e
    ∙ ap (λ w. strictly_between NegInf w (Fin h)) (once_down h n (not_above h e))
below_row PosInf n e = absurd (search rules)

-- ---- Up to +oo

pub above_zero : (l : Extended) → lt l nought ≡ true → cut_between l PosInf ≡ Some nought
unfolding cut_above
above_zero NegInf e = refl
above_zero (Fin l) e = ap (λ t. cond t (Some nought) (strictly_between (Fin l) (rounded Up (pos 2 *ℤ l +ℤ pos unit) 1) PosInf)) e
above_zero PosInf e = absurd (search rules)

pub above_row : (l : Extended) → IsNumber l → lt l nought ≡ false
    → cut_between l PosInf ≡ strictly_between l (add_of Up (add_of Up l l) one) PosInf
unfolding cut_above
above_row NegInf n e = absurd (search rules)
above_row (Fin l) n e =
    ap (λ t. cond t (Some nought) (strictly_between (Fin l) (rounded Up (pos 2 *ℤ l +ℤ pos unit) 1) PosInf)) e
    ∙ ap (λ w. strictly_between (Fin l) w PosInf) (once_up l n (not_below l e))
above_row PosInf n e = refl

-- ---- All cases

inner : (l h : Extended) → l ≢ NegInf → h ≢ PosInf → cut_between l h ≡ middle_of l h
inner NegInf h e f = absurd (e refl)
inner (Fin l) NegInf e f = refl
inner (Fin l) (Fin h) e f = refl
inner (Fin l) PosInf e f = absurd (f refl)
inner PosInf h e f = refl

pub cut_down : (x : Bounds) → x.lo ≡ NegInf → cut_of x ≡ cut_between NegInf x.hi
unfolding cut_of
cut_down x e = ap (λ l. cut_between l x.hi) e

pub cut_up : (x : Bounds) → x.hi ≡ PosInf → cut_of x ≡ cut_between x.lo PosInf
unfolding cut_of
cut_up x f = ap (λ h. cut_between x.lo h) f

pub cut_inner : (x : Bounds) → x.lo ≢ NegInf → x.hi ≢ PosInf → cut_of x ≡ middle_of x.lo x.hi
unfolding cut_of
cut_inner x e f = inner x.lo x.hi e f
