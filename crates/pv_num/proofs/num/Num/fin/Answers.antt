use Rattle.std.proofs.Common.{◌≡◌, None, subst, ◌+ℤ◌, ◌<◌, ◌^◌, ap, ◌∙◌, arith, unsigned_abs, of_z, w64, pos, negsuc}
use Rattle.std.proofs.lemmas.Int.{ints, to_z-of_z}
use mir.Val.{SFits}
use mir.Syntax.{w16}
use Rattle.pv_num.specs.Parts.{IsFineExponent}
use lib.IntN.{ℤ}
use Rattle.pv_num.proofs.Exact.{fin_outside, fin_inexact, fin_exact, not_zero_size}
use Rattle.pv_num.proofs.num.Num.fin.Goals as goal

fits_size : (m : ℤ) → SFits w64 m → unsigned_abs m < 2 ^ 64
fits_size (pos n) h = omega (arith, ints, h.sfits)
fits_size (negsuc n) h = omega (arith, ints, h.sfits)

pub returns-in_err-at : goal.returns-in_err-at
returns-in_err-at c =
    fin_outside c.args.m c.args.e c.from_residual.result c.from_residual.ensures
    (subst (λ x. IsFineExponent x None) (to_z-of_z w16 c.args.e c.ranges.e) c.in_err-at.ensures)
    (not_zero_size c.args.m (λ q. c.if-m-eq0.false (ap (of_z w64) q)))
    (fits_size c.args.m c.ranges.m)

pub returns-in_err-size : goal.returns-in_err-size
returns-in_err-size c =
    fin_inexact c.args.m c.args.e _ _ c.from_residual-in_err-size.result c.from_residual-in_err-size.ensures (subst (λ x. pos c.in_ok-at.at ≡ x +ℤ pos 1536) (to_z-of_z w16 c.args.e c.ranges.e) c.in_ok-at.ensures.0)
    (c.unsigned_abs.ensures.value ∙ ap unsigned_abs (to_z-of_z w64 c.args.m c.ranges.m)) c.in_err-size.ensures

pub returns : goal.returns
returns c =
    fin_exact c.args.m _ c.args.e _ _ c.in_ok-size.size c.signed.result (to_z-of_z w64 c.args.m c.ranges.m) (subst (λ x. pos c.in_ok-at.at ≡ x +ℤ pos 1536) (to_z-of_z w16 c.args.e c.ranges.e) c.in_ok-at.ensures.0)
    (c.unsigned_abs.ensures.value ∙ ap unsigned_abs (to_z-of_z w64 c.args.m c.ranges.m)) c.in_ok-size.ensures c.signed.ensures
