use Rattle.std.proofs.Common.{◌≡◌, ◌+◌, ◌-◌, ◌^◌, ◌<◌, arith, refl, sym, subst}
use Rattle.pv_num.proofs.Align.{one_below, left_fits, left_whole, left_exact, left_next, kept_fits, kept_below, kept_above, kept_tested, all_dropped, is_small}
use Rattle.pv_num.proofs.round.aligned.Goals as goal

pub overflow_shl-result : goal.overflow_shl-result
overflow_shl-result c =
    let l : c.args.at < 62 + c.args.cut = one_below c.args.parts c.args.at (62 + c.args.cut) (omega arith) c.requires.fits in
    omega arith

pub overflow_cast-result-then-cut-at : goal.overflow_cast-result-then-cut-at
overflow_cast-result-then-cut-at c =
    let e : c.args.at - c.args.cut + c.args.cut ≡ c.args.at = omega arith in
    is_small _ (subst (λ x. x < 2 ^ 62) (sym (left_whole c.args.parts _ c.args.cut c.args.at e c.requires.fits)) (left_fits c.args.parts _ c.args.cut c.args.at e c.requires.fits))

pub returns-then-cut-at-clause-below : goal.returns-then-cut-at-clause-below
returns-then-cut-at-clause-below c =
    let e : c.args.at - c.args.cut + c.args.cut ≡ c.args.at = omega arith in
    let s = left_exact c.args.parts _ c.args.cut c.args.at e c.requires.fits in
    omega (arith, s)

pub returns-then-cut-at-clause-above : goal.returns-then-cut-at-clause-above
returns-then-cut-at-clause-above c =
    let e : c.args.at - c.args.cut + c.args.cut ≡ c.args.at = omega arith in
    left_next c.args.parts _ c.args.cut c.args.at e c.requires.fits

pub returns-then-cut-at-clause-exact : goal.returns-then-cut-at-clause-exact
returns-then-cut-at-clause-exact c =
    let e : c.args.at - c.args.cut + c.args.cut ≡ c.args.at = omega arith in
    (λ _. left_exact c.args.parts _ c.args.cut c.args.at e c.requires.fits, λ _. refl)

pub returns-then-dropped-ge128-clause-above : goal.returns-then-dropped-ge128-clause-above
returns-then-dropped-ge128-clause-above c =
    let e : c.args.cut - c.args.at + c.args.at ≡ c.args.cut = omega arith in
    all_dropped c.args.parts _ c.args.at c.args.cut e (omega arith) c.ranges.parts.fits

pub overflow_cast-result-2 : goal.overflow_cast-result-2
overflow_cast-result-2 c =
    let e : c.args.cut - c.args.at + c.args.at ≡ c.args.cut = omega arith in
    is_small _ (kept_fits c.args.parts _ c.args.at c.args.cut e c.requires.fits)

pub returns-clause-below : goal.returns-clause-below
returns-clause-below c =
    let e : c.args.cut - c.args.at + c.args.at ≡ c.args.cut = omega arith in
    kept_below c.args.parts _ c.args.at c.args.cut e

pub returns-clause-above : goal.returns-clause-above
returns-clause-above c =
    let e : c.args.cut - c.args.at + c.args.at ≡ c.args.cut = omega arith in
    kept_above c.args.parts _ c.args.at c.args.cut e

pub returns-clause-exact : goal.returns-clause-exact
returns-clause-exact c =
    let e : c.args.cut - c.args.at + c.args.at ≡ c.args.cut = omega arith in
    kept_tested c.args.parts _ c.args.at c.args.cut e c.ranges.parts.fits
