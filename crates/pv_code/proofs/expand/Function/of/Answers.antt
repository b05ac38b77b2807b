use Rattle.std.proofs.Common.{◌∙◌, ap, subst, map, [], List}
use Rattle.pv_code.specs.declared.code.Op.{Op}
use Rattle.pv_code.specs.Expansion.{IsMarked, code_of, meanings, run, top}
use Rattle.pv_code.specs.Values.{at}
use Rattle.pv_code.proofs.Moving.{filtered_alike}
use Rattle.pv_code.proofs.expand.Function.of.Goals as goal

pub returns-clause-keeps : goal.returns-clause-keeps
returns-clause-keeps c = λ ms args stand.
    ap top (filtered_alike c.in_ok-value.value.code.items c.in_ok-marks.field-0.items args (subst (λ (z : List Op). IsMarked c.in_ok-marks.field-0.items z) c.as_slice.ensures.value c.in_ok-marks.ensures) (meanings (map code_of c.args.functions.now)) []
    ∙ (c.in_ok-value.ensures (at c.args.functions.now ms args c.args.body.now) (run ms args c.args.body.now []) (c.in_ok-left.ensures ms args)).0.code stand [])

pub returns-clause-measured : goal.returns-clause-measured
returns-clause-measured c = λ ms measured args few.
    (c.in_ok-value.ensures (at c.args.functions.now ms args c.args.body.now) (run ms args c.args.body.now []) (c.in_ok-left.ensures ms args)).0.size c.requires.short measured few
