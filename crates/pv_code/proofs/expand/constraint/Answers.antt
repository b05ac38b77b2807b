use Rattle.std.proofs.Common.{[], List, ap, map, ◌∙◌}
use Rattle.pv_expr.specs.Terms.{Term, term_of}
use Rattle.pv_code.specs.declared.code.Op.{Op}
use Rattle.pv_code.specs.Expansion.{below, code_of, meanings, run, top}
use Rattle.pv_code.specs.Values.{at}
use Rattle.pv_code.proofs.expand.constraint.Goals as goal

pub returns : goal.returns
returns c = λ ms stand.
    let right = c.in_ok-right.ensures (at c.args.functions.now ms [] c.args.code.now) (run ms [] c.args.code.now []) (c.in_ok-sides.ensures ms []) in
    let left = c.in_ok-left.ensures (at c.args.functions.now ms [] c.args.code.now) (below (run ms [] c.args.code.now [])) right.1 in
    ap (λ (t : Term). record { left = t; relation = c.args.relation; right = term_of c.in_ok-expand-2.field-0 })
    (c.in_ok-expand.ensures ∙ ap (λ (z : List Op). top (run (meanings (map code_of c.args.functions.now)) [] z [])) c.as_slice.ensures.value ∙ ap top (left.0.code stand []))
    ∙ ap (λ (t : Term). record { left = top (below (run ms [] c.args.code.now [])); relation = c.args.relation; right = t })
    (c.in_ok-expand-2.ensures ∙ ap (λ (z : List Op). top (run (meanings (map code_of c.args.functions.now)) [] z [])) c.as_slice-2.ensures.value ∙ ap top (right.0.code stand []))
