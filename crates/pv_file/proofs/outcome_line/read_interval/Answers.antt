use Rattle.std.proofs.Common.{◌≡◌, sym, ◌∙◌, ap, subst, rules}
use Rattle.std.specs.Prelude.{Some, IsTrue}
use Rattle.pv_num.specs.Extended.{Extended}
use Rattle.pv_num.specs.Order.{le}
use Rattle.pv_num.proofs.Texts.{some_some}
use Rattle.pv_interval.specs.Bounds.{between}
use Rattle.pv_file.specs.Words.{end_text}
use Rattle.pv_file.proofs.Places.{from_ends, part_of}
use Rattle.pv_file.proofs.outcome_line.read_interval.Goals as goal

pub returns-in_ok-part-clause-part : goal.returns-in_ok-part-clause-part
returns-in_ok-part-clause-part c =
    let low : IsTrue (le c.args.old.lo c.in_ok-lo.lo) = search rules in
    let high : IsTrue (le c.in_ok-hi.hi c.args.old.hi) = search rules in
    part_of c.args.old c.in_ok-part.part c.in_ok-lo.lo c.in_ok-hi.hi c.in_ok-part.ensures (search rules) low high c.in_ok-lo.ensures.number c.in_ok-hi.ensures.number

pub returns-in_ok-part-clause-complete : goal.returns-in_ok-part-clause-complete
returns-in_ok-part-clause-complete c = λ x part e f.
    let e' : c.args.lower.now ≡ end_text c.args.version c.lo.result x.lo = subst (λ (l : Extended). c.args.lower.now ≡ end_text c.args.version l x.lo) (sym c.lo.ensures.value) e in
    let f' : c.args.upper.now ≡ end_text c.args.version c.hi.result x.hi = subst (λ (h : Extended). c.args.upper.now ≡ end_text c.args.version h x.hi) (sym c.hi.ensures.value) f in
    let low : c.in_ok-lo.lo ≡ x.lo = some_some _ _ (c.in_ok-lo.ensures.complete x.lo part.numbers.lo e') in
    let high : c.in_ok-hi.hi ≡ x.hi = some_some _ _ (c.in_ok-hi.ensures.complete x.hi part.numbers.hi f') in
    ap Some (from_ends c.in_ok-lo.lo c.in_ok-hi.hi c.in_ok-part.part c.in_ok-part.ensures
    ∙ ap (λ (l : Extended). between l c.in_ok-hi.hi) low ∙ ap (λ (h : Extended). between x.lo h) high)
