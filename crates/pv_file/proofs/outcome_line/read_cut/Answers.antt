use Rattle.std.proofs.Common.{Option, List, subst, sym, ◌∙◌}
use Rattle.std.specs.Prelude.{IfSome}
use Rattle.pv_interval.specs.Bounds.{Bounds}
use Rattle.pv_box.specs.Boxes.{IsBox}
use Rattle.pv_num.proofs.Texts.{some_some, none_some}
use Rattle.pv_file.specs.Words.{IsKeptOf}
use Rattle.pv_file.proofs.Ends.{kept_ends}
use Rattle.pv_file.proofs.Rights.{is_right_cut, kept_cut, few_places, the_cut}
use Rattle.pv_file.proofs.outcome_line.read_cut.Goals as goal

pub returns-in-None-clause-complete : goal.returns-in-None-clause-complete
returns-in-None-clause-complete c = λ to var at right e.
    absurd (c.in-None.ensures.complete var at _ (few_places c.args.bx.now to var at right) right.numbers.1 (kept_ends c.args.version c.args.bx.now to) e)

pub returns-in-None-2-clause-complete : goal.returns-in-None-2-clause-complete
returns-in-None-2-clause-complete c = λ to var at right e.
    let place = c.in-Some.ensures.complete var at _ (few_places c.args.bx.now to var at right) right.numbers.1 (kept_ends c.args.version c.args.bx.now to) e in
    absurd (none_some to (sym c.in-None-2.is ∙ c.in_ok-to-in-Some.ensures.complete to (kept_cut c.args.bx.now to var at right) place.2))

pub returns-in-Some-2-clause-right : goal.returns-in-Some-2-clause-right
returns-in-Some-2-clause-right c =
    let kept : IsKeptOf c.args.bx.now c.in-Some-2.to = subst (λ (o : Option (List Bounds)). IfSome o (λ to. IsKeptOf c.args.bx.now to)) c.in-Some-2.is c.in_ok-to-in-Some.ensures.kept in
    let box : IsBox c.in-Some-2.to = subst (λ (o : Option (List Bounds)). IfSome o (λ to. IsBox to)) c.in-Some-2.is c.in_ok-to-in-Some.ensures.is_box in
    is_right_cut c.args.bx.now c.in-Some-2.to c.in-Some.cut.var c.in-Some.cut.at c.cut_there.result kept box c.in-Some.ensures.number c.cut_there.ensures.is_cut c.cut_there.ensures.inside

pub returns-in-Some-2-clause-complete : goal.returns-in-Some-2-clause-complete
returns-in-Some-2-clause-complete c = λ to var at right e.
    let place = c.in-Some.ensures.complete var at _ (few_places c.args.bx.now to var at right) right.numbers.1 (kept_ends c.args.version c.args.bx.now to) e in
    let same = some_some _ _ (sym c.in-Some-2.is ∙ c.in_ok-to-in-Some.ensures.complete to (kept_cut c.args.bx.now to var at right) place.2) in
    the_cut c.args.bx.now c.in-Some-2.to to c.in-Some.cut.var var c.in-Some.cut.at at c.cut_there.result same place.0 place.1 right c.cut_there.ensures.is_cut c.cut_there.ensures.none
