use Rattle.std.proofs.Common.{◌≡◌, ◌∷◌, Option, Some, List, ap, subst, sym, ◌∙◌, rules}
use Rattle.std.specs.Prelude.{IfSome}
use Rattle.pv_interval.specs.Bounds.{Bounds}
use Rattle.pv_box.specs.Boxes.{IsBox}
use Rattle.pv_num.proofs.Texts.{some_some, none_some}
use Rattle.pv_tree.specs.declared.outcome.Outcome.{Outcome}
use Rattle.pv_tree.specs.declared.outcome.Outcome.TheVariants.{Inner, Small}
use Rattle.pv_file.specs.Readings.{IsRightFor}
use Rattle.pv_file.specs.Words.{IsKeptOf}
use Rattle.pv_file.proofs.Rights.{right_inner, right_small, kept_inner, kept_small, line_inner, line_small}
use Rattle.pv_file.proofs.outcome_line.read_line.Goals as goal

pub returns-in-Some-2-clause-right : goal.returns-in-Some-2-clause-right
returns-in-Some-2-clause-right c =
    let kept : IsKeptOf c.args.bx.now c.in-Some-2.to = subst (λ (o : Option (List Bounds)). IfSome o (λ to. IsKeptOf c.args.bx.now to)) c.in-Some-2.is c.in_ok-to-in-73.ensures.kept in
    let box : IsBox c.in-Some-2.to = subst (λ (o : Option (List Bounds)). IfSome o (λ to. IsBox to)) c.in-Some-2.is c.in_ok-to-in-73.ensures.is_box in
    right_inner c.args.bx.now c.in-Some-2.to kept box

pub returns-in-Some-3-clause-right : goal.returns-in-Some-3-clause-right
returns-in-Some-3-clause-right c =
    let kept : IsKeptOf c.args.bx.now c.in-Some-3.to = subst (λ (o : Option (List Bounds)). IfSome o (λ to. IsKeptOf c.args.bx.now to)) c.in-Some-3.is c.in_ok-to-in-83.ensures.kept in
    let box : IsBox c.in-Some-3.to = subst (λ (o : Option (List Bounds)). IfSome o (λ to. IsBox to)) c.in-Some-3.is c.in_ok-to-in-83.ensures.is_box in
    right_small c.args.bx.now c.in-Some-3.to kept box

pub returns-in-Some-2-clause-complete : goal.returns-in-Some-2-clause-complete
returns-in-Some-2-clause-complete c = λ o right e.
    let whole : c.args.line.now ≡ 73 ∷ c.in-Some.rest.now = search rules in
    let line = line_inner c.args.version c.args.bx.now c.args.line.now c.in-Some.rest.now o whole e in
    let is_right : IsRightFor c.args.bx.now (Inner line.0) = subst (λ (x : Outcome). IsRightFor c.args.bx.now x) line.1 right in
    let same = some_some _ _ (sym c.in-Some-2.is ∙ c.in_ok-to-in-73.ensures.complete line.0 (kept_inner c.args.bx.now line.0 is_right) line.2) in
    ap (λ (x : List Bounds). Some (Inner x)) same ∙ ap Some (sym line.1)

pub returns-in-None-clause-complete : goal.returns-in-None-clause-complete
returns-in-None-clause-complete c = λ o right e.
    let whole : c.args.line.now ≡ 73 ∷ c.in-Some.rest.now = search rules in
    let line = line_inner c.args.version c.args.bx.now c.args.line.now c.in-Some.rest.now o whole e in
    let is_right : IsRightFor c.args.bx.now (Inner line.0) = subst (λ (x : Outcome). IsRightFor c.args.bx.now x) line.1 right in
    absurd (none_some line.0 (sym c.in-None.is ∙ c.in_ok-to-in-73.ensures.complete line.0 (kept_inner c.args.bx.now line.0 is_right) line.2))

pub returns-in-Some-3-clause-complete : goal.returns-in-Some-3-clause-complete
returns-in-Some-3-clause-complete c = λ o right e.
    let whole : c.args.line.now ≡ 83 ∷ c.in-Some.rest.now = search rules in
    let line = line_small c.args.version c.args.bx.now c.args.line.now c.in-Some.rest.now o whole e in
    let is_right : IsRightFor c.args.bx.now (Small line.0) = subst (λ (x : Outcome). IsRightFor c.args.bx.now x) line.1 right in
    let same = some_some _ _ (sym c.in-Some-3.is ∙ c.in_ok-to-in-83.ensures.complete line.0 (kept_small c.args.bx.now line.0 is_right) line.2) in
    ap (λ (x : List Bounds). Some (Small x)) same ∙ ap Some (sym line.1)

pub returns-in-None-2-clause-complete : goal.returns-in-None-2-clause-complete
returns-in-None-2-clause-complete c = λ o right e.
    let whole : c.args.line.now ≡ 83 ∷ c.in-Some.rest.now = search rules in
    let line = line_small c.args.version c.args.bx.now c.args.line.now c.in-Some.rest.now o whole e in
    let is_right : IsRightFor c.args.bx.now (Small line.0) = subst (λ (x : Outcome). IsRightFor c.args.bx.now x) line.1 right in
    absurd (none_some line.0 (sym c.in-None-2.is ∙ c.in_ok-to-in-83.ensures.complete line.0 (kept_small c.args.bx.now line.0 is_right) line.2))
