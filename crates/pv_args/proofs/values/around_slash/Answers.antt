use Rattle.std.proofs.Common.{◌∙◌, ◌∷◌, List, ℕ, ap, arith}
use Rattle.std.specs.Prelude.{Some, None}
use Rattle.pv_args.proofs.Levels.{split_at}
use Rattle.pv_args.proofs.Slashes.{not_two_of_one, not_two_of_more}
use Rattle.pv_args.proofs.values.around_slash.Goals as goal

pub returns-in_err-number : goal.returns-in_err-number
returns-in_err-number c =
    let t = c.args.text.now in
    rw c.from_residual.ensures (λ a b two. not_two_of_one t a b (split_at 47 (omega arith) t None c.in_err-number.ensures.cases) two)

pub returns-in-Some : goal.returns-in-Some
returns-in-Some c = λ a b two.
    let t = c.args.text.now in let number = c.in_ok-number.number in let of = c.in_ok-number.of in let later = c.in-Some.field-0 in
    let first = split_at 47 (omega arith) t (Some (number, of)) c.in_ok-number.ensures.cases in
    let second = split_at 47 (omega arith) of.now (Some later) c.in-Some.ensures.cases in
    not_two_of_more t number.now of.now later.0.now later.1.now a b first.0 second.0 two

pub returns-in-None : goal.returns-in-None
returns-in-None c =
    let t = c.args.text.now in let number = c.in_ok-number.number in let of = c.in_ok-number.of in
    let first = split_at 47 (omega arith) t (Some (number, of)) c.in_ok-number.ensures.cases in
    first.0 ∙ ap (λ (ws : List (List ℕ)). number.now ∷ ws) (split_at 47 (omega arith) of.now None c.in-None.ensures.cases)
