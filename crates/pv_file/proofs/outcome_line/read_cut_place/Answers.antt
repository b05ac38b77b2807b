use Rattle.std.proofs.Common.{◌<◌, ◌^◌, arith}
use Rattle.pv_num.proofs.Texts.{none_some, some_some}
use Rattle.pv_file.proofs.Numbers.{decimal_plain, number_plain}
use Rattle.pv_file.proofs.Bytes.{cut_pair}
use Rattle.pv_file.proofs.outcome_line.read_cut_place.Goals as goal

pub returns-in_err-words-clause-complete : goal.returns-in_err-words-clause-complete
returns-in_err-words-clause-complete c = λ var at more below number stops e.
    let small : var < 2 ^ 64 = omega (arith, below) in
    absurd (c.in_err-words.ensures.complete _ _ more (decimal_plain var small) (number_plain at number) stops (cut_pair _ var at more e))

pub returns-in_err-var-clause-complete : goal.returns-in_err-var-clause-complete
returns-in_err-var-clause-complete c = λ var at more below number stops e.
    let small : var < 2 ^ 64 = omega (arith, below) in
    let words = c.in_ok-words.ensures.complete _ _ more (decimal_plain var small) (number_plain at number) stops (cut_pair _ var at more e) in
    absurd (none_some var (c.in_err-var.ensures.complete var below words.0))

pub returns-in_err-at-clause-complete : goal.returns-in_err-at-clause-complete
returns-in_err-at-clause-complete c = λ var at more below number stops e.
    let small : var < 2 ^ 64 = omega (arith, below) in
    let words = c.in_ok-words.ensures.complete _ _ more (decimal_plain var small) (number_plain at number) stops (cut_pair _ var at more e) in
    absurd (none_some at (c.in_err-at.ensures.complete at number words.1))

pub returns-clause-complete : goal.returns-clause-complete
returns-clause-complete c = λ var at more below number stops e.
    let small : var < 2 ^ 64 = omega (arith, below) in
    let words = c.in_ok-words.ensures.complete _ _ more (decimal_plain var small) (number_plain at number) stops (cut_pair _ var at more e) in
    (some_some _ _ (c.in_ok-var.ensures.complete var below words.0), some_some _ _ (c.in_ok-at.ensures.complete at number words.1), words.2)
