use Rattle.pv_num.proofs.Texts.{none_some, some_some}
use Rattle.pv_file.proofs.Numbers.{end_text_plain}
use Rattle.pv_file.proofs.outcome_line.read_moved.Goals as goal

pub returns-in_err-words-clause-complete : goal.returns-in_err-words-clause-complete
returns-in_err-words-clause-complete c = λ x more part stops e.
    absurd (c.in_err-words.ensures.complete _ _ more (end_text_plain c.args.version _ _ part.numbers.lo) (end_text_plain c.args.version _ _ part.numbers.hi) stops e)

pub returns-in_err-part-clause-complete : goal.returns-in_err-part-clause-complete
returns-in_err-part-clause-complete c = λ x more part stops e.
    let words = c.in_ok-words.ensures.complete _ _ more (end_text_plain c.args.version _ _ part.numbers.lo) (end_text_plain c.args.version _ _ part.numbers.hi) stops e in
    absurd (none_some x (c.in_err-part.ensures.complete x part words.0 words.1))

pub returns-clause-complete : goal.returns-clause-complete
returns-clause-complete c = λ x more part stops e.
    let words = c.in_ok-words.ensures.complete _ _ more (end_text_plain c.args.version _ _ part.numbers.lo) (end_text_plain c.args.version _ _ part.numbers.hi) stops e in
    (some_some _ _ (c.in_ok-part.ensures.complete x part words.0 words.1), words.2)
