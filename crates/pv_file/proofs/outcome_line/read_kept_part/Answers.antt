use Rattle.std.proofs.Common.{sym, ◌∙◌, arith}
use Rattle.std.specs.Prelude.{codes}
use Rattle.pv_file.specs.declared.version.Version.TheVariants.{Two}
use Rattle.pv_file.specs.Words.{IsPlain}
use Rattle.pv_file.proofs.Bytes.{same_words}
use Rattle.pv_file.proofs.Numbers.{end_text_plain, marked_stays}
use Rattle.pv_interval.proofs.Alike.{same_bounds}
use Rattle.pv_file.proofs.outcome_line.read_kept_part.Goals as goal

pub returns-clause-only : goal.returns-clause-only
returns-clause-only c = λ x more part ends e.
    let mark : IsPlain (codes "=") = (omega arith, tt) in
    let words = same_words (codes "=") (codes "=") _ _ c.in_ok-rest.rest.now more mark mark (end_text_plain Two c.args.old.lo x.lo part.numbers.lo)
    (end_text_plain Two c.args.old.hi x.hi part.numbers.hi) c.in_ok-rest.ensures.ends ends (sym c.in_ok-rest.ensures.sound ∙ e) in
    (same_bounds c.args.old x (marked_stays c.args.old.lo x.lo part.numbers.lo words.0) (marked_stays c.args.old.hi x.hi part.numbers.hi words.1), words.2)
