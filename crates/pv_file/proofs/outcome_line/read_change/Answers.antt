use Rattle.std.proofs.Common.{ap, sym, ◌∙◌}
use Rattle.std.specs.Prelude.{Some}
use Rattle.pv_file.proofs.Numbers.{marked_stays}
use Rattle.pv_file.proofs.outcome_line.read_change.Goals as goal

pub returns-then-is_same_mark-clause-complete : goal.returns-then-is_same_mark-clause-complete
returns-then-is_same_mark-clause-complete c = λ n g e. ap Some (marked_stays c.args.old n g (sym (c.is_same_mark.ensures.0 c.if-is_same_mark.true) ∙ e))
