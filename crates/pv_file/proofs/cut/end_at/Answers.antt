use Rattle.std.proofs.Common.{length, ap, sym, ◌∙◌}
use Rattle.std.specs.Prelude.{unwrap_or}
use Rattle.pv_file.proofs.Bytes.{free_to_mark, ends_at_mark}
use Rattle.pv_file.proofs.cut.end_at.Goals as goal

pub returns-in-Some-clause-free : goal.returns-in-Some-clause-free
returns-in-Some-clause-free c = free_to_mark c.args.mark _ c.args.text.now (ap (λ o. unwrap_or o (length c.args.text.now)) (sym c.in-Some.is ∙ c.mark_in.ensures.first))

pub returns-in-Some-clause-ends : goal.returns-in-Some-clause-ends
returns-in-Some-clause-ends c = ends_at_mark c.args.mark _ c.args.text.now (ap (λ o. unwrap_or o (length c.args.text.now)) (sym c.in-Some.is ∙ c.mark_in.ensures.first))

pub returns-in-None-clause-free : goal.returns-in-None-clause-free
returns-in-None-clause-free c = free_to_mark c.args.mark _ c.args.text.now (ap (λ o. unwrap_or o (length c.args.text.now)) (sym c.in-None.is ∙ c.mark_in.ensures.first))

pub returns-in-None-clause-ends : goal.returns-in-None-clause-ends
returns-in-None-clause-ends c = ends_at_mark c.args.mark _ c.args.text.now (ap (λ o. unwrap_or o (length c.args.text.now)) (sym c.in-None.is ∙ c.mark_in.ensures.first))
