use Rattle.std.proofs.Common.{◌++◌, ap, ◌∙◌}
use Rattle.pv_num.specs.Parts.{number_text, parts_text}
use Rattle.pv_num.proofs.num.Num.write_text.Goals as goal

pub returns-in-Ok : goal.returns-in-Ok
unfolding number_text
returns-in-Ok c = record { written = c.in-Ok.ensures.written ∙ ap (λ p. c.args.out.now.items ++ parts_text p) c.parts.ensures.value }
