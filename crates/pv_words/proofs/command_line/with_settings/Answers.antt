use Rattle.std.proofs.Common.{◌∙◌, ap, codes}
use Rattle.std.proofs.lemmas.Result.{IfOk-weaker}
use Rattle.pv_words.specs.Commands.{with_option}
use Rattle.pv_words.proofs.command_line.with_settings.Goals as goal

pub returns-clause-app : goal.returns-clause-app
returns-clause-app c =
    IfOk-weaker c.with_option-4.result _ _
    (λ r e. e ∙ ap (with_option (codes "contract")) (c.in_ok-command-3.ensures.app ∙ ap (with_option (codes "bisect")) (c.in_ok-command-2.ensures.app
    ∙ ap (with_option (codes "depth")) c.in_ok-command.ensures.app)))
    c.with_option-4.ensures.app
