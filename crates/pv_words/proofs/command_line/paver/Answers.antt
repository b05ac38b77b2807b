use Rattle.std.proofs.Common.{◌∙◌, ap}
use Rattle.std.proofs.lemmas.Result.{IfOk-weaker}
use Rattle.pv_words.specs.Commands.{paving_commands, further_commands, paver_app}
use Rattle.pv_words.proofs.command_line.paver.Goals as goal

pub returns : goal.returns
unfolding paver_app
returns c =
    IfOk-weaker c.with_further_commands.result _ _
    (λ r e. e ∙ ap further_commands (c.in_ok-command.ensures ∙ ap paving_commands c.top.ensures.app)) c.with_further_commands.ensures
