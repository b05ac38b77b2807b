use Rattle.std.proofs.Common.{◌∙◌, ap, ap₂}
use Rattle.std.proofs.lemmas.Result.{IfOk-weaker}
use Rattle.clap.specs.Words.{app_of}
use Rattle.pv_words.specs.Commands.{with_command}
use Rattle.pv_words.proofs.command_line.with_further_commands.Goals as goal

pub returns : goal.returns
returns c =
    let one = c.in_ok-command.ensures ∙ ap (with_command (app_of c.args.command)) c.in_ok-run.ensures.app in
    let two = c.in_ok-command-2.ensures ∙ ap₂ with_command one c.in_ok-audit.ensures.app in
    let three = c.in_ok-command-3.ensures ∙ ap₂ with_command two c.in_ok-least.ensures.app in
    IfOk-weaker c.with_command-4.result _ _ (λ r e. e ∙ ap₂ with_command three c.in_ok-campaign.ensures.app) c.with_command-4.ensures
