use Rattle.std.proofs.Common.{◌∙◌, ap, ap₂}
use Rattle.std.proofs.lemmas.Result.{IfOk-weaker}
use Rattle.clap.specs.Words.{app_of}
use Rattle.pv_words.specs.Commands.{with_command, with_form}
use Rattle.pv_words.proofs.command_line.with_paving_commands.Goals as goal

pub returns : goal.returns
returns c =
    let one = c.in_ok-command.ensures ∙ ap (with_command (app_of c.args.command)) c.in_ok-system.ensures.app in
    let two = c.in_ok-command-2.ensures ∙ ap₂ with_command one (c.in_ok-with_option.ensures.app ∙ ap with_form c.in_ok-run.ensures.app) in
    let three = c.in_ok-command-3.ensures ∙ ap₂ with_command two c.in_ok-resume.ensures.app in
    let four = c.in_ok-command-4.ensures ∙ ap₂ with_command three c.in_ok-merge.ensures.app in
    let five = c.in_ok-command-5.ensures ∙ ap₂ with_command four (c.in_ok-with_option-2.ensures.app ∙ ap with_form c.in_ok-audit.ensures.app) in
    let six = c.in_ok-command-6.ensures ∙ ap₂ with_command five c.in_ok-svg.ensures.app in
    IfOk-weaker c.with_command-7.result _ _ (λ r e. e ∙ ap₂ with_command six c.in_ok-sample.ensures.app) c.with_command-7.ensures
