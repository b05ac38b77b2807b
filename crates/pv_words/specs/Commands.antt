-- The commands as clap sees them: one level, the names of a system and of paving files, options that take a
-- value, and none of the flags and commands that clap adds by itself.
use Rattle.std.specs.Prelude.{true, codes, Some}
use Rattle.clap.specs.Words.{App, Rule, Text, new_app, new_rule, with_rule, with_subcommand}
use Rattle.clap.specs.Simple.{on_top}
use Rattle.clap.specs.declared.builder.action.ArgAction.TheVariants.{Set, Append}

-- a word that has to be there
abbrev pub word_rule : Text → Rule
word_rule name = record (new_rule name) { required = true; action = Some Set }

-- one to eight such words, between which options may stand
abbrev pub words_rule : Text → Rule
words_rule name = record (new_rule name) {
  required = true;
  range = Some (record { start_inclusive = 1; end_inclusive = 8 });
  action = Some Append;
}

-- `--name value`
abbrev pub option_rule : Text → Rule
option_rule name = record (new_rule name) { long = Some name; action = Some Set }

-- the same, where it has to be there
abbrev pub needed_rule : Text → Rule
needed_rule name = record (new_rule name) { required = true; long = Some name; action = Some Set }

abbrev pub with_needed : Text → App → App
with_needed name a = with_rule a (needed_rule name)

abbrev pub with_option : Text → App → App
with_option name a = with_rule a (option_rule name)

abbrev pub bare_app : Text → App
bare_app name = on_top (λ s. record s { disable_help_flag = true; disable_version_flag = true }) (new_app name)

abbrev pub top_app : App
top_app = on_top (λ s. record s { disable_help_subcommand = true; subcommand_required = true }) (bare_app (codes "paver"))

abbrev pub system_app : Text → App
system_app name = with_rule (bare_app name) (word_rule (codes "SYSTEM"))

abbrev pub paving_app : Text → App
paving_app name = with_rule (system_app name) (word_rule (codes "PAVING"))

abbrev pub pavings_app : Text → App
pavings_app name = with_rule (system_app name) (words_rule (codes "PAVING"))

abbrev pub with_settings : App → App
with_settings a =
    with_option (codes "contract") (with_option (codes "bisect") (with_option (codes "depth") (with_option (codes "eps") a)))

abbrev pub with_effort : App → App
with_effort a = with_option (codes "order") (with_option (codes "boxes") (with_option (codes "workers") a))

abbrev pub with_out : App → App
with_out a = with_option (codes "out") a

abbrev pub with_limit : App → App
with_limit a = with_option (codes "limit") a

abbrev pub with_form : App → App
with_form a = with_option (codes "form") a

abbrev pub check_app : App
check_app = system_app (codes "check")

abbrev pub run_app : Text → App
run_app name = with_limit (with_out (with_effort (with_settings (system_app name))))

abbrev pub resume_app : App
resume_app =
    with_form (with_limit (with_option (codes "share") (with_out (with_effort (with_settings (pavings_app (codes "resume")))))))

abbrev pub merge_app : App
merge_app = with_form (with_limit (with_out (with_settings (pavings_app (codes "merge")))))

abbrev pub audit_app : Text → App
audit_app name = with_option (codes "workers") (with_limit (with_settings (paving_app name)))

abbrev pub svg_app : App
svg_app =
    with_form (with_limit (with_option (codes "at") (with_needed (codes "y") (with_needed (codes "x") (with_settings (paving_app (codes "svg")))))))

abbrev pub sample_app : App
sample_app = with_needed (codes "count") (with_needed (codes "seed") (bare_app (codes "sample")))

abbrev pub least_app : App
least_app = with_limit (with_needed (codes "of") (with_option (codes "boxes") (with_settings (system_app (codes "least")))))

abbrev pub campaign_app : App
campaign_app =
    with_form (with_limit (with_option (codes "rounds") (with_needed (codes "keep") (with_effort (with_settings (system_app (codes "campaign")))))))

-- the command with one more subcommand
abbrev pub with_command : App → App → App
with_command app sub = with_subcommand app sub.top

abbrev pub paving_commands : App → App
paving_commands a =
    with_command (with_command (with_command (with_command (with_command (with_command (with_command a check_app) (with_form (run_app (codes "run"))))
    resume_app) merge_app) (with_form (audit_app (codes "audit")))) svg_app) sample_app

abbrev pub further_commands : App → App
further_commands a =
    with_command (with_command (with_command (with_command a (run_app (codes "run-centered"))) (audit_app (codes "audit-centered"))) least_app) campaign_app

unfoldable pub paver_app : App
paver_app = further_commands (paving_commands top_app)
