use Rattle.pv_grammar.proofs.Within.{expression_within, system_within, within_expression, within_system}
use Rattle.pv_grammar.proofs.laws.limits.Goals as goal

pub returns-clause-systems : goal.returns-clause-systems
returns-clause-systems c = λ x. (λ h. system_within x h, λ h. within_system x h)

pub returns-clause-expressions : goal.returns-clause-expressions
returns-clause-expressions c = λ e. (λ h. expression_within e h, λ h. within_expression e h)
