use Rattle.pv_grammar.proofs.OneTree.{one_expression_tree, one_system_tree}
use Rattle.pv_grammar.proofs.TreeBuilding.{expression_tree, system_tree}
use Rattle.pv_grammar.proofs.TreeReadings.{expression_text, system_text}
use Rattle.pv_grammar.proofs.TreeRuns.{expression_means, system_means}
use Rattle.pv_grammar.proofs.laws.trees.Goals as goal

pub returns-clause-systems : goal.returns-clause-systems
returns-clause-systems c = λ ss code. ((λ h. system_tree ss code h.0 h.1), (λ h. system_text ss code h))

pub returns-clause-expressions : goal.returns-clause-expressions
returns-clause-expressions c = λ ss code. ((λ h. expression_tree ss code h.0 h.1), (λ h. expression_text ss code h))

pub returns-clause-one_system : goal.returns-clause-one_system
returns-clause-one_system c = λ x y same. one_system_tree x y same

pub returns-clause-one_expression : goal.returns-clause-one_expression
returns-clause-one_expression c = λ d e same. one_expression_tree d e same

pub returns-clause-constraints : goal.returns-clause-constraints
returns-clause-constraints c = λ x. system_means x

pub returns-clause-term : goal.returns-clause-term
returns-clause-term c = λ e fs args. expression_means e fs args
