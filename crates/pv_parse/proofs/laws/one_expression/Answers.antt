use Rattle.pv_grammar.specs.declared.counts.Phase.TheVariants.{Sides}
use Rattle.pv_grammar.specs.Standings.{first_in}
use Rattle.pv_parse.proofs.Decided.{decides_expression}
use Rattle.pv_parse.proofs.OneSpelling.{expression_apart, expression_fault, one_known, one_spelling}
use Rattle.pv_parse.proofs.TreeTexts.{one_expression_tree_of}
use Rattle.pv_parse.proofs.laws.one_expression.Goals as goal

pub returns-clause-names : goal.returns-clause-names
returns-clause-names c = λ variables n m h k. one_known variables n m h k

pub returns-clause-spelled : goal.returns-clause-spelled
returns-clause-spelled c = λ t n ss ss' s s'. one_spelling t n (first_in Sides) ss ss' s s'

pub returns-clause-tree : goal.returns-clause-tree
returns-clause-tree c = λ t n d e of_d of_e. one_expression_tree_of t n d e of_d of_e

pub returns-clause-either : goal.returns-clause-either
returns-clause-either c = λ variables t. decides_expression variables t

pub returns-clause-apart : goal.returns-clause-apart
returns-clause-apart c = λ variables t byte cause s f. expression_apart variables t byte cause s f

pub returns-clause-fault : goal.returns-clause-fault
returns-clause-fault c = λ variables t byte byte' cause cause' f g. expression_fault variables t byte byte' cause cause' f g
