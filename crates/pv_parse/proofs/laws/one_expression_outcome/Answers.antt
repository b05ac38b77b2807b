use Rattle.pv_parse.proofs.Outcomes.{one_term_meant, text_apart, text_either, text_fault}
use Rattle.pv_parse.proofs.laws.one_expression_outcome.Goals as goal

pub returns-clause-either : goal.returns-clause-either
returns-clause-either c = λ variables t. text_either variables t

pub returns-clause-apart : goal.returns-clause-apart
returns-clause-apart c = λ variables t byte cause s f. text_apart variables t byte cause s f

pub returns-clause-fault : goal.returns-clause-fault
returns-clause-fault c = λ variables t byte byte' cause cause' f g. text_fault variables t byte byte' cause cause' f g

pub returns-clause-term : goal.returns-clause-term
returns-clause-term c = λ variables t x x' m m'. one_term_meant variables t x x' m m'
