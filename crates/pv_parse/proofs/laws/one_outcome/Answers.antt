use Rattle.pv_parse.proofs.Outcomes.{one_system_meant, system_apart, system_either, system_fault}
use Rattle.pv_parse.proofs.laws.one_outcome.Goals as goal

pub returns-clause-either : goal.returns-clause-either
returns-clause-either c = λ t. system_either t

pub returns-clause-apart : goal.returns-clause-apart
returns-clause-apart c = λ t byte cause s f. system_apart t byte cause s f

pub returns-clause-fault : goal.returns-clause-fault
returns-clause-fault c = λ t byte byte' cause cause' f g. system_fault t byte byte' cause cause' f g

pub returns-clause-system : goal.returns-clause-system
returns-clause-system c = λ t s s' m m'. one_system_meant t s s' m m'
