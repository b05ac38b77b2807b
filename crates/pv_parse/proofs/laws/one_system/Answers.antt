use Rattle.std.proofs.Common.{[], refl}
use Rattle.pv_grammar.specs.declared.counts.Phase.TheVariants.{Between}
use Rattle.pv_grammar.specs.Standings.{first_in}
use Rattle.pv_grammar.specs.Limits.{IsLimitedSystem}
use Rattle.pv_grammar.specs.Productions.{IsSystem, system_symbols}
use Rattle.pv_grammar.proofs.Within.{system_limited}
use Rattle.pv_parse.specs.Meanings.{no_names}
use Rattle.pv_parse.proofs.Decided.{decides_system}
use Rattle.pv_parse.proofs.OneSpelling.{no_fault, one_fault, one_spelling}
use Rattle.pv_parse.proofs.TreeTexts.{one_tree_of}
use Rattle.pv_parse.proofs.laws.one_system.Goals as goal

pub returns-clause-spelled : goal.returns-clause-spelled
returns-clause-spelled c = λ t ss ss' s s'. one_spelling t no_names (first_in Between) ss ss' s s'

pub returns-clause-tree : goal.returns-clause-tree
returns-clause-tree c = λ t x y of_x of_y. one_tree_of t x y of_x of_y

pub returns-clause-either : goal.returns-clause-either
returns-clause-either c = λ t. decides_system t

pub returns-clause-apart : goal.returns-clause-apart
returns-clause-apart c = λ t byte cause s f. no_fault t no_names (first_in Between) IsSystem IsLimitedSystem (system_symbols s.0 []) byte cause s.1.0 (s.0, refl, s.1.1) f

pub returns-clause-fault : goal.returns-clause-fault
returns-clause-fault c = λ t byte byte' cause cause' f g. one_fault t no_names (first_in Between) IsSystem IsLimitedSystem system_limited.text byte byte' cause cause' f g
