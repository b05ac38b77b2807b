use Rattle.pv_grammar.specs.Grammar.{system_items, expression_items}
use Rattle.pv_grammar.proofs.OneReading.{one_way}
use Rattle.pv_grammar.proofs.Orderly.{expression_orderly, system_orderly}
use Rattle.pv_grammar.proofs.laws.one_reading.Goals as goal

pub returns-clause-systems : goal.returns-clause-systems
returns-clause-systems c = λ ss ops ops' d e. one_way system_items ss ops d system_orderly ops' e

pub returns-clause-expressions : goal.returns-clause-expressions
returns-clause-expressions c = λ ss ops ops' d e. one_way expression_items ss ops d expression_orderly ops' e
