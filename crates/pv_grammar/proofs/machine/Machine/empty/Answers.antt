use Rattle.pv_grammar.proofs.Piles.{pile-empty}
use Rattle.pv_grammar.proofs.machine.Machine.empty.Goals as goal

pub returns-clause-stack : goal.returns-clause-stack
returns-clause-stack c = rw c.new.ensures.items pile-empty
