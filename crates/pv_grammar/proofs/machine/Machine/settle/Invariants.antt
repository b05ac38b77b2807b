use Rattle.std.proofs.Common.{List, Option, vec_len}
use Rattle.pv_code.specs.declared.code.Op.{Op}
use Rattle.pv_grammar.specs.declared.machine.Item.{Item}
use Rattle.pv_grammar.specs.Grammar.{pile, Settles}
use Rattle.pv_grammar.proofs.machine.Machine.settle.Given as goal

abbrev pub invariant-loop-item : goal.invariant-loop-item
invariant-loop-item l = (o : Option Item) (rest : List Item) (more : List Op) →
    Settles l.symbol (pile l.self.stack.items) l.self.code.items o rest more →
    Settles l.symbol (pile l.initial.self.stack.items) l.initial.self.code.items o rest more

abbrev pub decreases-loop-item : goal.decreases-loop-item
decreases-loop-item l = vec_len l.self.stack
