use Rattle.std.proofs.Common.{◌≡◌, ◌≤◌, ◌++◌, drop, length}
use Rattle.pv_grammar.specs.Grammar.{pile}
use Rattle.pv_grammar.proofs.machine.Machine.put_all.Given as goal

abbrev pub invariant-loop-i : goal.invariant-loop-i
invariant-loop-i l = record {
  within : l.i ≤ length l.items;
  so_far : pile l.self.stack.items ≡ drop l.i l.items ++ pile l.initial.self.stack.items;
  code : l.self.code ≡ l.initial.self.code;
}

abbrev pub decreases-loop-i : goal.decreases-loop-i
decreases-loop-i l = l.i
