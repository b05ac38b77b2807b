use Rattle.std.proofs.Common.{List, [], take}
use Rattle.pv_expr.specs.Terms.{Term}
use Rattle.pv_code.specs.Expansion.{Meaning, run}
use Rattle.pv_code.specs.Values.{AreStacked, at}
use Rattle.pv_code.proofs.value.values.Given as goal

abbrev pub invariant-loop-op : goal.invariant-loop-op
invariant-loop-op l = (ms : List Meaning) (args : List Term) →
    AreStacked (at l.functions ms args l.code) l.stack.items (run ms args (take l.op-index l.code) [])
