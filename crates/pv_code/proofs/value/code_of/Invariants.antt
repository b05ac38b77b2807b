use Rattle.pv_code.proofs.Leaving.{PutsArguments}
use Rattle.pv_code.proofs.value.code_of.Given as goal

abbrev pub invariant-loop-i : goal.invariant-loop-i
invariant-loop-i l = PutsArguments l.uses l.arguments l.i l.code.items
