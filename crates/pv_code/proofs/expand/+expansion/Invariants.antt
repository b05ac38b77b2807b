use Rattle.std.proofs.Common.{◌≡◌, [], ◌+◌, length, map, drop}
use Rattle.pv_expr.specs.Terms.{term_of}
use Rattle.pv_code.specs.Expansion.{meanings, run, stack_of, code_of}
use Rattle.pv_code.proofs.expand.+expansion.Given as goal

abbrev pub invariant-expand-loop-i : goal.invariant-expand-loop-i
invariant-expand-loop-i l =
    run (meanings (map code_of l.functions)) (map term_of l.arguments) (drop l.i l.code) (stack_of l.stack.items)
    ≡ run (meanings (map code_of l.functions)) (map term_of l.initial.arguments) l.code []

abbrev pub decreases-called : goal.decreases-called
decreases-called l = length l.functions.now + length l.functions.now + length l.functions.now

abbrev pub decreases-made_by : goal.decreases-made_by
decreases-made_by l = length l.functions.now + length l.functions.now + length l.functions.now + 1

abbrev pub decreases-expand : goal.decreases-expand
decreases-expand l = length l.functions.now + length l.functions.now + length l.functions.now + 2
