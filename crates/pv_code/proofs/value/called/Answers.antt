use Rattle.pv_code.specs.Values.{at}
use Rattle.pv_code.proofs.Leaving.{of-call, of-unknown}
use Rattle.pv_code.proofs.value.called.Goals as goal

pub returns-in_ok-code_of-in-Some : goal.returns-in_ok-code_of-in-Some
returns-in_ok-code_of-in-Some c = λ code ms args ts short all.
    of-call (at c.args.functions.now ms args code) _ c.args.arguments.now c.args.function c.in-Some.callee.now _ ts c.in-Some.ensures.lookup.3.0 c.in-Some.ensures.lookup.1 short
    c.measure_of.ensures c.in_ok-code_of-in-Some.ensures all

pub returns-in_ok-nothing-in-None : goal.returns-in_ok-nothing-in-None
returns-in_ok-nothing-in-None c = λ code ms args ts short all.
    of-unknown (at c.args.functions.now ms args code) _ c.args.function ts c.in-None.ensures.lookup.3 (c.in_ok-nothing-in-None.ensures (at c.args.functions.now ms args code))
