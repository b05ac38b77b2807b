use Rattle.std.proofs.Common.{sym, subst, ◌≤◌}
use Rattle.pv_code.specs.declared.value.Value.{Value}
use Rattle.pv_code.specs.Expansion.{argument}
use Rattle.pv_code.specs.Values.{HasSize}
use Rattle.pv_code.proofs.Leaving.{all-at, all-length}
use Rattle.pv_code.proofs.Sizing.{past, size-of}
use Rattle.pv_code.proofs.value.measure_at.Goals as goal

pub returns-in-Some : goal.returns-in-Some
returns-in-Some c = λ args inner few all.
    subst (λ (v : Value). HasSize args v (argument inner c.args.i)) (sym c.in-Some.ensures.lookup.1)
    (all-at (HasSize args) c.args.arguments.now inner c.args.i _ all c.in-Some.ensures.lookup.3.0)

pub returns-in-None : goal.returns-in-None
returns-in-None c = λ args inner few all.
    size-of _ args _ _ (sym (past inner c.args.i (subst (λ k. k ≤ c.args.i) (sym (all-length (HasSize args) c.args.arguments.now inner all)) c.in-None.ensures.lookup.3))) (c.leaf.ensures args few)
