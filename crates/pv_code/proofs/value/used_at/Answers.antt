use Rattle.std.proofs.Common.{◌≡◌, ◌≤◌, ◌⊎◌, ◌∙◌, ◌∷◌, ap, false, length, rules, true, ⊎_elim}
use Rattle.pv_code.specs.declared.value.Value.{Value}
use Rattle.pv_code.specs.Expansion.{is_used}
use Rattle.pv_code.specs.Values.{HasCode}
use Rattle.pv_code.proofs.Leaving.{past-at, unused-at, used-at}
use Rattle.pv_code.proofs.value.used_at.Goals as goal

pub returns-in-Some : goal.returns-in-Some
returns-in-Some c =
    let used : is_used c.args.uses.now c.args.i ≡ true = search rules in
    λ ms args ts all st. used-at ms args ts c.args.uses.now c.args.arguments.now c.args.i _ _ c.in-Some.ensures.lookup.3.0 used
    (c.as_slice.ensures.value ∙ ap (λ (v : Value). v.code.items) c.in-Some.ensures.lookup.1) all st

pub returns-in_default : goal.returns-in_default
returns-in_default c =
    let left_out : (is_used c.args.uses.now c.args.i ≡ false) ⊎ (length c.args.arguments.now ≤ c.args.i) = search rules in
    λ ms args ts all st. ap (λ t. t ∷ st) (⊎_elim (unused-at c.args.uses.now ts c.args.i) (past-at (HasCode ms args) c.args.arguments.now ts c.args.uses.now c.args.i all) left_out)
