use Rattle.std.proofs.Common.{◌≤◌, ◌<◌, ◌∷◌, ap, refl, ◌∙◌, length, rules, List, Bool}
use Rattle.pv_code.specs.Expansion.{filtered, meaning_of}
use Rattle.pv_code.proofs.Leaving.{puts-all, puts-more}
use Rattle.pv_code.proofs.value.code_of.Goals as goal

pub loop-i-preserved : goal.loop-i-preserved
loop-i-preserved c =
    let within : c.loop-i.i < length c.args.arguments.now = search rules in
    puts-more c.as_slice-uses.result.now c.args.arguments.now c.loop-i.i c.loop-i.code.items c.used_at-in-loop-i.result.now _ within c.loop-i.invariant c.in_ok-extend_from_slice-2.ensures.items c.used_at-in-loop-i.ensures

pub returns : goal.returns
returns c =
    let end : length c.args.arguments.now ≤ c.loop-i.i = search rules in
    λ ms inner args ts means all st.
    puts-all c.as_slice-uses.result.now c.args.arguments.now c.loop-i.i c.args.function _ c.loop-i.code.items c.push.new.self.items end refl c.loop-i.invariant c.in_ok-push.ensures.items ms args ts all st
    ∙ ap (λ (us : List Bool). meaning_of ms c.args.function (filtered us ts) ∷ st) c.as_slice-uses.ensures.value
