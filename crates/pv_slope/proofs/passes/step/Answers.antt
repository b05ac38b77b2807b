use Rattle.std.proofs.Common.{rules, ◌≡◌, ◌<◌, false, length, refl, sym, ◌∙◌, arith}
use Rattle.pv_slope.proofs.Still.{here_moves, here_still}
use Rattle.pv_slope.proofs.passes.step.Goals as goal

pub returns-then-not-has_variable-clause-here : goal.returns-then-not-has_variable-clause-here
returns-then-not-has_variable-clause-here c =
    let still : c.has_variable.result ≡ false = search rules in
    let node = c.requires.node in
    let moving = c.requires.moving in
    let in_moving : c.args.at < length c.args.moving.now = omega (arith, node, moving) in
    here_still c.args.i _ c.args.on.now.values.now c.args.on.now.centres.now c.args.moving.now c.args.slopes.now c.args.on.now.nodes.now c.args.at _ _ node in_moving refl (sym c.has_variable.ensures ∙ still) c.requires.divides c.learn_divisor.ensures

pub returns-clause-here : goal.returns-clause-here
returns-clause-here c =
    let node = c.requires.node in
    let moving = c.requires.moving in
    let slopes = c.requires.slopes in
    let factors = c.requires.factors in
    let in_moving : c.args.at < length c.args.moving.now = omega (arith, node, moving) in
    let in_slopes : c.args.at < length c.args.slopes.now = omega (arith, node, slopes) in
    let in_factors : c.args.at < length c.args.on.now.factors.now = omega (arith, node, factors) in
    here_moves c.args.i c.args.on.now.values.now c.args.on.now.centres.now c.args.on.now.factors.now c.args.moving.now c.args.slopes.now c.args.on.now.nodes.now c.args.at _ _ c.index-factors-at.result c.slope.result node in_moving in_slopes in_factors refl c.index-factors-at.is c.slope.ensures
