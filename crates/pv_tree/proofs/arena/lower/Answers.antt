use Rattle.std.proofs.Common.{sym, ◌∙◌, ap}
use Rattle.pv_interval.specs.Bounds.{interval_from}
use Rattle.pv_tree.proofs.Halves.{inside_there, lower_some, lower_is}
use Rattle.pv_tree.proofs.arena.lower.Goals as goal

pub get-place-requires : goal.get-place-requires
get-place-requires c = inside_there c.args.at c.args.var c.args.bx.now c.requires

pub set-requires : goal.set-requires
set-requires c = inside_there c.args.at c.args.var c.args.bx.now c.requires

pub unreachable-requires : goal.unreachable-requires
unreachable-requires c =
    let e = sym c.in-None.is ∙ c.new.ensures ∙ ap (λ e. interval_from e c.args.at) c.lo.ensures.value ∙ lower_some c.args.bx.now c.args.var c.args.at c.get-place.result c.requires c.get-place.ensures.value in
    cc

pub returns : goal.returns
returns c =
    c.set.ensures ∙ lower_is c.args.bx.now c.args.var c.args.at c.get-place.result c.in-Some.part c.requires c.get-place.ensures.value
    (c.in-Some.ensures ∙ ap (λ e. interval_from e c.args.at) c.lo.ensures.value)
