use Rattle.std.proofs.Common.{◌≡◌, true, refl, subst, sym, ◌∙◌, rules}
use Rattle.std.specs.Prelude.{◌&&◌}
use Rattle.pv_slope.specs.Centered.{is_finite}
use Rattle.pv_slope.proofs.Rounds.{finite_at}
use Rattle.pv_slope.proofs.Still.{from_node}
use Rattle.pv_slope.proofs.passes.distance.Goals as goal

pub returns-then-reads_place : goal.returns-then-reads_place
returns-then-reads_place c =
    let here : c.reads_place.result ≡ true = search rules in
    from_node c.args.on.now.bx.now c.args.on.now.nodes.now c.args.on.now.values.now c.args.on.now.centres.now _ c.args.i c.loop-at.at _ _ c.index-values-at.result c.index-centres-at.result c.sub.result c.requires.ordered c.requires.valued c.requires.centred c.loop-at-test.true refl (sym c.reads_place.ensures ∙ here) c.index-values-at.is c.index-centres-at.is c.sub.ensures.value

pub from_centre-requires : goal.from_centre-requires
from_centre-requires c =
    subst (λ x. (is_finite x.lo && is_finite x.hi) ≡ true) (sym c.place.ensures) (finite_at c.args.on.now.bx.now c.args.i c.requires.finite c.requires.place)
