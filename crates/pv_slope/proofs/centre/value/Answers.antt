use Rattle.std.proofs.Common.{◌≡◌, true, length, subst, sym}
use Rattle.std.specs.Prelude.{◌&&◌}
use Rattle.pv_hc4.specs.Nodes.{FitsNode}
use Rattle.pv_slope.specs.Centered.{is_finite}
use Rattle.pv_slope.proofs.Rounds.{finite_at}
use Rattle.pv_slope.proofs.centre.value.Goals as goal

pub place_centre-requires : goal.place_centre-requires
place_centre-requires c =
    subst (λ x. (is_finite x.lo && is_finite x.hi) ≡ true) (sym c.place.ensures)
    (finite_at c.args.bx.now c.in-Place.i c.requires.finite (subst (FitsNode (length c.args.bx.now)) c.in-Place.is c.requires.fits))
