use Rattle.pv_svg.proofs.Screens.{inner-is-inside, removed-is-outside, bare-is-outside}
use Rattle.pv_svg.proofs.laws.pixels_are_sound.Goals as goal

pub returns-clause-inner : goal.returns-clause-inner
returns-clause-inner g c = inner-is-inside (g.S.Settler.inside c.args.settler.now)

pub returns-clause-removed : goal.returns-clause-removed
returns-clause-removed g c = removed-is-outside (g.S.Settler.inside c.args.settler.now)

pub returns-clause-bare : goal.returns-clause-bare
returns-clause-bare g c = bare-is-outside (g.S.Settler.inside c.args.settler.now)
