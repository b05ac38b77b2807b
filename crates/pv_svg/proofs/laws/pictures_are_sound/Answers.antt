use Rattle.pv_svg.proofs.Sounds.{pictures-are-sound}
use Rattle.pv_svg.proofs.laws.pictures_are_sound.Goals as goal

pub returns : goal.returns
returns g c = pictures-are-sound (g.S.Settler.inside c.args.settler.now)
