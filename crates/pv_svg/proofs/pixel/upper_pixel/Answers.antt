use Rattle.pv_svg.proofs.Axes.{turned_is_on}
use Rattle.pv_svg.proofs.pixel.upper_pixel.Goals as goal

pub lower_pixel-requires : goal.lower_pixel-requires
lower_pixel-requires c = turned_is_on c.args.axis.now _ c.args.v _ c.requires c.neg.ensures.value c.neg-2.ensures
