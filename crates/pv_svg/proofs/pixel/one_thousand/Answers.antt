use Rattle.std.proofs.Common.{◌∙◌}
use Rattle.pv_svg.proofs.Axes.{thousand_is}
use Rattle.pv_svg.proofs.pixel.one_thousand.Goals as goal

pub returns : goal.returns
returns c = c.from_ratio.ensures ∙ thousand_is
