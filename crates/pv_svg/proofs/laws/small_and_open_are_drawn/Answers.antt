use Rattle.pv_svg.proofs.Screens.{unsaid-has-pixel, unsaid-is-covered}
use Rattle.pv_svg.proofs.laws.small_and_open_are_drawn.Goals as goal

pub returns-clause-some : goal.returns-clause-some
returns-clause-some c = unsaid-has-pixel

pub returns-clause-all : goal.returns-clause-all
returns-clause-all c = unsaid-is-covered
