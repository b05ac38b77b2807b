use Rattle.pv_svg.proofs.Painting.{paint_is_last, last_is_paint, bare_is_unpainted}
use Rattle.pv_svg.proofs.laws.paint_in_words.Goals as goal

pub returns-clause-last : goal.returns-clause-last
returns-clause-last c = paint_is_last

pub returns-clause-only : goal.returns-clause-only
returns-clause-only c = last_is_paint

pub returns-clause-none : goal.returns-clause-none
returns-clause-none c = bare_is_unpainted
