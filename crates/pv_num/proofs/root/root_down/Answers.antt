use Rattle.std.proofs.Common.{ap, ◌∙◌, pos}
use Rattle.pv_num.specs.Extended.{Fin}
use Rattle.pv_num.specs.Roots.{size_at}
use Rattle.pv_num.proofs.Searches.{root_down_is}
use Rattle.pv_num.proofs.root.root_down.Goals as goal

pub returns : goal.returns
returns c =
    c.number_at.ensures.value
    ∙ ap (λ i. Fin (pos (size_at i))) c.saturating_sub.ensures
    ∙ root_down_is c.args.z c.args.n c.first_reached-first.result c.first_reached-first.ensures.fits c.first_reached-first.ensures.below c.first_reached-first.ensures.here
