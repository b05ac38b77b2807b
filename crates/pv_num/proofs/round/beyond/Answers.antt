use Rattle.std.proofs.Common.{refl}
use Rattle.pv_num.specs.Rounding.{top_size}
use Rattle.pv_num.proofs.round.beyond.Goals as goal

pub returns-in-Zero-clause-largest : goal.returns-in-Zero-clause-largest
unfolding top_size
returns-in-Zero-clause-largest c = λ _. refl
