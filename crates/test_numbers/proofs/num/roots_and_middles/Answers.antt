use Rattle.std.proofs.Common.{refl}
use Rattle.pv_num.specs.Grid.{unit}
use Rattle.test_numbers.proofs.num.roots_and_middles.Goals as goal

pub floor-requires-clause-high : goal.floor-requires-clause-high
unfolding unit
floor-requires-clause-high c = λ _. refl
