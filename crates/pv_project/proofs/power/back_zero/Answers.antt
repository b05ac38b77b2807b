use Rattle.std.proofs.Common.{rules}
use Rattle.pv_num.specs.Grid.{unit}
use Rattle.pv_project.proofs.power.back_zero.Goals as goal

pub returns-then-contains : goal.returns-then-contains
unfolding unit
returns-then-contains c = search rules

pub returns-else-contains : goal.returns-else-contains
unfolding unit
returns-else-contains c = search rules
