use Rattle.pv_product.specs.Views.{no_x, no_y}
use Rattle.pv_view.proofs.svg.axes_in.Goals as goal

pub returns-in_err-x : goal.returns-in_err-x
returns-in_err-x c = rw c.from_residual.ensures (no_x c.in_err-x.ensures)

pub returns-in_err-y : goal.returns-in_err-y
returns-in_err-y c = rw c.from_residual-in_err-y.ensures (no_y c.in_err-y.ensures)
