use Rattle.pv_interval.proofs.Keeps.{sum_keeps, difference_keeps, product_keeps, opposite_keeps}
use Rattle.pv_interval.proofs.Orders.{least_keeps, greatest_keeps, absolute_keeps, hull_keeps_left, hull_keeps_right, meet_keeps}
use Rattle.pv_interval.proofs.Powers.{power_keeps}
use Rattle.pv_interval.proofs.Quotients.{quotient_keeps}
use Rattle.pv_interval.proofs.laws.inclusion.Goals as goal

pub returns : goal.returns
returns c = record {
  sums = sum_keeps;
  differences = difference_keeps;
  products = product_keeps;
  quotients = quotient_keeps;
  least = least_keeps;
  greatest = greatest_keeps;
  negations = opposite_keeps;
  sizes = absolute_keeps;
  powers = power_keeps;
  hulls_left = λ f x y h. hull_keeps_left f.top f.under x y h;
  hulls_right = λ f x y h. hull_keeps_right f.top f.under x y h;
  meets = λ f x y h k. meet_keeps f.top f.under x y h k;
}
