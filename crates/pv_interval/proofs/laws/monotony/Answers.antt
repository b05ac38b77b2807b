use Rattle.pv_interval.proofs.Contained.{sum_contained, difference_contained, product_contained, least_contained, greatest_contained, hull_contained, meet_contained, negated_contained, absolute_contained, power_contained}
use Rattle.pv_interval.proofs.ContainedQuotients.{quotient_contained}
use Rattle.pv_interval.proofs.laws.monotony.Goals as goal

pub returns : goal.returns
returns c = record {
  sums = λ x y v w i j h k. sum_contained x y v w h k;
  differences = λ x y v w i j h k. difference_contained x y v w h k;
  products = product_contained;
  quotients = quotient_contained;
  least = λ x y v w i j h k. least_contained x y v w h k;
  greatest = λ x y v w i j h k. greatest_contained x y v w h k;
  negations = λ x v i h. negated_contained x v h;
  sizes = absolute_contained;
  powers = power_contained;
  hulls = λ x y v w i j h k. hull_contained x y v w h k;
  meets = meet_contained;
}
