use Rattle.pv_project.proofs.Kept.{back_add_keeps, back_sub_keeps, back_mul_keeps, back_div_keeps, back_min_keeps, back_max_keeps, back_neg_keeps, back_abs_keeps}
use Rattle.pv_project.proofs.RootsKept.{back_pow_keeps}
use Rattle.pv_project.proofs.laws.keeps_arguments.Goals as goal

pub returns : goal.returns
returns c = record {
  sums = back_add_keeps;
  differences = back_sub_keeps;
  products = back_mul_keeps;
  quotients = back_div_keeps;
  least = back_min_keeps;
  greatest = back_max_keeps;
  negations = back_neg_keeps;
  sizes = back_abs_keeps;
  powers = back_pow_keeps;
}
