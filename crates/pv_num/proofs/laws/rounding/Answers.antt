use Rattle.pv_num.proofs.Rounding.{rounded-is, rounded-unique}
use Rattle.pv_num.proofs.laws.rounding.Goals as goal

pub returns : goal.returns
returns c = λ side a b some. record {
  is = rounded-is side a b some;
  one = λ r h. rounded-unique side a b r some h;
}
