use Rattle.pv_num.proofs.Canonical.{met}
use Rattle.pv_num.proofs.Operations.{not_smaller}
use Rattle.pv_num.proofs.convert.exact_size.Goals as goal

pub returns-else-is_smaller : goal.returns-else-is_smaller
returns-else-is_smaller c = met _ _ _ c.in_ok-below.ensures.below c.in_ok-above.ensures.above (not_smaller _ _ c.if-is_smaller.ensures.1)
