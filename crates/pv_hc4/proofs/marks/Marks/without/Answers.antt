use Rattle.pv_hc4.proofs.Masks.{without_bit}
use Rattle.pv_hc4.proofs.marks.Marks.without.Goals as goal

pub returns : goal.returns
returns c = λ k. without_bit c.args.self.word c.args.other.word k
