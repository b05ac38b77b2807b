use Rattle.pv_hc4.proofs.Masks.{with_bit}
use Rattle.pv_hc4.proofs.marks.Marks.with.Goals as goal

pub returns : goal.returns
returns c = λ k. with_bit c.args.self.word c.args.i c.from.result k c.requires c.from.ensures
