use Rattle.std.proofs.Common.{ap, sym}
use Rattle.pv_num.specs.Grid.{unit}
use Rattle.pv_num.specs.Arithmetic.{pow_of}
use Rattle.pv_num.proofs.num.Num.pow.Goals as goal

pub returns-then-n-eq0 : goal.returns-then-n-eq0
unfolding unit
returns-then-n-eq0 c = sym (ap (λ n. pow_of c.args.side c.args.self n) c.if-n-eq0.true)
