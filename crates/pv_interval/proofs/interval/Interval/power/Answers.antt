use Rattle.std.proofs.Common.{◌≡◌, sym, ap, arith, ◌%◌, ◌∙◌}
use Rattle.pv_num.specs.Grid.{unit}
use Rattle.pv_interval.specs.Tables.{power_of}
use Rattle.pv_interval.proofs.Cases.{power_nought, power_even, power_odd}
use Rattle.pv_interval.proofs.interval.Interval.power.Goals as goal

pub returns-then-n-eq0 : goal.returns-then-n-eq0
unfolding unit
returns-then-n-eq0 c =
    c.of_ends.ensures ∙ sym (ap (power_of c.args.self) c.if-n-eq0.true ∙ power_nought c.args.self)

pub returns-then-n-eq0-2 : goal.returns-then-n-eq0-2
returns-then-n-eq0-2 c = let p = power_even c.args.self c.args.n c.if-n-eq0.false c.if-n-eq0-2.true in cc

pub returns-else-n-eq0-2 : goal.returns-else-n-eq0-2
returns-else-n-eq0-2 c =
    let o : c.args.n % 2 ≡ 1 = omega (arith, c.if-n-eq0-2.false) in
    let p = power_odd c.args.self c.args.n o in cc
