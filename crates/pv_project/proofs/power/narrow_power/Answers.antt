use Rattle.std.proofs.Common.{◌≡◌, ◌%◌, arith}
use Rattle.pv_project.proofs.Roots.{power_row_zero, power_row_even, power_row_odd}
use Rattle.pv_project.proofs.power.narrow_power.Goals as goal

pub returns-then-n-eq0 : goal.returns-then-n-eq0
returns-then-n-eq0 c = let p = power_row_zero c.args.z c.args.x c.args.n c.if-n-eq0.true in cc

pub returns-then-n-eq0-2 : goal.returns-then-n-eq0-2
returns-then-n-eq0-2 c = let p = power_row_even c.args.z c.args.x c.args.n c.if-n-eq0.false c.if-n-eq0-2.true in cc

pub returns-else-n-eq0-2 : goal.returns-else-n-eq0-2
returns-else-n-eq0-2 c =
    let o : c.args.n % 2 ≡ 1 = omega (arith, c.if-n-eq0-2.false) in
    let p = power_row_odd c.args.z c.args.x c.args.n o in cc
