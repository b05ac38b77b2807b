use Rattle.std.proofs.Common.{rules, ◌≡◌, ◌≢◌, ◌%◌}
use Rattle.pv_num.proofs.Squares.{even_square, odd_square}
use Rattle.pv_num.proofs.square.as_square.Goals as goal

pub returns-then-z-eq1-clause-square : goal.returns-then-z-eq1-clause-square
returns-then-z-eq1-clause-square c =
    let odd : c.args.z.exponent % 2 ≡ 1 = search rules in
    odd_square c.args.z.mantissa c.args.z.exponent odd

pub returns-else-z-eq1-clause-square : goal.returns-else-z-eq1-clause-square
returns-else-z-eq1-clause-square c =
    let even : c.args.z.exponent % 2 ≢ 1 = search rules in
    even_square c.args.z.mantissa c.args.z.exponent even
