use Rattle.std.proofs.Common.{arith}
use Rattle.pv_tokens.proofs.Powers.{least_power, most_power}
use Rattle.pv_tokens.proofs.number.power_of_ten.Goals as goal

pub pow-requires : goal.pow-requires
pow-requires c = omega (arith, most_power c.args.n 37 c.requires)

pub returns-clause-least : goal.returns-clause-least
returns-clause-least c = omega (arith, least_power c.args.n, c.pow.ensures)

pub returns-clause-most : goal.returns-clause-most
returns-clause-most c = omega (arith, most_power c.args.n 37 c.requires, c.pow.ensures)

pub returns-clause-lower : goal.returns-clause-lower
returns-clause-lower c = λ few. omega (arith, most_power c.args.n 36 few, c.pow.ensures)
