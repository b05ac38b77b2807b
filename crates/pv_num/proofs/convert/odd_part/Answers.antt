use Rattle.std.proofs.Common.{arith}
use Rattle.pv_num.proofs.Canonical.{odd_value, odd_last}
use Rattle.pv_num.proofs.convert.odd_part.Goals as goal

pub returns-clause-value : goal.returns-clause-value
returns-clause-value c = odd_value c.args.m c.requires.positive (omega arith)

pub returns-clause-odd : goal.returns-clause-odd
returns-clause-odd c = odd_last c.args.m c.requires.positive (omega arith)
