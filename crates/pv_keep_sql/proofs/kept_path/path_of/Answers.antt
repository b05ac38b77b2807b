use Rattle.std.proofs.Common.{rules}
use Rattle.pv_keep_sql.proofs.Paths.{other_digit}
use Rattle.pv_keep_sql.proofs.kept_path.path_of.Goals as goal

pub returns-in_default : goal.returns-in_default
returns-in_default c = other_digit c.args.digits.now c.loop-i.i 0 c.loop-i-test.true (search rules) (search rules)
