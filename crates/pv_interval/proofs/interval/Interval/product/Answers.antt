use Rattle.pv_interval.proofs.Picks.{product_swap}
use Rattle.pv_interval.proofs.interval.Interval.product.Goals as goal

pub returns-then-le-2 : goal.returns-then-le-2
returns-then-le-2 c = let p = product_swap c.args.self c.args.other in cc

pub returns-then-le-4 : goal.returns-then-le-4
returns-then-le-4 c = let p = product_swap c.args.self c.args.other in cc
