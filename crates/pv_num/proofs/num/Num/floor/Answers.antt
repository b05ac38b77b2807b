use Rattle.pv_num.proofs.Orders.{floor_fits, floor_is}
use Rattle.pv_num.proofs.num.Num.floor.Goals as goal

pub whole_part-requires : goal.whole_part-requires
whole_part-requires c = floor_fits c.args.self c.args.top _ c.ranges.top.fits c.size.ensures c.requires.low c.requires.high

pub returns : goal.returns
returns c = floor_is c.args.self c.args.top _ _ c.size.ensures c.requires.low c.requires.high c.whole_part.ensures
