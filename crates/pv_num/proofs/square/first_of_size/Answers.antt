use Rattle.std.proofs.Common.{◌*◌, ◌^◌}
use Rattle.pv_num.proofs.Squares.{IsFirst, found_first}
use Rattle.pv_num.proofs.square.first_of_size.Goals as goal

first_found : (c : goal.After-first_behind) → IsFirst c.args.side (c.args.z.mantissa * 2 ^ c.args.z.exponent) c.first_behind.result
first_found c =
    found_first c.args.side c.args.z.mantissa c.args.z.exponent c.as_square-square.result.wide c.as_square-square.result.half c.whole_root-root.result c.first_behind.result
    c.as_square-square.ensures.square c.args.z.mantissa_fits c.args.z.exponent_fits c.if-root-lt-LEAST_ROOT.false c.if-root.false c.if-square-within.false c.if-root-square.false c.first_behind.ensures

pub returns-clause-below : goal.returns-clause-below
returns-clause-below c = (first_found c).below

pub returns-clause-here : goal.returns-clause-here
returns-clause-here c = (first_found c).here
