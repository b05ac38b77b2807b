use Rattle.std.proofs.Common.{◌≡◌, sym, subst}
use Rattle.pv_interval.specs.Bounds.{IsInterval, between}
use Rattle.pv_interval.specs.Tables.{product_of}
use Rattle.pv_interval.proofs.Intervals.{product_interval}
use Rattle.pv_interval.proofs.Cases.{crossed_low, crossed_high}
use Rattle.pv_interval.proofs.Picks.{product_wide}
use Rattle.pv_interval.proofs.interval.Interval.mul_across.Goals as goal

pub of_ends-requires : goal.of_ends-requires
of_ends-requires c =
    let x = c.args.self in let y = c.args.other in
    let p = product_wide x y c.lo-a.ensures.interval c.lo-c.ensures.interval
    (crossed_low x c.requires.left) (crossed_high x c.requires.left) in
    let e : between c.lesser-lo.result c.greater-hi.result ≡ product_of x y = cc in
    subst IsInterval (sym e) (product_interval x y c.lo-a.ensures.interval c.lo-c.ensures.interval)

pub returns : goal.returns
returns c =
    let x = c.args.self in let y = c.args.other in
    let p = product_wide x y c.lo-a.ensures.interval c.lo-c.ensures.interval
    (crossed_low x c.requires.left) (crossed_high x c.requires.left) in cc
