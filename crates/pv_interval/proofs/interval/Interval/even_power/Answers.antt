use Rattle.std.proofs.Common.{◌≡◌, sym, subst}
use Rattle.std.specs.Prelude.{IsTrue}
use Rattle.pv_num.specs.Order.{le}
use Rattle.pv_num.specs.Arithmetic.{neg_of}
use Rattle.pv_interval.specs.Bounds.{IsInterval, between}
use Rattle.pv_interval.specs.Tables.{even_power, absolute, nought}
use Rattle.pv_interval.proofs.Ends.{le_trans}
use Rattle.pv_interval.proofs.Intervals.{even_interval, absolute_interval}
use Rattle.pv_interval.proofs.Cases.{even_up, even_down, even_wide, absolute_wide}
use Rattle.pv_interval.proofs.Powers.{turn_le}
use Rattle.pv_interval.proofs.interval.Interval.even_power.Goals as goal

pub of_ends-requires : goal.of_ends-requires
of_ends-requires c =
    let p = even_up c.args.self c.args.n (cc) in
    let e : between c.pow.result c.pow-then-le.result ≡ even_power c.args.self c.args.n = cc in
    subst IsInterval (sym e) (even_interval c.args.self c.args.n c.requires.even c.lo-a.ensures.interval)

pub of_ends-requires-then-le-2 : goal.of_ends-requires-then-le-2
of_ends-requires-then-le-2 c =
    let p = even_down c.args.self c.args.n (cc) (cc) in
    let e : between c.pow-then-le-2.result c.pow-then-le-2-2.result ≡ even_power c.args.self c.args.n = cc in
    subst IsInterval (sym e) (even_interval c.args.self c.args.n c.requires.even c.lo-a.ensures.interval)

pub of_ends-requires-2 : goal.of_ends-requires-2
of_ends-requires-2 c =
    let p = even_wide c.args.self c.args.n (cc) (cc) in
    let e : between nought c.pow-2.result ≡ even_power c.args.self c.args.n = cc in
    subst IsInterval (sym e) (even_interval c.args.self c.args.n c.requires.even c.lo-a.ensures.interval)

pub returns : goal.returns
returns c = let p = even_wide c.args.self c.args.n (cc) (cc) in cc

-- the lower end lies below 0, too, so the size of each number is not negative
pub pow-requires-then-le-2-2-clause-not_negative : goal.pow-requires-then-le-2-2-clause-not_negative
pow-requires-then-le-2-2-clause-not_negative c =
    let x = c.args.self in
    let k : IsTrue (le x.hi nought) = cc in
    let e : neg_of x.lo ≡ c.neg-then-le-2.result = cc in
    subst (λ v. IsTrue (le nought v)) e (turn_le x.lo (le_trans x.lo x.hi nought c.lo-a.ensures.interval.ordered k))

pub pow-requires-2-clause-not_negative : goal.pow-requires-2-clause-not_negative
pow-requires-2-clause-not_negative c =
    let p = absolute_wide c.args.self (cc) (cc) in
    let e : between nought c.greater-far.result ≡ absolute c.args.self = cc in
    let h = subst IsInterval (sym e) (absolute_interval c.args.self c.lo-a.ensures.interval) in
    h.ordered
