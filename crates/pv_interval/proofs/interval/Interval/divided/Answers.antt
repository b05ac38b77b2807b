use Rattle.std.proofs.Common.{◌≡◌, true, false}
use Rattle.pv_interval.specs.Tables.{is_nought, has_nought}
use Rattle.pv_interval.proofs.Cases.{quotient_positive, quotient_negative, quotient_none, has_zero, quotient_of_nought, quotient_wide}
use Rattle.pv_interval.proofs.interval.Interval.divided.Goals as goal

pub returns-then-lt : goal.returns-then-lt
returns-then-lt c = let p = quotient_positive c.args.self c.args.by c.lo.ensures.interval (cc) in cc

pub returns-then-lt-2 : goal.returns-then-lt-2
returns-then-lt-2 c = let p = quotient_negative c.args.self c.args.by c.lo.ensures.interval (cc) in cc

pub returns-then-is_zero : goal.returns-then-is_zero
returns-then-is_zero c = let p = quotient_none c.args.self c.args.by (cc) in cc

pub returns-then-is_zero-2 : goal.returns-then-is_zero-2
returns-then-is_zero-2 c =
    let h : is_nought c.args.by ≡ false = cc in
    let z : has_nought c.args.by ≡ true = has_zero c.args.by (cc) (cc) in
    let p = quotient_of_nought c.args.self c.args.by h z c.is_zero-2.ensures.interval (cc) in cc

pub returns : goal.returns
returns c =
    let h : is_nought c.args.by ≡ false = cc in
    let z : has_nought c.args.by ≡ true = has_zero c.args.by (cc) (cc) in
    let p = quotient_wide c.args.self c.args.by h z (cc) in cc
