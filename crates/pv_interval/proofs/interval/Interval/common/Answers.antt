use Rattle.pv_interval.proofs.Cases.{meet_some, meet_none}
use Rattle.pv_interval.proofs.interval.Interval.common.Goals as goal

pub returns-then-le : goal.returns-then-le
returns-then-le c = let e = meet_some c.args.self c.args.other (cc) in cc

pub returns : goal.returns
returns c = let e = meet_none c.args.self c.args.other (cc) in cc
