use Rattle.pv_laws.proofs.JoinedShares.{shares_join, done_shares_are_whole}
use Rattle.pv_laws.proofs.laws.shares_join.Goals as goal

pub returns : goal.returns
returns c = record { joins = shares_join; whole = done_shares_are_whole }
