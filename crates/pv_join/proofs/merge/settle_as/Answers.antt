use Rattle.std.proofs.Common.{sym, ◌∙◌}
use Rattle.pv_join.proofs.JoinFacts.{open_there}
use Rattle.pv_join.proofs.merge.settle_as.Goals as goal

pub put-requires-clause-open : goal.put-requires-clause-open
put-requires-clause-open c = open_there c.args.into.now.tree c.args.path c.requires.there (sym c.in_ok-outcome_of.ensures ∙ c.in-None.is)
