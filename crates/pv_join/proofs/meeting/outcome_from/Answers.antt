use Rattle.std.proofs.Common.{rules, subst}
use Rattle.pv_join.specs.Meetings.{IsMet}
use Rattle.pv_join.proofs.Meetings.{here_found}
use Rattle.pv_join.proofs.meeting.outcome_from.Goals as goal

pub returns-then-eq-clause-outcome : goal.returns-then-eq-clause-outcome
returns-then-eq-clause-outcome c =
    here_found c.args.walk.now c.in-Some.shape c.args.path c.outcome_here.result (subst (λ s. IsMet c.args.walk.now s c.args.path) c.in-Some.is c.requires.met) (search rules) c.outcome_here.ensures.outcome
