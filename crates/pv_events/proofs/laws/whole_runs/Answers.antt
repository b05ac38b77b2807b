use Rattle.pv_events.proofs.Ends.{boards_can_end}
use Rattle.pv_events.proofs.Wholes.{over_runs_are_whole, runs_agree}
use Rattle.pv_events.proofs.laws.whole_runs.Goals as goal

pub returns : goal.returns
returns c = record { whole = over_runs_are_whole; can_end = boards_can_end; agree = runs_agree }
