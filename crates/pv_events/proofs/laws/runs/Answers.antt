use Rattle.pv_events.proofs.Once.{settled_once}
use Rattle.pv_events.proofs.Runs.{runs_are_right, opened_runs_are_right}
use Rattle.pv_events.proofs.laws.runs.Goals as goal

pub returns : goal.returns
returns c = record { right = runs_are_right; once = settled_once; opened = opened_runs_are_right }
