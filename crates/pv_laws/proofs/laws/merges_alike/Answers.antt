use Rattle.pv_laws.proofs.Merges.{joins_alike, merges_end_alike, merges_are_taken_alike}
use Rattle.pv_laws.proofs.laws.merges_alike.Goals as goal

pub returns : goal.returns
returns c = record { joins = joins_alike; ends = merges_end_alike; taken = merges_are_taken_alike }
