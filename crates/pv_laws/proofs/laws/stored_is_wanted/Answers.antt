use Rattle.pv_laws.proofs.Stored.{stored_is_wanted, wanted_are_stages, wanted_is_taken, written_is_wanted}
use Rattle.pv_laws.proofs.laws.stored_is_wanted.Goals as goal

pub returns : goal.returns
returns c = record { stored = stored_is_wanted; stages = wanted_are_stages; taken = wanted_is_taken; written = written_is_wanted }
