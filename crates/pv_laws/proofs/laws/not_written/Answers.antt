use Rattle.pv_laws.proofs.StatusLaws.{write_fault_is_unwritten}
use Rattle.pv_laws.proofs.laws.not_written.Goals as goal

pub returns : goal.returns
returns c = write_fault_is_unwritten
