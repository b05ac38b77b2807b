use Rattle.pv_laws.proofs.SampleLaws.{sample_is_taken}
use Rattle.pv_laws.proofs.laws.samples.Goals as goal

pub returns : goal.returns
returns c = sample_is_taken
