use Rattle.pv_file.proofs.Different.{texts-differ, one-identity}
use Rattle.pv_file.proofs.laws.different_texts.Goals as goal

pub returns : goal.returns
returns c = record { pavings = texts-differ; identity = one-identity }
