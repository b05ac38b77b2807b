use Rattle.pv_ctc.proofs.Inherited.{program_inherited}
use Rattle.pv_ctc.proofs.laws.sure_of_parts.Goals as goal

pub returns : goal.returns
returns c = λ n ss p b d o f i w e. program_inherited n ss o p f b d i w e
