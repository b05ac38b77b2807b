use Rattle.pv_code.proofs.Sizing.{past, size-of}
use Rattle.pv_code.proofs.measure.Measure.leaf.Goals as goal

pub returns : goal.returns
returns c = λ args few. size-of _ args _ _ (past args 12 few) (c.of_parameter.ensures args few)
