use Rattle.pv_hc4.specs.Graphs.{sides_of}
use Rattle.pv_ctc.proofs.Lengths.{result_length}
use Rattle.pv_ctc.proofs.propagation.revise.Goals as goal

pub returns-clause-dims : goal.returns-clause-dims
returns-clause-dims g c = result_length c.revise_in.result (sides_of c.index.result.now) c.args.bx.now c.revise_in.new.bx c.revise_in.ensures.answer c.revise_in.ensures.unchanged
