use Rattle.pv_hc4.specs.Graphs.{sides_of}
use Rattle.pv_ctc.proofs.Noting.{judged_length}
use Rattle.pv_ctc.proofs.knowing.judge.Goals as goal

pub returns-clause-dims : goal.returns-clause-dims
returns-clause-dims c = judged_length c.judge_in.result (sides_of c.index.result.now) c.args.bx.now c.judge_in.new.bx c.judge_in.ensures.answer c.judge_in.ensures.unchanged
