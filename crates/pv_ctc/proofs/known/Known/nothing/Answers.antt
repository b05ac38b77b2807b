use Rattle.pv_ctc.proofs.Noting.{nothing_known}
use Rattle.pv_ctc.proofs.known.Known.nothing.Goals as goal

pub returns : goal.returns
returns c = λ ss b. nothing_known ss b (record { sure = c.none-none.result; clean = c.none-none.result }) c.none-none.ensures c.none-none.ensures
