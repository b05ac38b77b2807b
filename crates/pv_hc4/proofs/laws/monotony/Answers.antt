use Rattle.pv_hc4.proofs.Inherited.{forward-contained, total-inherited, sure-inherited}
use Rattle.pv_hc4.proofs.laws.monotony.Goals as goal

pub returns : goal.returns
returns c = record {
  forward = λ n t b d o h k. forward-contained n t b d o h.intervals k;
  total = λ n t b d o h k e. total-inherited n t b d o h.intervals k e;
  sure = λ n s b d o h k e. sure-inherited n s b d o.0 o.1 h.intervals k e;
}
