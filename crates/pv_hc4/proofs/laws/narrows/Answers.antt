use Rattle.pv_hc4.proofs.Within.{revised-within, revised-box}
use Rattle.pv_hc4.proofs.Whole.{sure-keeps}
use Rattle.pv_hc4.proofs.laws.narrows.Goals as goal

pub returns : goal.returns
returns c = record { within = revised-within; boxes = λ s n b d o h e. revised-box s n b d o.0 o.1 h e; sure = λ s n b o h e. sure-keeps s n b o.0 o.1 h.intervals e }
