use Rattle.std.proofs.Common.{◌∙◌, ap}
use Rattle.pv_io.proofs.Pieces.{sent_more, keeps_append}
use Rattle.pv_io.proofs.real_sink.takes_all.Goals as goal
use Rattle.pv_io.proofs.real_sink.takes_all.Goals.{in-Ok, in-Err}

pub loop-preserved : goal.loop-preserved
loop-preserved g c = elim c.match-write.branch [
  | in-Ok w ↦ sent_more _ _ _ _ _ _ _ _ c.loop.invariant.1 c.loop.invariant.2 w.in-Ok.ensures.bytes (ap (λ r. r.now) w.rest-is ∙ w.behind-rest.ensures)
  | in-Err w ↦ (c.loop.invariant.0, ap (λ r. r.now) w.rest-is ∙ c.loop.invariant.1, keeps_append _ _ _ _ c.loop.invariant.2 w.in-Err.ensures.bytes)
]
