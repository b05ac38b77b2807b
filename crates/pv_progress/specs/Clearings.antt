-- What is seen of a sink that wipes a line before it writes.
use Rattle.pv_progress.specs.declared.clearing.Clearing.{Clearing}

-- the sink within
abbrev pub sink_of : {K : Type 0} → Clearing K → K
sink_of s = s.sink
