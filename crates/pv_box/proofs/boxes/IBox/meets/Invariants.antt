use Rattle.std.proofs.Common.{ℕ, ◌<◌, get_or}
use Rattle.std.specs.Prelude.{IsSome}
use Rattle.pv_interval.specs.Bounds.{Bounds}
use Rattle.pv_interval.specs.Tables.{meet_of}
use Rattle.pv_box.proofs.boxes.IBox.meets.Given as goal

abbrev pub invariant-loop-i : goal.invariant-loop-i
invariant-loop-i l = (k : ℕ) (d : Bounds) → k < l.i → IsSome (meet_of (get_or l.self k d) (get_or l.other k d))
