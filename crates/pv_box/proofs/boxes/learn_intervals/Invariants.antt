use Rattle.std.proofs.Common.{ℕ, ◌<◌, get_or}
use Rattle.pv_interval.specs.Bounds.{Bounds, IsInterval}
use Rattle.pv_box.proofs.boxes.learn_intervals.Given as goal

abbrev pub invariant-loop-part : goal.invariant-loop-part
invariant-loop-part l = (k : ℕ) (d : Bounds) → k < l.part-index → IsInterval (get_or l.parts k d)
