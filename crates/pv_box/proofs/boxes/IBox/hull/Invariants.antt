use Rattle.std.proofs.Common.{◌≡◌, ℕ, ◌<◌, ◌≤◌, length, get_or}
use Rattle.pv_interval.specs.Bounds.{Bounds}
use Rattle.pv_interval.specs.Tables.{hull_of}
use Rattle.pv_box.proofs.boxes.IBox.hull.Given as goal

abbrev pub invariant-loop-i : goal.invariant-loop-i
invariant-loop-i l = record {
  dims : length l.self ≡ length l.fn.self;
  done : (k : ℕ) (d : Bounds) → k < l.i → get_or l.self k d ≡ hull_of (get_or l.fn.self k d) (get_or l.other k d);
  left : (k : ℕ) (d : Bounds) → l.i ≤ k → get_or l.self k d ≡ get_or l.fn.self k d;
}
