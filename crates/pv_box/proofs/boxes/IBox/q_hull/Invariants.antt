use Rattle.std.proofs.Common.{◌≡◌, ℕ, ◌<◌, length, get_or, []}
use Rattle.std.specs.Prelude.{Some}
use Rattle.pv_interval.specs.Bounds.{Bounds}
use Rattle.pv_box.specs.QHull.{place_hull_of, column}
use Rattle.pv_box.proofs.boxes.IBox.q_hull.Given as goal

abbrev pub invariant-loop-i : goal.invariant-loop-i
invariant-loop-i l = record {
  dims : length l.hull ≡ length (get_or l.boxes 0 []);
  done : (k : ℕ) (d : Bounds) → k < l.i → place_hull_of l.q (column k l.boxes) ≡ Some (get_or l.hull k d);
}
