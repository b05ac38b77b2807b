use Rattle.std.proofs.Common.{◌≡◌, ◌<◌, length, ℕ, get_or}
use Rattle.pv_interval.specs.Bounds.{Bounds}
use Rattle.pv_least.proofs.Places.{spot}
use Rattle.pv_least.proofs.candidate.Candidate.write.Given as goal

abbrev pub invariant-loop-i : goal.invariant-loop-i
invariant-loop-i l = record {
  size : length l.probe ≡ length l.to;
  done : (k : ℕ) (d : Bounds) → k < l.i → get_or l.probe k d ≡ spot l.self (get_or l.to k d);
}
