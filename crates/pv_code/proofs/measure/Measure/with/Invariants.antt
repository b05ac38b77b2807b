use Rattle.std.proofs.Common.{◌≡◌, ℕ, ◌<◌, length, get_or}
use Rattle.pv_code.specs.Sizes.{beside, nowhere, within}
use Rattle.pv_code.proofs.measure.Measure.with.Given as goal

abbrev pub invariant-loop-i : goal.invariant-loop-i
invariant-loop-i l = record {
  whole : length l.places ≡ 13;
  so_far : (k : ℕ) → k < l.i → get_or l.places k nowhere ≡ beside (get_or l.self.places k nowhere) (within (get_or l.other.places k nowhere) l.at);
}
