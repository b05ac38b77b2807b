use Rattle.std.proofs.Common.{◌≡◌, ℕ, ◌<◌, length, true, false}
use Rattle.pv_hc4.specs.MarkSets.{is_marked}
use Rattle.pv_ctc.specs.Contracting.{sides_in, side_at}
use Rattle.pv_ctc.specs.Uses.{has_variable}
use Rattle.pv_ctc.proofs.known.spared.Given as goal

abbrev pub invariant-loop-v : goal.invariant-loop-v
invariant-loop-v l = record {
  kept : (k : ℕ) → is_marked l.left k ≡ true → is_marked l.fn.clean k ≡ true;
  spared : (k w : ℕ) → k < length (sides_in l.graphs) → w < l.v → is_marked l.left k ≡ true → is_marked l.changed w ≡ true → has_variable w (side_at (sides_in l.graphs) k) ≡ false;
}
