use Rattle.std.proofs.Common.{◌≡◌, ◌<◌, ◌≤◌, ℕ, false, length, get_or, take}
use Rattle.std.specs.Prelude.{◌&&◌}
use Rattle.pv_ctc.specs.Contracting.{sides_in, side_at}
use Rattle.pv_ctc.specs.Revisions.{same_places}
use Rattle.pv_ctc.proofs.propagation.unmark.Given as goal

abbrev pub invariant-loop-i : goal.invariant-loop-i
invariant-loop-i l = record {
  end : l.i-end ≡ length l.graphs.graphs;
  done : (k : ℕ) → k < l.i → k < length (sides_in l.graphs) → get_or l.clean k false ≡ (get_or l.fn.clean k false && same_places 0 (side_at (sides_in l.graphs) k) (take (length l.bx) l.entry) l.bx);
  left : (k : ℕ) → l.i ≤ k → get_or l.clean k false ≡ get_or l.fn.clean k false;
}
