use Rattle.std.proofs.Common.{◌≡◌, ℕ, ◌<◌, ◌≤◌, length}
use Rattle.pv_hc4.specs.Nodes.{terms, term_at}
use Rattle.pv_slope.specs.Moving.{seen}
use Rattle.pv_slope.specs.SlopeTable.{slope_of}
use Rattle.pv_slope.proofs.passes.slope_all.Given as goal

abbrev pub invariant-loop-at : goal.invariant-loop-at
invariant-loop-at l = record {
  moving_in : length l.on.nodes.now ≤ length l.moving;
  slopes_in : length l.on.nodes.now ≤ length l.slopes;
  done : (k : ℕ) → k < l.at → slope_of l.on.bx.now l.i (term_at (terms l.on.nodes.now) k) ≡ seen l.moving l.slopes k;
}
