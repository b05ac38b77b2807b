use Rattle.std.proofs.Common.{◌≡◌, ℕ, ◌<◌, ◌≤◌, length}
use Rattle.pv_interval.specs.Subsets.{IsSubset}
use Rattle.pv_hc4.specs.Chain.{at}
use Rattle.pv_hc4.specs.Nodes.{terms, term_at}
use Rattle.pv_slope.specs.Centres.{at_centre}
use Rattle.pv_slope.proofs.centre.centre_all.Given as goal

abbrev pub invariant-loop-at : goal.invariant-loop-at
invariant-loop-at l = record {
  within : length l.nodes ≤ length l.centres;
  done : (k : ℕ) → k < l.at → at_centre l.bx (term_at (terms l.nodes) k) ≡ at l.centres k;
  inside : (k : ℕ) → k < l.at → IsSubset (at l.centres k) (at l.values k);
}
