use Rattle.std.proofs.Common.{◌≡◌, ℕ, ◌<◌, ◌≤◌, length}
use Rattle.pv_hc4.specs.Chain.{at}
use Rattle.pv_hc4.specs.Nodes.{node_at}
use Rattle.pv_slope.specs.Flat.{node_factor}
use Rattle.pv_slope.proofs.passes.factor_all.Given as goal

abbrev pub invariant-loop-at : goal.invariant-loop-at
invariant-loop-at l = record {
  within : length l.nodes ≤ length l.factors;
  done : (k : ℕ) → k < l.at → node_factor l.values l.centres (node_at l.nodes k) ≡ at l.factors k;
}
