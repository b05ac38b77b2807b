use Rattle.std.proofs.Common.{◌≡◌}
use Rattle.pv_slope.specs.SlopeTable.{power_terms}
use Rattle.pv_slope.proofs.rows.power_factor.Given as goal

abbrev pub invariant-loop-k : goal.invariant-loop-k
invariant-loop-k l = record {
  sum : l.sum ≡ power_terms l.f l.c l.last l.k;
}
