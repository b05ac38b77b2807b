-- The graphs of a system's constraints.
use Rattle.std.specs.Prelude.{◌≡◌, ℕ, ◌≤◌, List, length, All}
use Rattle.pv_hc4.specs.Graphs.{Parts}
use Rattle.pv_expr.specs.declared.system.TheConstants.{MOST_CONSTRAINTS}

pub record GraphList : Type 0 where
  pub graphs : List Parts
  pub dims : ℕ

-- 1 to 64 graphs over the same variables
pub record AreGraphs (g : GraphList) : Type 0 where
  pub some : 1 ≤ length g.graphs
  pub few : length g.graphs ≤ MOST_CONSTRAINTS
  pub same_dims : All (λ h. h.dims ≡ g.dims) g.graphs
