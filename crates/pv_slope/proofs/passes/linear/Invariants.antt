use Rattle.std.proofs.Common.{◌≡◌, ◌≤◌, length}
use Rattle.pv_hc4.specs.Nodes.{terms, term_at}
use Rattle.pv_slope.specs.Centered.{linear_of}
use Rattle.pv_slope.proofs.passes.linear.Given as goal

abbrev pub invariant-loop-i : goal.invariant-loop-i
invariant-loop-i l = record {
  end : l.i-end ≡ length l.on.bx.now;
  moving_in : length l.on.nodes.now ≤ length l.moving;
  slopes_in : length l.on.nodes.now ≤ length l.slopes;
  sum : l.sum ≡ linear_of l.on.bx.now (term_at (terms l.on.nodes.now) l.root) l.i;
}
