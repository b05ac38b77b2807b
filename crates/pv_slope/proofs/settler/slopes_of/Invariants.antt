use Rattle.std.proofs.Common.{◌≡◌, length, take}
use Rattle.std.specs.Prelude.{IsTrue, map}
use Rattle.pv_hc4.specs.Graphs.{sides_named}
use Rattle.pv_slope.specs.Matching.{all_match}
use Rattle.pv_slope.proofs.settler.slopes_of.Given as goal

abbrev pub invariant-loop-i : goal.invariant-loop-i
invariant-loop-i l = record {
  end : l.i-end ≡ length l.system.constraints;
  dims : l.dims ≡ length l.system.names;
  so_far : IsTrue (all_match (length l.system.names) l.slopes.items (take l.i (map sides_named l.system.constraints)));
}
