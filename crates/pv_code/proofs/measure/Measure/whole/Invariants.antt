use Rattle.std.proofs.Common.{◌≡◌, []}
use Rattle.pv_code.specs.Sizes.{cut, depth_in, nodes_in}
use Rattle.pv_code.proofs.measure.Measure.whole.Given as goal

abbrev pub invariant-loop-place : goal.invariant-loop-place
invariant-loop-place l = record {
  nodes : cut l.all.uses ≡ cut (nodes_in l.place-index l.self.places []);
  depth : cut l.all.reach ≡ cut (depth_in l.place-index l.self.places []);
}
