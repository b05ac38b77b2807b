use Rattle.std.proofs.Common.{◌≡◌, ◌<◌, length, take, drop}
use Rattle.pv_tree.specs.Arena.{reach}
use Rattle.pv_tree.proofs.arena.descend.Given as goal

abbrev pub invariant-loop-i : goal.invariant-loop-i
invariant-loop-i l = record {
  there : l.at < length l.nodes;
  rest : reach l.nodes l.at (drop l.i (take l.steps l.path)) ≡ reach l.nodes 0 (take l.steps l.path);
}
