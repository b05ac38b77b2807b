use Rattle.std.proofs.Common.{◌≡◌, take}
use Rattle.pv_board.specs.Absorbing.{filled, filling}
use Rattle.pv_board.proofs.absorbing.fill_all.Given as goal

abbrev pub invariant-loop-i : goal.invariant-loop-i
invariant-loop-i l = record {
  root : l.joined.root ≡ l.initial.joined.root;
  tree : l.joined.tree ≡ filled l.initial.joined.tree (filling l.stage.tree (take l.i l.free));
}
