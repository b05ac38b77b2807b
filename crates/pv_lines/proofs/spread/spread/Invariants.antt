use Rattle.std.proofs.Common.{◌≡◌, ◌+◌, ◌*◌, ◌≤◌, [], ◌∷◌, length, vec_capacity}
use Rattle.pv_tree.specs.Pieces.{root_piece}
use Rattle.pv_file.specs.Walks.{after_steps}
use Rattle.pv_lines.specs.Turns.{AreSpread}
use Rattle.pv_lines.proofs.spread.spread.Given as goal

abbrev pub invariant-loop-worker : goal.invariant-loop-worker
invariant-loop-worker l = record {
  count : length l.scribes.items + 1 ≡ l._worker;
  room : l.fn.workers ≤ vec_capacity l.scribes;
  stands : l.last.pending ≡ after_steps (l.fn.share * length l.scribes.items) (root_piece l.fn.p.root l.fn.p.tree ∷ []);
  spread : AreSpread l.fn.share (root_piece l.fn.p.root l.fn.p.tree ∷ []) l.scribes.items;
}
