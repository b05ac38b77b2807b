use Rattle.std.proofs.Common.{◌≡◌, length}
use Rattle.std.specs.Prelude.{reverse}
use Rattle.pv_tree.specs.KnownLeaves.{AreKnown}
use Rattle.pv_scope.specs.Parts.{AreToCome}
use Rattle.pv_scope.proofs.part.next_short.Given as goal

abbrev pub invariant-loop-path : goal.invariant-loop-path
invariant-loop-path g l = record {
  at : l.grower.at ≡ l.fn.grower.at;
  root : l.grower.growth.root ≡ l.fn.grower.growth.root;
  tree : l.grower.growth.tree ≡ l.fn.grower.growth.tree;
  to_come : AreToCome l.reach.steps (length l.reach.at) l.grower.growth;
  facts : AreKnown (g.S.KnowingSettler.knows l._settler) (reverse l.workspace.facts.items) l.grower.growth.holes;
  scratch : l.workspace.scratch ≡ l.fn.workspace.scratch;
}

abbrev pub decreases-loop-path : goal.decreases-loop-path
decreases-loop-path g l = length l.grower.growth.holes
