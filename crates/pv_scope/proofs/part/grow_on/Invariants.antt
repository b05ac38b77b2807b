use Rattle.std.proofs.Common.{◌≡◌, length}
use Rattle.std.specs.Prelude.{reverse}
use Rattle.pv_tree.specs.KnownLeaves.{AreKnown}
use Rattle.pv_board.specs.Rules.{IsStageBelow, settled_in}
use Rattle.pv_scope.specs.Parts.{AreToCome, AreShort}
use Rattle.pv_scope.proofs.part.grow_on.Given as goal

abbrev pub invariant-loop-settled : goal.invariant-loop-settled
invariant-loop-settled g l = record {
  at : l.grower.at ≡ l.reach.at;
  root : l.grower.growth.root ≡ l.fn.grower.growth.root;
  stage : IsStageBelow (g.S.Settler.settle_of l.settler) (g.S.Settler.depth_of l.settler) l.grower.growth.root (length l.reach.at) l.grower.growth.tree;
  count : settled_in l.grower.growth.tree ≡ l.settled;
  to_come : AreToCome l.reach.steps (length l.reach.at) l.grower.growth;
  short : AreShort l.reach.steps (length l.reach.at) l.grower.growth.tree;
  facts : AreKnown (g.S.KnowingSettler.knows l.settler) (reverse l.workspace.facts.items) l.grower.growth.holes;
  scratch : length l.workspace.scratch ≡ g.S.Settler.dims l.settler;
}
