use Rattle.std.proofs.Common.{◌≡◌, ◌+◌, [], length}
use Rattle.std.specs.Prelude.{reverse}
use Rattle.pv_tree.specs.KnownLeaves.{AreKnown}
use Rattle.pv_tree.specs.Trees.{Tree, Paves}
use Rattle.pv_tree.specs.Stages.{IsStage}
use Rattle.pv_board.specs.Rules.{settled_in}
use Rattle.pv_workers.specs.Leaves.{AreOpen}
use Rattle.pv_workers.proofs.growing.grow_all.Given as goal

abbrev pub invariant-loop-settled : goal.invariant-loop-settled
invariant-loop-settled g l = record {
  root : l.grower.growth.root ≡ l.fn.grower.growth.root;
  scratch : length l.workspace.scratch ≡ length l.fn.workspace.scratch;
  facts : AreKnown (g.S.KnowingSettler.knows l.settler) (reverse l.workspace.facts.items) l.grower.growth.holes;
  at : l.grower.at ≡ [];
  leaves : AreOpen l.grower.growth;
  stage : (opening : Tree) → Paves l.fn.grower.growth.root opening → IsStage (g.S.Settler.settle_of l.settler) (g.S.Settler.depth_of l.settler) l.fn.grower.growth.root opening l.fn.grower.growth.tree
      → IsStage (g.S.Settler.settle_of l.settler) (g.S.Settler.depth_of l.settler) l.grower.growth.root opening l.grower.growth.tree;
  count : settled_in l.grower.growth.tree ≡ settled_in l.fn.grower.growth.tree + l.settled;
}
