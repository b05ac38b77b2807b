use Rattle.std.proofs.Common.{◌≡◌, ◌≤◌, length}
use Rattle.std.specs.Prelude.{reverse, vec_len}
use Rattle.pv_tree.specs.KnownLeaves.{AreKnown}
use Rattle.pv_board.specs.Rules.{IsStageBelow, settled_in}
use Rattle.pv_tree.specs.Trees.{leaf}
use Rattle.pv_tree.specs.Stages.{full_of}
use Rattle.pv_workers.specs.Facts.{AreLaid}
use Rattle.pv_workers.proofs.stage.Stager.grow_on.Given as goal

abbrev pub invariant-loop-settled : goal.invariant-loop-settled
invariant-loop-settled g l = record {
  root : l.stage.growth.root ≡ l.fn.stage.growth.root;
  stage : IsStageBelow g.N.Naming.rule g.N.Naming.depth l.stage.growth.root (length l.self.at) l.stage.growth.tree;
  count : settled_in l.stage.growth.tree ≡ l.settled;
  facts : AreKnown (g.S.KnowingSettler.knows l.self.ruled.now.settler.now) (reverse l.workspace.facts.items) l.stage.growth.holes;
  few_facts : vec_len l.workspace.facts ≤ 17;
  laid : AreLaid (full_of g.N.Naming.rule g.N.Naming.depth l.stage.growth.root leaf (length l.self.at)) l.stage.growth;
  places : length l.workspace.scratch ≡ g.N.Naming.dims;
  at : l.stage.at ≡ l.self.at;
}
