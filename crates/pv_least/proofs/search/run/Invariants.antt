use Rattle.std.proofs.Common.{◌≡◌, [], length}
use Rattle.std.specs.Prelude.{reverse}
use Rattle.pv_tree.specs.KnownLeaves.{AreKnown}
use Rattle.pv_least.specs.Objectives.{aim_of}
use Rattle.pv_least.specs.Running.{IsSearch, steps_left}
use Rattle.pv_least.proofs.search.run.Given as goal

abbrev pub invariant-loop-path : goal.invariant-loop-path
invariant-loop-path g l = record {
  at : l.search.grower.at ≡ [];
  root : l.search.grower.growth.root ≡ l.root;
  scratch : length l.search.workspace.scratch ≡ length l.root;
  probe : length l.search.room.probe ≡ length l.root;
  search : IsSearch (g.S.Settler.settle_of l.settler) (g.S.Settler.depth_of l.settler) (aim_of l.objective) l.root l.budget l.search.grower.growth l.search.found;
  facts : AreKnown (g.S.KnowingSettler.knows l.settler) (reverse l.search.workspace.facts.items) l.search.grower.growth.holes;
}

abbrev pub decreases-loop-path : goal.decreases-loop-path
decreases-loop-path g l = steps_left l.budget l.search.grower.growth l.search.found
