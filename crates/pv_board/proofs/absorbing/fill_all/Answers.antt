use Rattle.std.proofs.Common.{◌∙◌, refl}
use Rattle.pv_board.proofs.Filling.{fill_none, still_open, same_box, fill_more}
use Rattle.pv_board.proofs.absorbing.fill_all.Goals as goal

pub loop-i-init : goal.loop-i-init
loop-i-init c = record { root = refl; tree = fill_none c.args.stage.now.tree c.args.joined.now.tree c.args.free.now }

pub fill-requires-clause-open : goal.fill-requires-clause-open
fill-requires-clause-open c = still_open c.args.joined.now c.args.stage.now c.args.free.now c.requires c.loop-i.i c.index-free-i.result c.loop-i-test.true c.index-free-i.is c.loop-i.joined.tree c.loop-i.invariant.tree

pub fill-requires-clause-one_box : goal.fill-requires-clause-one_box
fill-requires-clause-one_box c = same_box c.args.joined.now c.args.stage.now c.args.free.now c.requires c.loop-i.i c.index-free-i.result c.loop-i-test.true c.index-free-i.is c.loop-i.joined c.loop-i.invariant.root c.loop-i.invariant.tree

pub loop-i-preserved : goal.loop-i-preserved
loop-i-preserved c = record {
  root = c.fill.ensures.root ∙ c.loop-i.invariant.root;
  tree = fill_more c.args.joined.now c.args.stage.now c.args.free.now c.requires c.loop-i.i c.index-free-i.result c.loop-i-test.true c.index-free-i.is c.loop-i.joined.tree c.fill.new.joined.tree c.loop-i.invariant.tree c.in_ok-fill.ensures.tree;
}
