use Rattle.std.proofs.Common.{◌≡◌, length, rules}
use Rattle.std.specs.Prelude.{vec_len, vec_capacity}
use Rattle.pv_board.proofs.Filling.{can_pile, piled_more, piled_all}
use Rattle.pv_board.proofs.absorbing.leaves_below.Goals as goal

pub pile-requires : goal.pile-requires
pile-requires c =
    let size : vec_len c.loop-i.leaves ≡ length c.loop-i.leaves.items = search rules in
    can_pile c.args.paving.now.tree c.args.nodes.now c.args.room c.requires c.loop-i.i c.index-nodes-i.result c.loop-i-test.true c.index-nodes-i.is c.loop-i.leaves.items (vec_len c.loop-i.leaves) (vec_capacity c.loop-i.leaves)
    c.dims-places.ensures.paving.depth c.loop-i.invariant.leaves size c.loop-i.invariant.room

pub loop-i-preserved : goal.loop-i-preserved
loop-i-preserved c = record {
  leaves = piled_more c.args.paving.now.tree c.args.nodes.now c.args.room c.requires c.loop-i.i c.index-nodes-i.result c.loop-i-test.true c.index-nodes-i.is c.loop-i.leaves.items c.pile.new.free.items c.loop-i.invariant.leaves c.pile.ensures.piled;
  room = search rules;
}

pub returns-clause-leaves : goal.returns-clause-leaves
returns-clause-leaves c = piled_all c.args.paving.now.tree c.loop-i.leaves.items c.args.nodes.now c.loop-i.i c.loop-i-test.false c.loop-i.invariant.leaves
