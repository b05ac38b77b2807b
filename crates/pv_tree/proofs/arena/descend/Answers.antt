use Rattle.std.proofs.Common.{◌+◌, length, take, drop, sym, ap, ◌∙◌}
use Rattle.pv_tree.specs.Arena.{reach, side}
use Rattle.pv_tree.proofs.Walks.{descend_stop, descend_step, side_there}
use Rattle.pv_tree.proofs.arena.descend.Goals as goal

pub returns-in-None-clause-reached : goal.returns-in-None-clause-reached
returns-in-None-clause-reached c =
    descend_stop c.args.nodes.now c.loop-i.at c.args.steps c.loop-i.i c.args.path c.requires.within c.loop-i-test.true c.loop-i.invariant.rest (sym c.in-None.ensures.kids)

pub loop-i-preserved : goal.loop-i-preserved
loop-i-preserved c =
    let e = c.child-at.ensures ∙ ap (λ b. side b c.in-Some.kids) c.step.ensures in
    record {
      there = rw c.child-at.ensures (side_there c.step.result c.in-Some.kids (length c.args.nodes.now) c.in-Some.ensures.there);
      rest = ap (λ n. reach c.args.nodes.now n (drop (c.loop-i.i + 1) (take c.args.steps c.args.path))) e
          ∙ descend_step c.args.nodes.now c.loop-i.at c.args.steps c.loop-i.i c.args.path c.requires.within c.loop-i-test.true c.loop-i.invariant.rest c.in-Some.kids (sym c.in-Some.ensures.kids);
    }
