use Rattle.std.proofs.Common.{ap, ◌∙◌, arith}
use Rattle.pv_tree.specs.Trees.{settled_of}
use Rattle.test_sample.proofs.Heights.{height_few}
use Rattle.test_trees.proofs.sample.graft_short.Goals as goal

pub graft-requires-clause-depth : goal.graft-requires-clause-depth
graft-requires-clause-depth c =
    let h = height_few c.args.stage.now.tree in
    let s = c.settled-settled.ensures ∙ ap settled_of c.counts.ensures.counts in
    omega (arith, h, s, c.if-settled-gt100.false, c.if-len-gt100.false, c.len.ensures.count)
