use Rattle.std.proofs.Common.{length, ◌∙◌, ap, arith}
use Rattle.pv_tree.proofs.Wholes.{whole_kids}
use Rattle.pv_tree.proofs.Placing.{tree_remarked}
use Rattle.pv_tree.proofs.Growths.{whole_remarked}
use Rattle.pv_tree.proofs.growth.Growth.finish.Goals as goal

pub mark_all-requires-clause-kids : goal.mark_all-requires-clause-kids
mark_all-requires-clause-kids c = whole_kids _ _ _ _ c.self.invariant.whole

pub invariant_of-result : goal.invariant_of-result
invariant_of-result c = (
  whole_remarked c.self.inside.root c.self.inside.ends.items c.self.inside.nodes.items c.mark_all.new.nodes.items c.self.inside.counts c.self.invariant.whole c.mark_all.ensures.remarked,
  record { for_nodes = omega (arith, c.mark_all.new.nodes.small); for_ends = omega (arith, c.self.inside.ends.small); few = omega arith },
)

pub returns-clause-tree : goal.returns-clause-tree
returns-clause-tree c = tree_remarked (length c.self.inside.root) c.self.inside.ends.items c.self.inside.nodes.items c.mark_all.new.nodes.items c.mark_all.ensures.remarked 201 0 ∙ ap (λ g. g.tree) c.self.view_is
