use Rattle.std.proofs.Common.{rules}
use Rattle.std.specs.Prelude.{IsSome}
use Rattle.pv_tree.specs.Trees.{subtree}
use Rattle.pv_board.proofs.Filling.{absent_part, overlaid_leaf, leaf_refusal}
use Rattle.pv_board.proofs.absorbing.fill.Goals as goal

pub returns-then-is_absent-clause-tree : goal.returns-then-is_absent-clause-tree
returns-then-is_absent-clause-tree c = absent_part c.args.joined.now.tree c.args.stage.now.tree c.args.path c.shape_at.result c.shape_at.ensures (search rules) c.requires.open

pub unreachable-requires : goal.unreachable-requires
unreachable-requires c =
    let there : IsSome (subtree c.args.stage.now.tree c.args.path) = search rules in
    leaf_refusal c.args.joined.now.tree c.args.stage.now.tree c.args.path c.in-Err-Disagree.field-0-0 c.in-Err-Disagree.field-0 c.requires.open there c.in-Err-Disagree.field-0-is c.in-Err-Disagree.ensures.refusal

pub returns-in-Ok-clause-tree : goal.returns-in-Ok-clause-tree
returns-in-Ok-clause-tree c =
    let there : IsSome (subtree c.args.stage.now.tree c.args.path) = search rules in
    overlaid_leaf c.args.joined.now.tree c.args.stage.now.tree c.overlay.new.into.tree c.args.path c.requires.open there c.in-Ok.ensures.ok
