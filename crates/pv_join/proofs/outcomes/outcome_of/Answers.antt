use Rattle.pv_join.proofs.Shapes.{inner_kept, small_kept, cut_kept, inner_is, small_is, cut_is, absent_is, open_is, removed_is}
use Rattle.pv_join.proofs.outcomes.outcome_of.Goals as goal

pub kept-requires : goal.kept-requires
kept-requires c = inner_kept c.args.paving.now.tree c.args.path c.in-Inner.ensures

pub kept-requires-in-Small : goal.kept-requires-in-Small
kept-requires-in-Small c = small_kept c.args.paving.now.tree c.args.path c.in-Small.ensures

pub kept-requires-in-Cut : goal.kept-requires-in-Cut
kept-requires-in-Cut c = cut_kept c.args.paving.now.tree c.args.path c.in-Cut.var c.in-Cut.at c.in-Cut.ensures

pub returns-in-Absent : goal.returns-in-Absent
returns-in-Absent c = absent_is c.args.paving.now.tree c.args.path c.in-Absent.ensures

pub returns-in-OpenLeaf : goal.returns-in-OpenLeaf
returns-in-OpenLeaf c = open_is c.args.paving.now.tree c.args.path c.in-OpenLeaf.ensures

pub returns-in-Removed : goal.returns-in-Removed
returns-in-Removed c = removed_is c.args.paving.now.tree c.args.path c.in-Removed.ensures

pub returns-in_ok-to-in-Inner : goal.returns-in_ok-to-in-Inner
returns-in_ok-to-in-Inner c = inner_is c.args.paving.now.tree c.args.path c.in_ok-to-in-Inner.to c.in-Inner.ensures c.in_ok-to-in-Inner.ensures

pub returns-in_ok-to-in-Small : goal.returns-in_ok-to-in-Small
returns-in_ok-to-in-Small c = small_is c.args.paving.now.tree c.args.path c.in_ok-to-in-Small.to c.in-Small.ensures c.in_ok-to-in-Small.ensures

pub returns-in_ok-to-in-Cut : goal.returns-in_ok-to-in-Cut
returns-in_ok-to-in-Cut c = cut_is c.args.paving.now.tree c.args.path c.in_ok-to-in-Cut.to c.in-Cut.var c.in-Cut.at c.in-Cut.ensures c.in_ok-to-in-Cut.ensures
