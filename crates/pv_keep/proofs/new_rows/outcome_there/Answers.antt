use Rattle.std.proofs.Common.{◌≡◌, ◌<◌, rules}
use Rattle.std.proofs.Math.Nat.{le_of_lt}
use Rattle.pv_tree.specs.Trees.{subtree, shape_of}
use Rattle.pv_tree.specs.declared.outcome.Shape.TheVariants as shape
use Rattle.pv_file.specs.declared.version.Version.TheVariants.{One}
use Rattle.pv_file.proofs.Lengths.{short_line, short_cut}
use Rattle.pv_join.proofs.Shapes.{inner_kept, small_kept, cut_kept, inner_is, small_is, cut_is, absent_is, open_is, removed_is}
use Rattle.pv_keep.proofs.Fresh.{cut_place}
use Rattle.pv_keep.proofs.new_rows.outcome_there.Goals as goal

pub kept_there-requires-clause-there : goal.kept_there-requires-clause-there
kept_there-requires-clause-there c = inner_kept c.args.paving.now.tree c.args.path (search rules)

pub kept_there-requires-in-Small-clause-there : goal.kept_there-requires-in-Small-clause-there
kept_there-requires-in-Small-clause-there c = small_kept c.args.paving.now.tree c.args.path (search rules)

pub kept_there-requires-in-Cut-clause-there : goal.kept_there-requires-in-Cut-clause-there
kept_there-requires-in-Cut-clause-there c = cut_kept c.args.paving.now.tree c.args.path c.in-Cut.var c.in-Cut.at (search rules)

pub returns-in-Absent-clause-outcome : goal.returns-in-Absent-clause-outcome
returns-in-Absent-clause-outcome c = absent_is c.args.paving.now.tree c.args.path (search rules)

pub returns-in-OpenLeaf-clause-outcome : goal.returns-in-OpenLeaf-clause-outcome
returns-in-OpenLeaf-clause-outcome c = open_is c.args.paving.now.tree c.args.path (search rules)

pub returns-in-Removed-clause-outcome : goal.returns-in-Removed-clause-outcome
returns-in-Removed-clause-outcome c = removed_is c.args.paving.now.tree c.args.path (search rules)

pub returns-in_ok-to-in-Inner-clause-outcome : goal.returns-in_ok-to-in-Inner-clause-outcome
returns-in_ok-to-in-Inner-clause-outcome c = inner_is c.args.paving.now.tree c.args.path c.in_ok-to-in-Inner.to (search rules) c.in_ok-to-in-Inner.ensures.is

pub returns-in_ok-to-in-Inner-clause-short : goal.returns-in_ok-to-in-Inner-clause-short
returns-in_ok-to-in-Inner-clause-short c =
    le_of_lt (short_line One c.args.paving.now.root c.in_ok-to-in-Inner.to 73 c.in_ok-to-in-Inner.ensures.numbers c.in_ok-to-in-Inner.ensures.few)

pub returns-in_ok-to-in-Small-clause-outcome : goal.returns-in_ok-to-in-Small-clause-outcome
returns-in_ok-to-in-Small-clause-outcome c = small_is c.args.paving.now.tree c.args.path c.in_ok-to-in-Small.to (search rules) c.in_ok-to-in-Small.ensures.is

pub returns-in_ok-to-in-Small-clause-short : goal.returns-in_ok-to-in-Small-clause-short
returns-in_ok-to-in-Small-clause-short c =
    le_of_lt (short_line One c.args.paving.now.root c.in_ok-to-in-Small.to 83 c.in_ok-to-in-Small.ensures.numbers c.in_ok-to-in-Small.ensures.few)

pub returns-in_ok-to-in-Cut-clause-outcome : goal.returns-in_ok-to-in-Cut-clause-outcome
returns-in_ok-to-in-Cut-clause-outcome c = cut_is c.args.paving.now.tree c.args.path c.in_ok-to-in-Cut.to c.in-Cut.var c.in-Cut.at (search rules) c.in_ok-to-in-Cut.ensures.is

pub returns-in_ok-to-in-Cut-clause-short : goal.returns-in_ok-to-in-Cut-clause-short
returns-in_ok-to-in-Cut-clause-short c =
    let cut : shape.Cut c.in-Cut.var c.in-Cut.at ≡ shape_of (subtree c.args.paving.now.tree c.args.path) = search rules in
    let few : c.in-Cut.var < 12 =
    cut_place c.args.paving.now.root c.args.paving.now.tree c.args.path c.in-Cut.var c.in-Cut.at c.in_ok-to-in-Cut.to c.dims-dims.ensures.paving.paves cut c.in_ok-to-in-Cut.ensures.is
    c.in_ok-to-in-Cut.ensures.few in
    le_of_lt (short_cut One c.args.paving.now.root c.in_ok-to-in-Cut.to c.in-Cut.var c.in-Cut.at c.in_ok-to-in-Cut.ensures.numbers
    c.in_ok-to-in-Cut.ensures.few few c.is_number.ensures)
