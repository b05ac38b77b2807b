use Rattle.std.proofs.Common.{◌≡◌, subst, sym, ◌∙◌, rules}
use Rattle.std.specs.Prelude.{insert}
use Rattle.pv_keep.specs.Rows.{IsSplit, InPreorder}
use Rattle.pv_keep.proofs.Placing.{split_placed, ordered_placed}
use Rattle.pv_keep.proofs.kept_rows.place.Goals as goal

pub returns-clause-placed : goal.returns-clause-placed
returns-clause-placed c =
    let split : IsSplit c.args.row.path c.args.rows.now.items c.place_of-at.result = search rules in
    let items : c.insert.new.self.items ≡ insert c.args.rows.now.items c.place_of-at.result c.args.row = search rules in
    items ∙ split_placed c.args.row c.args.rows.now.items c.place_of-at.result split c.requires.new

pub returns-clause-ordered : goal.returns-clause-ordered
returns-clause-ordered c =
    subst InPreorder (sym (returns-clause-placed c)) (ordered_placed c.args.row c.args.rows.now.items c.requires.ordered c.requires.new)
