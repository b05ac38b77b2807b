use Rattle.std.proofs.Common.{◌≡◌, ◌∙◌, ap, sym, false, rules}
use Rattle.std.specs.Str.{bytes_eq}
use Rattle.std.proofs.lemmas.Bool.{false_from_ne_true, cond-false}
use Rattle.std.proofs.lemmas.Slice.Eq.{bytes_eq-Decides}
use Rattle.std.proofs.lemmas.Map.Text.{btree_map_updates_text}
use Rattle.pv_keep.specs.Shelves.{found}
use Rattle.pv_keep.specs.declared.mem_keeper.Shelf.{Shelf}
use Rattle.pv_keep.proofs.mem_keeper.add_rows.Goals as goal

pub returns-clause-others : goal.returns-clause-others
returns-clause-others c = λ other h.
    let shelf : Shelf = record { identity = c.in-Some.shelf.now.identity; rows = c.add.new.self } in
    let apart : bytes_eq c.args.name.now other ≡ false = false_from_ne_true _ (λ t. h (sym ((bytes_eq-Decides c.args.name.now other).0 t))) in
    let there = btree_map_updates_text c.args.name.now c.args.shelves.now (c.get_mut.follows.lender shelf) _ ((c.get_mut.follows.holds shelf).3 (search rules)) other in
    ap found (there ∙ cond-false _ _ _ apart)
