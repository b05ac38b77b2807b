use Rattle.std.proofs.Common.{◌≡◌, ◌++◌, ◌∷◌, [], reverse, sym, ap, subst, ◌∙◌, rules}
use Rattle.pv_keep.specs.Rows.{AreDistinct, AreNew, all_placed}
use Rattle.pv_keep.proofs.Placing.{popped_last, new_placed}
use Rattle.pv_keep.proofs.kept_rows.place_all.Goals as goal

pub loop-row-preserved : goal.loop-row-preserved
loop-row-preserved c =
    let last : c.loop-row.more.items ≡ c.pop.new.self.items ++ c.in-Some.row ∷ [] = search rules in
    let next : reverse c.loop-row.more.items ≡ c.in-Some.row ∷ reverse c.pop.new.self.items = popped_last c.loop-row.more.items c.in-Some.row c.pop.new.self.items last in
    let distinct : AreDistinct (c.in-Some.row ∷ reverse c.pop.new.self.items) = subst AreDistinct next c.loop-row.invariant.distinct in
    let new : AreNew c.loop-row.rows.items (c.in-Some.row ∷ reverse c.pop.new.self.items) = subst (AreNew c.loop-row.rows.items) next c.loop-row.invariant.new in
    record {
      ordered = c.place.ensures.ordered;
      distinct = distinct.1;
      new = subst (λ xs. AreNew xs (reverse c.pop.new.self.items)) (sym c.place.ensures.placed)
          (new_placed c.in-Some.row c.loop-row.rows.items (reverse c.pop.new.self.items) distinct.0 new.1);
      room = search rules;
      placed = ap (λ xs. all_placed xs (reverse c.pop.new.self.items)) c.place.ensures.placed
          ∙ ap (λ ys. all_placed c.loop-row.rows.items ys) (sym next) ∙ c.loop-row.invariant.placed;
    }

pub place-requires-clause-new : goal.place-requires-clause-new
place-requires-clause-new c =
    let last : c.loop-row.more.items ≡ c.pop.new.self.items ++ c.in-Some.row ∷ [] = search rules in
    let next : reverse c.loop-row.more.items ≡ c.in-Some.row ∷ reverse c.pop.new.self.items = popped_last c.loop-row.more.items c.in-Some.row c.pop.new.self.items last in
    (subst (AreNew c.loop-row.rows.items) next c.loop-row.invariant.new).0
