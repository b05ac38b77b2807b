-- Rows that make a tree are that tree's rows.
use Rattle.std.proofs.Common.{◌≡◌, ◌+◌, Bool, true, false, List, [], ◌∷◌, ◌++◌, length, Some, refl, sym, ◌∙◌, ap, subst, inl, inr, arith, append_assoc, append-nil}
use Rattle.pv_interval.specs.Bounds.{Bounds}
use Rattle.pv_tree.specs.Trees.{Tree, leaf, removed, inner, small, cut, subtree, graft, settled}
use Rattle.pv_tree.specs.declared.outcome.Outcome.{Outcome}
use Rattle.pv_tree.specs.declared.outcome.Outcome.TheVariants.{Removed, Inner, Small, Cut}
use Rattle.pv_tree.proofs.TreeFacts.{settled_more}
use Rattle.pv_file.specs.Lines.{outcome_line}
use Rattle.pv_file.specs.Readings.{settled_count}
use Rattle.pv_keep.specs.declared.row.Row.{Row}
use Rattle.pv_keep.specs.Rows.{rows_below, rows_of, row_at, InPreorder, placed, all_placed, IsShuffle}
use Rattle.pv_keep.specs.Rebuilding.{Make, IsGoodRow}
use Rattle.pv_keep.proofs.RowOrder.{ordered_rows}
use Rattle.pv_keep.proofs.Shuffles.{shuffle_first, shuffle_second, shuffle_append, all_placed_shuffle}

pub make_more : (b : List Bounds) (s : Tree) (front : List Row) (t : Tree) (row : Row) (o : Outcome) → Make b s front t → IsGoodRow b t row o
    → Make b s (front ++ row ∷ []) (graft t row.path (settled o))
make_more b s [] t row o m g = (o, (subst (λ (u : Tree). IsGoodRow b u row o) m g, ap (λ (u : Tree). graft u row.path (settled o)) m))
make_more b s (x ∷ front) t row o m g = (m.0, (m.1.0, make_more b (graft s x.path (settled m.0)) front t row o m.1.1 g))

pub make_count : (b : List Bounds) (s : Tree) (rows : List Row) (t : Tree) → Make b s rows t → settled_count t ≡ settled_count s + length rows
make_count b s [] t m = let e : settled_count t ≡ settled_count s = ap settled_count m in omega (arith, e)
make_count b s (row ∷ rows) t m =
    let more : settled_count (graft s row.path (settled m.0)) ≡ settled_count s + 1 = settled_more s row.path m.0 m.1.0.is_leaf in
    let rest : settled_count t ≡ settled_count (graft s row.path (settled m.0)) + length rows = make_count b (graft s row.path (settled m.0)) rows t m.1.1 in
    omega (arith, more, rest)

-- ---- One more settled leaf is one more row

alone : (p : List Bool) (o : Outcome) → IsShuffle [] (row_at p o ∷ []) (rows_below p (settled o))
alone p Removed = inr ([], refl, (refl, refl))
alone p (Inner to) = inr ([], refl, (refl, refl))
alone p (Small to) = inr ([], refl, (refl, refl))
alone p (Cut to var at) = inr ([], refl, (refl, refl))

moved : (p : List Bool) (b : Bool) (q : List Bool) (o : Outcome) (xs zs : List Row) → IsShuffle xs (row_at ((p ++ b ∷ []) ++ q) o ∷ []) zs → IsShuffle xs (row_at (p ++ b ∷ q) o ∷ []) zs
moved p b q o xs zs s = subst (λ (r : List Bool). IsShuffle xs (row_at r o ∷ []) zs) (append_assoc p (b ∷ []) q) s

settled_shuffle : (p : List Bool) (t : Tree) (q : List Bool) (o : Outcome) → subtree t q ≡ Some leaf → IsShuffle (rows_below p t) (row_at (p ++ q) o ∷ []) (rows_below p (graft t q (settled o)))
settled_shuffle p leaf [] o h = subst (λ (r : List Bool). IsShuffle [] (row_at r o ∷ []) (rows_below p (settled o))) (sym (append-nil p)) (alone p o)
settled_shuffle p removed [] o h = cc
settled_shuffle p (inner to) [] o h = cc
settled_shuffle p (small to) [] o h = cc
settled_shuffle p (cut to var at low high) [] o h = cc
settled_shuffle p leaf (b ∷ q) o h = cc
settled_shuffle p removed (b ∷ q) o h = cc
settled_shuffle p (inner to) (b ∷ q) o h = cc
settled_shuffle p (small to) (b ∷ q) o h = cc
settled_shuffle p (cut to var at low high) (false ∷ q) o h =
    inl (
      _,
      refl,
      shuffle_append (rows_below (p ++ false ∷ []) low) (row_at (p ++ false ∷ q) o ∷ []) (rows_below (p ++ false ∷ []) (graft low q (settled o)))
          (rows_below (p ++ true ∷ []) high) [] (rows_below (p ++ true ∷ []) high)
          (moved p false q o _ _ (settled_shuffle (p ++ false ∷ []) low q o h)) (shuffle_first (rows_below (p ++ true ∷ []) high)),
    )
settled_shuffle p (cut to var at low high) (true ∷ q) o h =
    inl (
      _,
      refl,
      shuffle_append (rows_below (p ++ false ∷ []) low) [] (rows_below (p ++ false ∷ []) low)
          (rows_below (p ++ true ∷ []) high) (row_at (p ++ true ∷ q) o ∷ []) (rows_below (p ++ true ∷ []) (graft high q (settled o)))
          (shuffle_first (rows_below (p ++ false ∷ []) low)) (moved p true q o _ _ (settled_shuffle (p ++ true ∷ []) high q o h)),
    )

same_row : (row : Row) (o : Outcome) → row.line ≡ outcome_line o → row_at row.path o ≡ row
same_row row o e = λ i. record { path = row.path; line = sym e i }

placed_settled : (t : Tree) (row : Row) (o : Outcome) → subtree t row.path ≡ Some leaf → row.line ≡ outcome_line o → placed row (rows_of t) ≡ rows_of (graft t row.path (settled o))
placed_settled t row o h e =
    let s : IsShuffle (rows_of t) (row ∷ []) (rows_of (graft t row.path (settled o))) =
    subst (λ (r : Row). IsShuffle (rows_of t) (r ∷ []) (rows_of (graft t row.path (settled o)))) (same_row row o e) (settled_shuffle [] t row.path o h) in
    all_placed_shuffle (rows_of t) (row ∷ []) _ s (ordered_rows (graft t row.path (settled o)))

placed_made : (b : List Bounds) (s : Tree) (rows : List Row) (t : Tree) → Make b s rows t → all_placed (rows_of s) rows ≡ rows_of t
placed_made b s [] t m = ap rows_of (sym m)
placed_made b s (row ∷ rows) t m =
    ap (λ (xs : List Row). all_placed xs rows) (placed_settled s row m.0 m.1.0.is_leaf m.1.0.line) ∙ placed_made b (graft s row.path (settled m.0)) rows t m.1.1

pub made_rows : (b : List Bounds) (rows : List Row) (t : Tree) → Make b leaf rows t → InPreorder rows → rows ≡ rows_of t
made_rows b rows t m o = sym (all_placed_shuffle [] rows rows (shuffle_second rows) o) ∙ placed_made b leaf rows t m
