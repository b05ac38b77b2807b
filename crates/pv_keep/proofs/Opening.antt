-- What an opening found and left, from what its calls found and left.
use Rattle.std.specs.Prelude.{Result, Ok, Err, Option, Some, None}
use Rattle.pv_tree.specs.Stages.{Grows}
use Rattle.pv_tree.specs.Trees.{removed, inner, small, cut}
use Rattle.pv_join.specs.Joins.{IsJoin, settled_side}
use Rattle.pv_join.proofs.JoinFacts.{side_left}
use Rattle.pv_tree.specs.Trees.{outcome_at}
use Rattle.pv_tree.specs.declared.outcome.Outcome.{Outcome}
use Rattle.std.proofs.Common.{◌≡◌, Bool, true, false, length-append, ℕ, ◌+◌, List, [], ◌∷◌, ◌++◌, length, refl, sym, ◌∙◌, ap, subst, inl, inr, arith}
use Rattle.pv_interval.specs.Bounds.{Bounds}
use Rattle.pv_tree.specs.Trees.{Tree, leaf}
use Rattle.pv_file.specs.Readings.{settled_count}
use Rattle.pv_keep.specs.declared.row.Row.{Row}
use Rattle.pv_keep.specs.Rows.{rows_of, rows_below, InPreorder, IsShuffle}
use Rattle.pv_keep.specs.Keeping.{Kept, untold, absent, holds, IsBegun, IsOrdered, AreAll, MayBeThere, MayBeNew, with_rows}
use Rattle.pv_keep.specs.Rebuilding.{IsFirstBad}
use Rattle.pv_keep.specs.Campaigns.{IsLeft, HasBadRow, KeepsTree, IsSaved}
use Rattle.pv_keep.proofs.RowOrder.{ordered_rows}
use Rattle.pv_keep.proofs.Shuffles.{all_placed_shuffle, second_new}

pub there_now : (k0 k1 : Kept) (identity : List ℕ) → IsBegun k0 k1 identity → MayBeThere k1
there_now untold k1 identity b = subst MayBeThere (sym b) tt
there_now absent k1 identity b = subst MayBeThere (sym b) tt
there_now (holds kept rows) k1 identity b = subst MayBeThere (sym b.1) tt

none_bad : (b : List Bounds) (n : ℕ) → IsFirstBad b [] n → ⊥
none_bad b n f = no_middle f.front f.row f.rest f.are
  where
    no_middle : (front : List Row) (row : Row) (rest : List Row) → [] ≡ front ++ row ∷ rest → ⊥
    no_middle [] row rest e = cc
    no_middle (x ∷ front) row rest e = cc

pub bad_row_now : (limit : ℕ) (k0 k1 : Kept) (identity : List ℕ) (b : List Bounds) (rows : List Row) (n : ℕ) → IsBegun k0 k1 identity → AreAll k1 limit rows → IsOrdered k1
    → (InPreorder rows → IsFirstBad b rows n) → HasBadRow limit k0 identity b n
bad_row_now limit untold k1 identity b rows n begun all ordered bad = tt
bad_row_now limit absent k1 identity b rows n begun all ordered bad =
    let none : AreAll (holds identity []) limit rows = subst (λ (k : Kept). AreAll k limit rows) begun all in
    let f : IsFirstBad b rows n = bad (subst InPreorder (sym none.0) tt) in
    none_bad b n (subst (λ (xs : List Row). IsFirstBad b xs n) none.0 f)
bad_row_now limit (holds kept kept_rows) k1 identity b rows n begun all ordered bad =
    let known : AreAll (holds kept kept_rows) limit rows = subst (λ (k : Kept). AreAll k limit rows) begun.1 all in
    let in_order : InPreorder kept_rows = subst IsOrdered begun.1 ordered in
    let f : IsFirstBad b rows n = bad (subst InPreorder (sym known.0) in_order) in
    (begun.0, (known.1, subst (λ (xs : List Row). IsFirstBad b xs n) known.0 f))

pub left_alone : (k0 k1 : Kept) (identity : List ℕ) → k1 ≡ k0 → IsLeft k0 k1 identity
left_alone untold k1 identity e = e
left_alone absent k1 identity e = inl e
left_alone (holds kept rows) k1 identity e = e

-- ---- Saving

pub new_now : (k : Kept) (t u : Tree) (rows : List Row) → KeepsTree k t → IsShuffle (rows_of t) rows (rows_of u) → MayBeNew k rows
new_now untold t u rows h s = tt
new_now absent t u rows h s = tt
new_now (holds identity kept) t u rows h s = second_new kept rows (rows_of u) (subst (λ (xs : List Row). IsShuffle xs rows (rows_of u)) (sym h) s) (ordered_rows u)

pub saved_now : (k0 k1 : Kept) (t u : Tree) (rows : List Row) → KeepsTree k0 t → IsShuffle (rows_of t) rows (rows_of u) → k1 ≡ with_rows k0 rows → IsSaved k0 k1 u
saved_now untold k1 t u rows h s e = e
saved_now absent k1 t u rows h s e = absurd h
saved_now (holds identity kept) k1 t u rows h s e =
    let all : IsShuffle kept rows (rows_of u) = subst (λ (xs : List Row). IsShuffle xs rows (rows_of u)) (sym h) s in
    e ∙ ap (holds identity) (all_placed_shuffle kept rows (rows_of u) all (ordered_rows u))

pub joined_grows : (a b t : Tree) → IsJoin a b t → Grows a t
joined_grows a b t j = λ p o e. j.takes p ∙ side_left _ _ o e

side : (s t : Tree) (p : List Bool) (o : Option Outcome) → Grows s t → outcome_at s p ≡ o → outcome_at t p ≡ settled_side o (outcome_at t p)
side s t p None h e = refl
side s t p (Some o) h e = h p o e

agree : (s t : Tree) → Grows s t → (p : List Bool) (o u : Outcome) → outcome_at s p ≡ Some o → outcome_at t p ≡ Some u → o ≡ u
agree s t h p o u e f = let same : Some o ≡ Some u = sym (h p o e) ∙ f in cc

-- what a tree grew to is its join with it
pub grown_join : (s t : Tree) → Grows s t → IsJoin s t t
grown_join s t h = record { agree = agree s t h; takes = λ p. side s t p (outcome_at s p) h refl }

abbrev error_or : {T E : Type 0} → E → Result T E → E
error_or d (Ok t) = d
error_or d (Err e) = e

pub same_refusal : {T E : Type 0} (a b : E) → ◌≡◌ {A = Result T E} (Err a) (Err b) → a ≡ b
same_refusal a b e = ap (error_or a) e

-- ---- So many rows as settled nodes

row_count : (p : List Bool) (t : Tree) → length (rows_below p t) ≡ settled_count t
row_count p leaf = refl
row_count p removed = refl
row_count p (inner to) = refl
row_count p (small to) = refl
row_count p (cut to var at low high) =
    omega (arith, length-append (rows_below (p ++ false ∷ []) low) (rows_below (p ++ true ∷ []) high), row_count (p ++ false ∷ []) low, row_count (p ++ true ∷ []) high)

shuffle_count : (xs ys zs : List Row) → IsShuffle xs ys zs → length zs ≡ length xs + length ys
shuffle_count xs ys [] s = let e : length xs ≡ 0 = ap length s.0 in let f : length ys ≡ 0 = ap length s.1 in omega (arith, e, f)
shuffle_count xs ys (z ∷ zs) (inl s) = let e : length xs ≡ length (z ∷ s.0) = ap length s.1 in omega (arith, e, shuffle_count s.0 ys zs s.2)
shuffle_count xs ys (z ∷ zs) (inr s) = let e : length ys ≡ length (z ∷ s.0) = ap length s.1 in omega (arith, e, shuffle_count xs s.0 zs s.2)

pub new_count : (s u : Tree) (rows : List Row) → IsShuffle (rows_of s) rows (rows_of u) → settled_count u ≡ settled_count s + length rows
new_count s u rows h = omega (arith, shuffle_count (rows_of s) rows (rows_of u) h, row_count [] s, row_count [] u)
