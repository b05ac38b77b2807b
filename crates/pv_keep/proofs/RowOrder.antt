-- The rows of a tree stand in preorder.
use Rattle.std.proofs.Common.{Bool, true, false, List, [], ◌∷◌, ◌++◌, sym, subst, append-nil}
use Rattle.std.specs.Prelude.{IsTrue}
use Rattle.pv_tree.specs.Trees.{Tree, leaf, removed, inner, small, cut, precedes}
use Rattle.pv_keep.specs.declared.row.Row.{Row}
use Rattle.pv_keep.specs.Rows.{rows_below, rows_of, AllBehind, InPreorder}
use Rattle.pv_keep.proofs.Orders.{precedes_past}
use Rattle.pv_join.proofs.AuditFacts.{step_past}

pub behind_append : (p : List Bool) (xs ys : List Row) → AllBehind p xs → AllBehind p ys → AllBehind p (xs ++ ys)
behind_append p [] ys h k = k
behind_append p (x ∷ xs) ys h k = (h.0, behind_append p xs ys h.1 k)

at_once : (q p : List Bool) → ((u : List Bool) → IsTrue (precedes q (p ++ u))) → IsTrue (precedes q p)
at_once q p h = subst (λ (r : List Bool). IsTrue (precedes q r)) (append-nil p) (h [])

further : (q p : List Bool) (c : Bool) → ((u : List Bool) → IsTrue (precedes q (p ++ u))) → (u : List Bool) → IsTrue (precedes q ((p ++ c ∷ []) ++ u))
further q p c h u = subst (λ (r : List Bool). IsTrue (precedes q r)) (sym (step_past p c u)) (h (c ∷ u))

-- A path that stands before all that a path leads to stands before the rows there.
pub behind_below : (q p : List Bool) (t : Tree) → ((u : List Bool) → IsTrue (precedes q (p ++ u))) → AllBehind q (rows_below p t)
behind_below q p leaf h = tt
behind_below q p removed h = (at_once q p h, tt)
behind_below q p (inner to) h = (at_once q p h, tt)
behind_below q p (small to) h = (at_once q p h, tt)
behind_below q p (cut to var at low high) h = (
  at_once q p h,
  behind_append q _ _ (behind_below q (p ++ false ∷ []) low (further q p false h)) (behind_below q (p ++ true ∷ []) high (further q p true h)),
)

abbrev AllAcross : List Row → List Row → Type 0
AllAcross [] ys = Unit {0}
AllAcross (x ∷ xs) ys = AllBehind x.path ys × AllAcross xs ys

across_append : (xs ys zs : List Row) → AllAcross xs zs → AllAcross ys zs → AllAcross (xs ++ ys) zs
across_append [] ys zs h k = k
across_append (x ∷ xs) ys zs h k = (h.0, across_append xs ys zs h.1 k)

ordered_append : (xs ys : List Row) → InPreorder xs → InPreorder ys → AllAcross xs ys → InPreorder (xs ++ ys)
ordered_append [] ys h k a = k
ordered_append (x ∷ xs) ys h k a = (behind_append x.path xs ys h.0 a.0, ordered_append xs ys h.1 k a.1)

here_across : (q : List Bool) (ys : List Row) → ((u : List Bool) → AllBehind (q ++ u) ys) → AllBehind q ys
here_across q ys h = subst (λ (r : List Bool). AllBehind r ys) (append-nil q) (h [])

across_on : (q : List Bool) (c : Bool) (ys : List Row) → ((u : List Bool) → AllBehind (q ++ u) ys) → (u : List Bool) → AllBehind ((q ++ c ∷ []) ++ u) ys
across_on q c ys h u = subst (λ (r : List Bool). AllBehind r ys) (sym (step_past q c u)) (h (c ∷ u))

across_below : (q : List Bool) (t : Tree) (ys : List Row) → ((u : List Bool) → AllBehind (q ++ u) ys) → AllAcross (rows_below q t) ys
across_below q leaf ys h = tt
across_below q removed ys h = (here_across q ys h, tt)
across_below q (inner to) ys h = (here_across q ys h, tt)
across_below q (small to) ys h = (here_across q ys h, tt)
across_below q (cut to var at low high) ys h = (
  here_across q ys h,
  across_append _ _ ys (across_below (q ++ false ∷ []) low ys (across_on q false ys h)) (across_below (q ++ true ∷ []) high ys (across_on q true ys h)),
)

below_here : (p : List Bool) (c : Bool) (u : List Bool) → IsTrue (precedes p ((p ++ c ∷ []) ++ u))
below_here p c u =
    subst (λ (r : List Bool). IsTrue (precedes p r)) (sym (step_past p c u))
    (subst (λ (r : List Bool). IsTrue (precedes r (p ++ c ∷ u))) (append-nil p) (precedes_past p [] (c ∷ u)))

low_high : (p u s : List Bool) → IsTrue (precedes ((p ++ false ∷ []) ++ u) ((p ++ true ∷ []) ++ s))
low_high p u s =
    subst (λ (r : List Bool). IsTrue (precedes r ((p ++ true ∷ []) ++ s))) (sym (step_past p false u))
    (subst (λ (r : List Bool). IsTrue (precedes (p ++ false ∷ u) r)) (sym (step_past p true s)) (precedes_past p (false ∷ u) (true ∷ s)))

pub ordered_below : (p : List Bool) (t : Tree) → InPreorder (rows_below p t)
ordered_below p leaf = tt
ordered_below p removed = (tt, tt)
ordered_below p (inner to) = (tt, tt)
ordered_below p (small to) = (tt, tt)
ordered_below p (cut to var at low high) = (
  behind_append p _ _ (behind_below p (p ++ false ∷ []) low (below_here p false)) (behind_below p (p ++ true ∷ []) high (below_here p true)),
  ordered_append _ _ (ordered_below (p ++ false ∷ []) low) (ordered_below (p ++ true ∷ []) high)
      (across_below (p ++ false ∷ []) low _ (λ u. behind_below ((p ++ false ∷ []) ++ u) (p ++ true ∷ []) high (low_high p u))),
)

pub ordered_rows : (t : Tree) → InPreorder (rows_of t)
ordered_rows t = ordered_below [] t
