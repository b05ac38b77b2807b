-- Where one tree grew from another, the rows that are new stand at and below the leaves that were open.
use Rattle.std.proofs.Common.{◌≡◌, ℕ, suc, take, ◌+◌, ◌<◌, ◌≤◌, Bool, true, false, cond, Option, Some, None, List, [], ◌∷◌, ◌++◌, map, length, get_or, refl, sym, ◌∙◌, ap, subst, inl, arith, append_assoc, append-nil}
use Rattle.std.specs.Prelude.{IsTrue}
use Rattle.std.proofs.lemmas.List.{take_more}
use Rattle.pv_interval.specs.Bounds.{Bounds}
use Rattle.pv_num.specs.Extended.{Extended}
use Rattle.pv_tree.specs.Trees.{Tree, leaf, removed, inner, small, cut, top, outcome_at, subtree, opens, first, behind, precedes, shape_of, to_at, height, box_of, to_of, Paves}
use Rattle.pv_tree.specs.Stages.{Grows}
use Rattle.pv_tree.specs.declared.outcome.Outcome.{Outcome}
use Rattle.pv_tree.specs.declared.outcome.Outcome.TheVariants.{Removed, Inner, Small, Cut}
use Rattle.pv_tree.specs.declared.outcome.Shape.{Shape}
use Rattle.pv_tree.specs.declared.outcome.Shape.TheVariants as shape
use Rattle.pv_tree.proofs.Stacks.{height_below}
use Rattle.pv_tree.proofs.Halves.{paves_below, inside_there}
use Rattle.pv_join.proofs.Shapes.{top_there, outcome_top}
use Rattle.pv_join.proofs.JoinFacts.{subtree_low, subtree_high}
use Rattle.pv_keep.specs.declared.row.Row.{Row}
use Rattle.pv_keep.specs.Rows.{rows_below, rows_of, row_at, row_of, IsShuffle}
use Rattle.pv_keep.specs.Below.{is_a_cut, rows_there, rows_at, rows_from}
use Rattle.pv_keep.proofs.Orders.{precedes_trans, not_back, itself_not}
use Rattle.pv_keep.proofs.Shuffles.{shuffle_first, shuffle_second, shuffle_append}

-- ---- Open leaves stand in preorder

abbrev AllLater : List Bool → List (List Bool) → Type 0
AllLater p [] = Unit {0}
AllLater p (q ∷ qs) = IsTrue (precedes p q) × AllLater p qs

abbrev AreSorted : List (List Bool) → Type 0
AreSorted [] = Unit {0}
AreSorted (p ∷ ps) = AllLater p ps × AreSorted ps

later_append : (p : List Bool) (xs ys : List (List Bool)) → AllLater p xs → AllLater p ys → AllLater p (xs ++ ys)
later_append p [] ys h k = k
later_append p (x ∷ xs) ys h k = (h.0, later_append p xs ys h.1 k)

later_low : (p : List Bool) (xs : List (List Bool)) → AllLater p xs → AllLater (false ∷ p) (map (λ q. false ∷ q) xs)
later_low p [] h = tt
later_low p (x ∷ xs) h = (h.0, later_low p xs h.1)

later_high : (p : List Bool) (xs : List (List Bool)) → AllLater p xs → AllLater (true ∷ p) (map (λ q. true ∷ q) xs)
later_high p [] h = tt
later_high p (x ∷ xs) h = (h.0, later_high p xs h.1)

low_first : (p : List Bool) (ys : List (List Bool)) → AllLater (false ∷ p) (map (λ q. true ∷ q) ys)
low_first p [] = tt
low_first p (y ∷ ys) = (refl, low_first p ys)

sorted_high : (ys : List (List Bool)) → AreSorted ys → AreSorted (map (λ q. true ∷ q) ys)
sorted_high [] h = tt
sorted_high (y ∷ ys) h = (later_high y ys h.0, sorted_high ys h.1)

sorted_both : (xs ys : List (List Bool)) → AreSorted xs → AreSorted ys → AreSorted (map (λ q. false ∷ q) xs ++ map (λ q. true ∷ q) ys)
sorted_both [] ys h k = sorted_high ys k
sorted_both (x ∷ xs) ys h k = (later_append (false ∷ x) (map (λ q. false ∷ q) xs) (map (λ q. true ∷ q) ys) (later_low x xs h.0) (low_first x ys), sorted_both xs ys h.1 k)

opens_sorted : (t : Tree) → AreSorted (opens t)
opens_sorted leaf = (tt, tt)
opens_sorted removed = tt
opens_sorted (inner to) = tt
opens_sorted (small to) = tt
opens_sorted (cut to var at low high) = sorted_both (opens low) (opens high) (opens_sorted low) (opens_sorted high)

-- ---- The leaves from one on

all_kept : (p : List Bool) (xs : List (List Bool)) → AllLater p xs → behind p xs ≡ xs
all_kept p [] h = refl
all_kept p (x ∷ xs) h = ap (λ (t : Bool). cond t (x ∷ behind p xs) (behind p xs)) h.0 ∙ ap (λ (l : List (List Bool)). x ∷ l) (all_kept p xs h.1)

later_all : (p x : List Bool) (xs : List (List Bool)) → IsTrue (precedes p x) → AllLater x xs → AllLater p xs
later_all p x [] e h = tt
later_all p x (y ∷ ys) e h = (precedes_trans p x y e h.0, later_all p x ys e h.1)

later_kept : (p x : List Bool) (xs : List (List Bool)) → AllLater x xs → AllLater x (behind p xs)
later_kept p x [] h = tt
later_kept p x (y ∷ ys) h = by (precedes p y) (later_kept p x ys h.1)
  where
    by : (b : Bool) → AllLater x (behind p ys) → AllLater x (cond b (y ∷ behind p ys) (behind p ys))
    by true k = (h.0, k)
    by false k = k

-- a leaf of a list, and those behind it
abbrev pub from : Option (List Bool) → List (List Bool) → List (List Bool)
from None ps = []
from (Some p) ps = p ∷ behind p ps

from_first : (ps : List (List Bool)) → AreSorted ps → from (first ps) ps ≡ ps
from_first [] h = refl
from_first (p ∷ ps) h = ap (λ (l : List (List Bool)). p ∷ l) (ap (λ (t : Bool). cond t (p ∷ behind p ps) (behind p ps)) (itself_not p) ∙ all_kept p ps h.0)

from_more : (x : List Bool) (xs ys : List (List Bool)) → AllLater x ys → from (first ys) (x ∷ xs) ≡ from (first ys) xs
from_more x xs [] h = refl
from_more x xs (q ∷ qs) h = ap (λ (t : Bool). q ∷ cond t (x ∷ behind q xs) (behind q xs)) (not_back x q h.0)

from_next : (p : List Bool) (ps : List (List Bool)) → AreSorted ps → from (first (behind p ps)) ps ≡ behind p ps
from_next p [] h = refl
from_next p (x ∷ xs) h = by (precedes p x) refl (from_next p xs h.1)
  where
    by : (b : Bool) → precedes p x ≡ b → from (first (behind p xs)) xs ≡ behind p xs → from (first (behind p (x ∷ xs))) (x ∷ xs) ≡ behind p (x ∷ xs)
    by true e k =
        let all : behind p (x ∷ xs) ≡ x ∷ xs = all_kept p (x ∷ xs) (e, later_all p x xs e h.0) in
        subst (λ (l : List (List Bool)). from (first l) (x ∷ xs) ≡ l) (sym all) (from_first (x ∷ xs) h)
    by false e k =
        let less : behind p (x ∷ xs) ≡ behind p xs = ap (λ (t : Bool). cond t (x ∷ behind p xs) (behind p xs)) e in
        subst (λ (l : List (List Bool)). from (first l) (x ∷ xs) ≡ l) (sym less) (from_more x xs (behind p xs) (later_kept p x xs h.0) ∙ k)

-- ---- The rows below the leaves that were open are the new ones

module _ (r : List Bool) (to : List Bounds) (var : ℕ) (at : Extended) (low high : Tree) where
  rows_high : (ys : List (List Bool)) → rows_from r (cut to var at low high) (map (λ q. true ∷ q) ys) ≡ rows_from (r ++ true ∷ []) high ys
  rows_high [] = refl
  rows_high (y ∷ ys) = λ i. rows_there (sym (append_assoc r (true ∷ []) y) i) (subtree high y) ++ rows_high ys i

  rows_both : (xs ys : List (List Bool)) → rows_from r (cut to var at low high) (map (λ q. false ∷ q) xs ++ map (λ q. true ∷ q) ys)
      ≡ rows_from (r ++ false ∷ []) low xs ++ rows_from (r ++ true ∷ []) high ys
  rows_both [] ys = rows_high ys
  rows_both (x ∷ xs) ys =
      (λ i. rows_there (sym (append_assoc r (false ∷ []) x) i) (subtree low x) ++ rows_both xs ys i)
      ∙ sym (append_assoc (rows_there ((r ++ false ∷ []) ++ x) (subtree low x)) (rows_from (r ++ false ∷ []) low xs) (rows_from (r ++ true ∷ []) high ys))

one_row : (r : List Bool) (t : Tree) (o : Outcome) → top t ≡ Some o → ((to : List Bounds) (var : ℕ) (at : Extended) → o ≡ Cut to var at → ⊥) → rows_below r t ≡ row_at r o ∷ []
one_row r leaf o e n = cc
one_row r removed o e n = ap (row_of r) e
one_row r (inner to) o e n = ap (row_of r) e
one_row r (small to) o e n = ap (row_of r) e
one_row r (cut to var at low high) o e n = absurd (n to var at cc)

end_shuffle : (r : List Bool) (t : Tree) (o : Outcome) → top t ≡ Some o → ((to : List Bounds) (var : ℕ) (at : Extended) → o ≡ Cut to var at → ⊥) → IsShuffle (row_at r o ∷ []) [] (rows_below r t)
end_shuffle r t o e n = subst (λ (zs : List Row). IsShuffle (row_at r o ∷ []) [] zs) (sym (one_row r t o e n)) (shuffle_first (row_at r o ∷ []))

shuffled : (r : List Bool) (s t : Tree) → Grows s t → IsShuffle (rows_below r s) (rows_from r t (opens s)) (rows_below r t)
shuffled r leaf t g =
    subst (λ (ys : List Row). IsShuffle [] ys (rows_below r t))
    (ap (λ (q : List Bool). rows_below q t) (sym (append-nil r)) ∙ sym (append-nil (rows_below (r ++ []) t)))
    (shuffle_second (rows_below r t))
shuffled r removed t g = end_shuffle r t Removed (g [] Removed refl) (λ to var at e. cc)
shuffled r (inner to) t g = end_shuffle r t (Inner to) (g [] (Inner to) refl) (λ to' var at e. cc)
shuffled r (small to) t g = end_shuffle r t (Small to) (g [] (Small to) refl) (λ to' var at e. cc)
shuffled r (cut to var at low high) leaf g = let w : None ≡ Some (Cut to var at) = g [] (Cut to var at) refl in cc
shuffled r (cut to var at low high) removed g = let w : Some Removed ≡ Some (Cut to var at) = g [] (Cut to var at) refl in cc
shuffled r (cut to var at low high) (inner to') g = let w : Some (Inner to') ≡ Some (Cut to var at) = g [] (Cut to var at) refl in cc
shuffled r (cut to var at low high) (small to') g = let w : Some (Small to') ≡ Some (Cut to var at) = g [] (Cut to var at) refl in cc
shuffled r (cut to var at low high) (cut to' var' at' low' high') g =
    let same : Some (Cut to' var' at') ≡ Some (Cut to var at) = g [] (Cut to var at) refl in
    let rest = rows_below (r ++ false ∷ []) low ++ rows_below (r ++ true ∷ []) high in
    inl (
      rest,
      ap (λ (o : Option Outcome). row_of r o ++ rest) (sym same),
      subst (λ (ys : List Row). IsShuffle rest ys (rows_below (r ++ false ∷ []) low' ++ rows_below (r ++ true ∷ []) high')) (sym (rows_both r to' var' at' low' high' (opens low) (opens high)))
          (shuffle_append _ _ _ _ _ _ (shuffled (r ++ false ∷ []) low low' (λ p o e. g (false ∷ p) o e)) (shuffled (r ++ true ∷ []) high high' (λ p o e. g (true ∷ p) o e))),
    )

-- the rows below these leaves are the new ones, where they are the open leaves of what grew
pub new_below : (s t : Tree) (ps : List (List Bool)) (rows : List Row) → Grows s t → ps ≡ opens s → rows ≡ rows_from [] t ps → IsShuffle (rows_of s) rows (rows_of t)
new_below s t ps rows g e h = subst (λ (ys : List Row). IsShuffle (rows_of s) ys (rows_of t)) (sym (h ∙ ap (rows_from [] t) e)) (shuffled [] s t g)

-- ---- One open leaf after the other

-- The leaves so far, and those from the next one on, are all.
abbrev pub AreSoFar : Tree → List (List Bool) → Option (List Bool) → Type 0
AreSoFar s so_far next = so_far ++ from next (opens s) ≡ opens s

pub so_far_first : (s : Tree) (so_far : List (List Bool)) (next : Option (List Bool)) → so_far ≡ [] → next ≡ first (opens s) → AreSoFar s so_far next
so_far_first s so_far next e f = (λ i. e i ++ from (f i) (opens s)) ∙ from_first (opens s) (opens_sorted s)

behind_is : (s : Tree) (p : List Bool) (next : Option (List Bool)) → next ≡ first (behind p (opens s)) → from next (opens s) ≡ behind p (opens s)
behind_is s p next e = ap (λ (o : Option (List Bool)). from o (opens s)) e ∙ from_next p (opens s) (opens_sorted s)

pub so_far_next : (s : Tree) (so_far more : List (List Bool)) (now next : Option (List Bool)) (p : List Bool) → AreSoFar s so_far now → now ≡ Some p → more ≡ so_far ++ p ∷ [] → next ≡ first (behind p (opens s))
    → AreSoFar s more next
so_far_next s so_far more now next p h n m e =
    (λ i. m i ++ behind_is s p next e i)
    ∙ append_assoc so_far (p ∷ []) (behind p (opens s))
    ∙ subst (λ (o : Option (List Bool)). AreSoFar s so_far o) n h

pub fewer_left : (s : Tree) (now next : Option (List Bool)) (p : List Bool) → now ≡ Some p → next ≡ first (behind p (opens s)) → length (from next (opens s)) < length (from now (opens s))
fewer_left s now next p n e =
    let less : length (from next (opens s)) ≡ length (behind p (opens s)) = ap length (behind_is s p next e) in
    let more : length (from now (opens s)) ≡ suc (length (behind p (opens s))) = ap (λ (o : Option (List Bool)). length (from o (opens s))) n in
    omega (arith, less, more)

pub all_so_far : (s : Tree) (so_far : List (List Bool)) (next : Option (List Bool)) → AreSoFar s so_far next → next ≡ None → so_far ≡ opens s
all_so_far s so_far next h e = sym (append-nil so_far) ∙ subst (λ (o : Option (List Bool)). AreSoFar s so_far o) e h

-- the rows of one leaf more
pub rows_on : (t : Tree) (ps : List (List Bool)) (p : List Bool) → rows_from [] t (ps ++ p ∷ []) ≡ rows_from [] t ps ++ rows_at t p
rows_on t [] p = append-nil (rows_at t p)
rows_on t (q ∷ qs) p = ap (λ (ws : List Row). rows_at t q ++ ws) (rows_on t qs p) ∙ sym (append_assoc (rows_at t q) (rows_from [] t qs) (rows_at t p))

-- the rows below the first leaves, with those below one leaf more
pub rows_next : (t : Tree) (ps qs : List (List Bool)) (p : List Bool) (i : ℕ) (rows more : List Row) → qs ≡ ps → i < length qs → p ≡ get_or qs i p → rows ≡ rows_from [] t (take i ps) → more ≡ rows ++ rows_at t p
    → more ≡ rows_from [] t (take (i + 1) ps)
rows_next t ps qs p i rows more same l at h m =
    let next : take (i + 1) qs ≡ take i qs ++ p ∷ [] = take_more qs i p l ∙ ap (λ (q : List Bool). take i qs ++ q ∷ []) (sym at) in
    let all : take (i + 1) ps ≡ take i ps ++ p ∷ [] = subst (λ (rs : List (List Bool)). take (i + 1) rs ≡ take i rs ++ p ∷ []) same next in
    m ∙ ap (λ (ws : List Row). ws ++ rows_at t p) h ∙ sym (rows_on t (take i ps) p) ∙ ap (rows_from [] t) (sym all)

-- ---- The rows at and below a path

short_cut : (t : Tree) (p : List Bool) (o : Option Tree) → subtree t p ≡ o → true ≡ is_a_cut (shape_of o) → height t ≤ 200 → length p < 200
short_cut t p None e c h = cc
short_cut t p (Some leaf) e c h = cc
short_cut t p (Some removed) e c h = cc
short_cut t p (Some (inner to)) e c h = cc
short_cut t p (Some (small to)) e c h = cc
short_cut t p (Some (cut to var at low high)) e c h = omega (arith, height_below t p (cut to var at low high) e, h)

pub short_at : (t : Tree) (p : List Bool) (s : Shape) → s ≡ shape_of (subtree t p) → is_a_cut s ≡ true → height t ≤ 200 → length p < 200
short_at t p s e c h = short_cut t p (subtree t p) refl (sym c ∙ ap is_a_cut e) h

rows_end : (p : List Bool) (o : Option Tree) → is_a_cut (shape_of o) ≡ false → row_of p (top_there o) ≡ rows_there p o
rows_end p None c = refl
rows_end p (Some leaf) c = refl
rows_end p (Some removed) c = refl
rows_end p (Some (inner to)) c = refl
rows_end p (Some (small to)) c = refl
rows_end p (Some (cut to var at low high)) c = cc

pub end_rows : (t : Tree) (p : List Bool) (s : Shape) → s ≡ shape_of (subtree t p) → is_a_cut s ≡ false → row_of p (outcome_at t p) ≡ rows_at t p
end_rows t p s e c = ap (row_of p) (outcome_top t p) ∙ rows_end p (subtree t p) (sym (ap is_a_cut e) ∙ c)

rows_cut : (t : Tree) (p : List Bool) (o : Option Tree) → subtree t p ≡ o → is_a_cut (shape_of o) ≡ true
    → row_of p (top_there o) ++ (rows_at t (p ++ false ∷ []) ++ rows_at t (p ++ true ∷ [])) ≡ rows_there p o
rows_cut t p None e c = cc
rows_cut t p (Some leaf) e c = cc
rows_cut t p (Some removed) e c = cc
rows_cut t p (Some (inner to)) e c = cc
rows_cut t p (Some (small to)) e c = cc
rows_cut t p (Some (cut to var at low high)) e c = λ i.
    row_at p (Cut to var at) ∷ (rows_there (p ++ false ∷ []) (subtree_low t p to var at low high e i) ++ rows_there (p ++ true ∷ []) (subtree_high t p to var at low high e i))

pub cut_rows : (t : Tree) (p low high : List Bool) (s : Shape) (rows first second third : List Row) → s ≡ shape_of (subtree t p) → is_a_cut s ≡ true → low ≡ p ++ false ∷ [] → high ≡ p ++ true ∷ []
    → first ≡ rows ++ row_of p (outcome_at t p) → second ≡ first ++ rows_at t low → third ≡ second ++ rows_at t high → third ≡ rows ++ rows_at t p
cut_rows t p low high s rows first second third e c l h a b d =
    let own = row_of p (outcome_at t p) in
    let whole : own ++ (rows_at t (p ++ false ∷ []) ++ rows_at t (p ++ true ∷ [])) ≡ rows_at t p =
    ap (λ (o : Option Outcome). row_of p o ++ (rows_at t (p ++ false ∷ []) ++ rows_at t (p ++ true ∷ []))) (outcome_top t p)
    ∙ rows_cut t p (subtree t p) refl (sym (ap is_a_cut e) ∙ c) in
    d
    ∙ (λ i. (b ∙ (λ j. a j ++ rows_at t (l j))) i ++ rows_at t (h i))
    ∙ append_assoc (rows ++ own) (rows_at t (p ++ false ∷ [])) (rows_at t (p ++ true ∷ []))
    ∙ append_assoc rows own (rows_at t (p ++ false ∷ []) ++ rows_at t (p ++ true ∷ []))
    ∙ ap (λ (ws : List Row). rows ++ ws) whole

-- ---- The place of a cut

abbrev var_or : Shape → ℕ
var_or shape.Absent = 0
var_or shape.OpenLeaf = 0
var_or shape.Removed = 0
var_or shape.Inner = 0
var_or shape.Small = 0
var_or (shape.Cut v a) = v

abbrev length_or : Option (List Bounds) → ℕ
length_or None = 0
length_or (Some bs) = length bs

abbrev kept_at : Option Outcome → Option (List Bounds)
kept_at None = None
kept_at (Some o) = to_of o

place_below : (b : List Bounds) (o : Option Tree) (var : ℕ) (at : Extended) (to : List Bounds) → ((u : Tree) → o ≡ Some u → Paves b u) → shape.Cut var at ≡ shape_of o → kept_at (top_there o) ≡ Some to → length to ≤ 12 → var < 12
place_below b None var at to h e f l = cc
place_below b (Some leaf) var at to h e f l = cc
place_below b (Some removed) var at to h e f l = cc
place_below b (Some (inner to')) var at to h e f l = cc
place_below b (Some (small to')) var at to h e f l = cc
place_below b (Some (cut to' var' at' low high)) var at to h e f l =
    let below : var' < length to' = inside_there at' var' to' (h (cut to' var' at' low high) refl).2 in
    let same : var ≡ var' = ap var_or e in
    let kept : length to' ≡ length to = ap length_or f in
    omega (arith, below, same, kept, l)

pub cut_place : (b : List Bounds) (t : Tree) (p : List Bool) (var : ℕ) (at : Extended) (to : List Bounds) → Paves b t → shape.Cut var at ≡ shape_of (subtree t p) → to_at t p ≡ Some to → length to ≤ 12 → var < 12
cut_place b t p var at to h e f l =
    place_below (box_of b t p) (subtree t p) var at to (λ u g. paves_below b t p u h g) e (ap kept_at (sym (outcome_top t p)) ∙ f) l
