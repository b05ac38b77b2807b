-- The rows of a paving make that paving and no other.
use Rattle.std.proofs.Common.{◌≡◌, ℕ, ◌+◌, ◌≤◌, length, Bool, true, false, List, [], ◌∷◌, ◌++◌, Some, refl, sym, ◌∙◌, ap, subst, arith}
use Rattle.pv_num.proofs.Texts.{some_some}
use Rattle.pv_num.specs.Extended.{Extended}
use Rattle.pv_interval.specs.Bounds.{Bounds}
use Rattle.pv_box.specs.Boxes.{lower_half, upper_half}
use Rattle.pv_tree.specs.Trees.{Tree, leaf, removed, inner, small, cut, top, subtree, graft, settled, box_of, Paves, height}
use Rattle.pv_tree.specs.Stages.{Rule, IsStage}
use Rattle.pv_tree.specs.declared.outcome.Outcome.{Outcome}
use Rattle.pv_tree.specs.declared.outcome.Outcome.TheVariants.{Removed, Inner, Small, Cut}
use Rattle.pv_tree.proofs.Pieces.{subtree_child, graft_in, graft_cut, graft_leaf}
use Rattle.pv_tree.proofs.Halves.{box_child}
use Rattle.pv_join.proofs.JoinFacts.{graft_at}
use Rattle.pv_file.specs.declared.version.Version.TheVariants.{One}
use Rattle.pv_file.specs.Lines.{outcome_line}
use Rattle.pv_file.specs.Readings.{IsPavingInFormat, HasNumbers}
use Rattle.pv_file.specs.Reading.{IsRightNode}
use Rattle.pv_file.proofs.Different.{same_node}
use Rattle.pv_keep.specs.declared.row.Row.{Row}
use Rattle.pv_keep.specs.Rows.{rows_below, rows_of, row_at}
use Rattle.pv_keep.specs.Keeping.{Kept, untold, absent, holds}
use Rattle.pv_keep.specs.Campaigns.{KeepsTree}
use Rattle.pv_keep.specs.Rebuilding.{Make, IsGoodRow, IsFirstBad, MayStand}
use Rattle.pv_keep.specs.Rounds.{Held, AllHeldStages}
use Rattle.pv_keep.specs.Reopening.{MakeOnly, RowsMakeTheirs, KeptMakes, AllKeptMake, RoundsKeepTheirTrees}
use Rattle.pv_keep.proofs.Rounding.{all_held}
use Rattle.pv_file.proofs.Fits.{deep_low, deep_high, short_cut}

-- ---- One line, one outcome

right_of : (p : List Bool) (b : List Bounds) (o : Outcome) → MayStand p b o → IsRightNode p b (Some o)
right_of p b o m = (m.right, m.depth)

same_outcome : (b : List Bounds) (t : Tree) (row : Row) (o q : Outcome) → IsGoodRow b t row o → IsGoodRow b t row q → o ≡ q
same_outcome b t row o q g h =
    let line : outcome_line o ≡ outcome_line q = sym g.line ∙ h.line in
    some_some o q (same_node One row.path (box_of b t row.path) (Some o) (Some q) (right_of row.path (box_of b t row.path) o g.stands) (right_of row.path (box_of b t row.path) q h.stands) line)

make_once : (b : List Bounds) (s : Tree) (rows : List Row) (t u : Tree) → Make b s rows t → Make b s rows u → t ≡ u
make_once b s [] t u m n = m ∙ sym n
make_once b s (row ∷ rows) t u m n =
    let e : n.0 ≡ m.0 = same_outcome b s row n.0 m.0 n.1.0 m.1.0 in
    make_once b (graft s row.path (settled m.0)) rows t u m.1.1 (subst (λ (o : Outcome). Make b (graft s row.path (settled o)) rows u) e n.1.1)

-- ---- A tree's rows make it

make_append : (b : List Bounds) (s : Tree) (xs ys : List Row) (m t : Tree) → Make b s xs m → Make b m ys t → Make b s (xs ++ ys) t
make_append b s [] ys m t e f = subst (λ (u : Tree). Make b u ys t) e f
make_append b s (row ∷ xs) ys m t e f = (e.0, (e.1.0, make_append b (graft s row.path (settled e.0)) xs ys m t e.1.1 f))

-- A part of a paving at a path, with its box.
record IsPart (p : List Bool) (b : List Bounds) (t : Tree) : Type 0 where
  pub paves : Paves b t
  pub numbers : HasNumbers t
  pub depth : length p + height t ≤ 200

low_part : (p : List Bool) (b to : List Bounds) (var : ℕ) (at : Extended) (low high : Tree) → IsPart p b (cut to var at low high) → IsPart (p ++ false ∷ []) (lower_half to var at) low
low_part p b to var at low high f = record { paves = f.paves.3; numbers = f.numbers.2; depth = deep_low p false low high f.depth }

high_part : (p : List Bool) (b to : List Bounds) (var : ℕ) (at : Extended) (low high : Tree) → IsPart p b (cut to var at low high) → IsPart (p ++ true ∷ []) (upper_half to var at) high
high_part p b to var at low high f = record { paves = f.paves.4; numbers = f.numbers.3; depth = deep_high p true low high f.depth }

right_top : (p : List Bool) (b : List Bounds) (t : Tree) → IsPart p b t → IsRightNode p b (top t)
right_top p b leaf f = tt
right_top p b removed f = (record { fits = tt; keeps = tt; numbers = tt }, tt)
right_top p b (inner to) f = (record { fits = f.paves.1; keeps = f.paves.0; numbers = f.numbers }, tt)
right_top p b (small to) f = (record { fits = f.paves.1; keeps = f.paves.0; numbers = f.numbers }, tt)
right_top p b (cut to var at low high) f = (
  record { fits = (f.paves.1, f.paves.2); keeps = f.paves.0; numbers = (f.numbers.0, f.numbers.1) },
  short_cut p low high f.depth,
)

good_row : (b : List Bounds) (u : Tree) (p : List Bool) (o : Outcome) → subtree u p ≡ Some leaf → IsRightNode p (box_of b u p) (Some o) → IsGoodRow b u (row_at p o) o
good_row b u p o h r = record { is_leaf = h; stands = record { right = r.0; depth = r.1 }; line = refl }

one_row : (b : List Bounds) (u : Tree) (p : List Bool) (o : Outcome) → subtree u p ≡ Some leaf → IsRightNode p (box_of b u p) (Some o)
    → Make b u (row_at p o ∷ []) (graft u p (settled o))
one_row b u p o h r = (o, (good_row b u p o h r, refl))

make_in : (b : List Bounds) (u : Tree) (p : List Bool) (t : Tree) → subtree u p ≡ Some leaf → IsPart p (box_of b u p) t → Make b u (rows_below p t) (graft u p t)
make_in b u p leaf h f = graft_leaf u p h
make_in b u p removed h f = one_row b u p Removed h (right_top p (box_of b u p) removed f)
make_in b u p (inner to) h f = one_row b u p (Inner to) h (right_top p (box_of b u p) (inner to) f)
make_in b u p (small to) h f = one_row b u p (Small to) h (right_top p (box_of b u p) (small to) f)
make_in b u p (cut to var at low high) h f =
    let one : Tree = graft u p (cut to var at leaf leaf) in
    let two : Tree = graft one (p ++ false ∷ []) low in
    let here : subtree one p ≡ Some (cut to var at leaf leaf) = graft_at u p leaf (cut to var at leaf leaf) h in
    let two_is : two ≡ graft u p (cut to var at low leaf) = graft_in u p (cut to var at leaf leaf) (false ∷ []) low in
    let there : subtree two p ≡ Some (cut to var at low leaf) = ap (λ (x : Tree). subtree x p) two_is ∙ graft_at u p leaf (cut to var at low leaf) h in
    let low_fits : IsPart (p ++ false ∷ []) (box_of b one (p ++ false ∷ [])) low =
    subst (λ (x : List Bounds). IsPart (p ++ false ∷ []) x low) (sym (box_child b one p false to var at leaf leaf here)) (low_part p (box_of b u p) to var at low high f) in
    let high_fits : IsPart (p ++ true ∷ []) (box_of b two (p ++ true ∷ [])) high =
    subst (λ (x : List Bounds). IsPart (p ++ true ∷ []) x high) (sym (box_child b two p true to var at low leaf there)) (high_part p (box_of b u p) to var at low high f) in
    let low_made : Make b one (rows_below (p ++ false ∷ []) low) two =
    make_in b one (p ++ false ∷ []) low (subtree_child one p false to var at leaf leaf here) low_fits in
    let high_made : Make b two (rows_below (p ++ true ∷ []) high) (graft two (p ++ true ∷ []) high) =
    make_in b two (p ++ true ∷ []) high (subtree_child two p true to var at low leaf there) high_fits in
    let both : Make b one (rows_below (p ++ false ∷ []) low ++ rows_below (p ++ true ∷ []) high) (graft u p (cut to var at low high)) =
    subst (λ (x : Tree). Make b one (rows_below (p ++ false ∷ []) low ++ rows_below (p ++ true ∷ []) high) x) (graft_cut u p to var at low high)
    (make_append b one (rows_below (p ++ false ∷ []) low) (rows_below (p ++ true ∷ []) high) two (graft two (p ++ true ∷ []) high) low_made high_made) in
    (Cut to var at, (good_row b u p (Cut to var at) h (right_top p (box_of b u p) (cut to var at low high) f), both))

make_whole : (b : List Bounds) (t : Tree) → IsPavingInFormat b t → Make b leaf (rows_of t) t
make_whole b t p = make_in b leaf [] t refl (record { paves = p.paving.paves; numbers = p.numbers; depth = omega (arith, p.paving.depth) })

-- ---- No row is bad

record IsSplitMake (b : List Bounds) (s : Tree) (front : List Row) (row : Row) : Type 0 where
  pub middle : Tree
  pub front_made : Make b s front middle
  pub outcome : Outcome
  pub good : IsGoodRow b middle row outcome

split_make : (b : List Bounds) (s : Tree) (front : List Row) (row : Row) (rest : List Row) (t : Tree) → Make b s (front ++ row ∷ rest) t → IsSplitMake b s front row
split_make b s [] row rest t m = record { middle = s; front_made = refl; outcome = m.0; good = m.1.0 }
split_make b s (x ∷ front) row rest t m =
    let r = split_make b (graft s x.path (settled m.0)) front row rest t m.1.1 in
    record { middle = r.middle; front_made = (m.0, (m.1.0, r.front_made)); outcome = r.outcome; good = r.good }

none_bad : (b : List Bounds) (rows : List Row) (t : Tree) → Make b leaf rows t → (n : ℕ) → IsFirstBad b rows n → ⊥
none_bad b rows t m n f =
    let r = split_make b leaf f.front f.row f.rest t (subst (λ (xs : List Row). Make b leaf xs t) f.are m) in
    let e : r.middle ≡ f.tree = make_once b leaf f.front r.middle f.tree r.front_made f.made in
    f.bad r.outcome (subst (λ (u : Tree). IsGoodRow b u f.row r.outcome) e r.good)

pub rows_make_theirs : RowsMakeTheirs
rows_make_theirs b t p = record {
  made = make_whole b t p;
  only = λ s m. make_once b leaf (rows_of t) s t m (make_whole b t p);
  none_bad = none_bad b (rows_of t) t (make_whole b t p);
}

-- ---- Rounds

kept_makes : (b : List Bounds) (kept : Kept) (t : Tree) → IsPavingInFormat b t → KeepsTree kept t → KeptMakes b kept t
kept_makes b untold t p k = tt
kept_makes b absent t p k = absurd k
kept_makes b (holds identity rows) t p k = subst (λ (xs : List Row). MakeOnly b xs t) (sym k) (rows_make_theirs b t p)

all_make : (rule : Rule) (depth : ℕ) (b : List Bounds) (opening : Tree) (later : List Held) → ((t : Tree) → IsStage rule depth b opening t → IsPavingInFormat b t)
    → AllHeldStages rule depth b opening later → AllKeptMake b later
all_make rule depth b opening [] p h = tt
all_make rule depth b opening (held ∷ later) p h =
    (kept_makes b held.kept held.tree (p held.tree h.0.stage) h.0.kept, all_make rule depth b opening later p h.1)

pub rounds_keep_their_trees : RoundsKeepTheirTrees
rounds_keep_their_trees rule depth b opening held later p h r = all_make rule depth b opening later p (all_held rule depth b opening held later h r)
