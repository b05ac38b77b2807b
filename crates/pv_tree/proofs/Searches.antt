-- The first open leaf below a node.
use Rattle.std.proofs.Common.{◌≡◌, ◌⊎◌, inl, inr, ℕ, zero, suc, ◌+◌, ◌-◌, ◌<◌, ◌≤◌, Bool, true, false, Option, Some, None, List, [], ◌∷◌, ◌++◌, map, length, refl, sym, ◌∙◌, ap, arith, append_assoc, length-append, append-nil}
use Rattle.std.specs.Option.{option_map, IfSome}
use Rattle.pv_interval.specs.Bounds.{Bounds}
use Rattle.pv_tree.specs.Trees.{Tree, leaf, removed, inner, small, cut, opens, first, subtree}
use Rattle.pv_tree.specs.Arena.{tree_at, whole_tree, reach, cell_at, closed_at, kids_of, side, MarksRight, IsClosed, is_open_cell, IsWhole}
use Rattle.pv_tree.specs.Spots.{IsSearchable, IsSpot, AreCutInto, opens_below, first_below, either}
use Rattle.pv_tree.specs.declared.cell.Cell.{Cell}
use Rattle.pv_tree.specs.declared.cell.Cell.TheVariants.{Open, Removed, Inner, Small, Cut}
use Rattle.pv_tree.specs.declared.cell.Node.{Node}
use Rattle.pv_tree.specs.declared.search.Spot.{Spot}
use Rattle.pv_tree.specs.declared.search.Pair.{Pair}
use Rattle.pv_tree.specs.declared.outcome.Counts.{Counts}
use Rattle.pv_tree.proofs.Cells.{step_to}
use Rattle.pv_tree.proofs.ArenaFacts.{shown, tree_at-is, tree_at-zero, reach_label}
use Rattle.pv_tree.proofs.Wholes.{whole_kids}

abbrev pub listed : List Node → ℕ → Cell → List (List Bool)
listed ns f Open = [] ∷ []
listed ns f Removed = []
listed ns f (Inner s) = []
listed ns f (Small s) = []
listed ns f (Cut s v a c) = map (λ p. false ∷ p) (opens_below ns f c) ++ map (λ p. true ∷ p) (opens_below ns f (c + 1))

pub opens_below-is : (ns : List Node) (f k : ℕ) (x : Cell) → cell_at ns k ≡ x → opens_below ns (suc f) k ≡ listed ns f x
unfolding opens_below
opens_below-is ns f k x e = ap (listed ns f) e

opens_below-zero : (ns : List Node) (k : ℕ) → opens_below ns 0 k ≡ []
unfolding opens_below
opens_below-zero ns k = refl

-- they are the open leaves of the tree
listed_opens : (d : ℕ) (es : List Bounds) (ns : List Node) (f : ℕ) → ((k : ℕ) → opens_below ns f k ≡ opens (tree_at d es ns f k)) → (x : Cell) → listed ns f x ≡ opens (shown d es ns f x)
listed_opens d es ns f ih Open = refl
listed_opens d es ns f ih Removed = refl
listed_opens d es ns f ih (Inner s) = refl
listed_opens d es ns f ih (Small s) = refl
listed_opens d es ns f ih (Cut s v a c) = λ i. map (λ p. false ∷ p) (ih c i) ++ map (λ p. true ∷ p) (ih (c + 1) i)

pub below_opens : (d : ℕ) (es : List Bounds) (ns : List Node) (f k : ℕ) → opens_below ns f k ≡ opens (tree_at d es ns f k)
below_opens d es ns zero k = opens_below-zero ns k ∙ sym (ap opens (tree_at-zero d es ns k))
below_opens d es ns (suc f) k =
    opens_below-is ns f k (cell_at ns k) refl ∙ listed_opens d es ns f (below_opens d es ns f) (cell_at ns k)
    ∙ sym (ap opens (tree_at-is d es ns f k (cell_at ns k) refl))

-- below a node that is marked as closed there is none
closed_listed : (ns : List Node) (f : ℕ) → ((k : ℕ) → closed_at ns k ≡ true → opens_below ns f k ≡ []) → (x : Cell) → IsClosed ns x → listed ns f x ≡ []
closed_listed ns f ih Open h = absurd h
closed_listed ns f ih Removed h = refl
closed_listed ns f ih (Inner s) h = refl
closed_listed ns f ih (Small s) h = refl
closed_listed ns f ih (Cut s v a c) h = λ i. map (λ p. false ∷ p) (ih c h.0 i) ++ map (λ p. true ∷ p) (ih (c + 1) h.1 i)

closed_none : (ns : List Node) → MarksRight ns → (f k : ℕ) → closed_at ns k ≡ true → opens_below ns f k ≡ []
closed_none ns marks zero k h = opens_below-zero ns k
closed_none ns marks (suc f) k h = opens_below-is ns f k (cell_at ns k) refl ∙ closed_listed ns f (closed_none ns marks f) (cell_at ns k) (marks k h)

open_listed : (ns : List Node) (f : ℕ) (x : Cell) → is_open_cell x ≡ true → listed ns f x ≡ [] ∷ []
open_listed ns f Open h = refl
open_listed ns f Removed h = cc
open_listed ns f (Inner s) h = cc
open_listed ns f (Small s) h = cc
open_listed ns f (Cut s v a c) h = cc

ended_listed : (ns : List Node) (f : ℕ) (x : Cell) → is_open_cell x ≡ false → kids_of x ≡ None → listed ns f x ≡ []
ended_listed ns f Open h e = cc
ended_listed ns f Removed h e = refl
ended_listed ns f (Inner s) h e = refl
ended_listed ns f (Small s) h e = refl
ended_listed ns f (Cut s v a c) h e = cc

pub cut_listed : (ns : List Node) (f : ℕ) (x : Cell) (c : ℕ) → kids_of x ≡ Some c → listed ns f x ≡ map (λ p. false ∷ p) (opens_below ns f c) ++ map (λ p. true ∷ p) (opens_below ns f (c + 1))
cut_listed ns f Open c e = cc
cut_listed ns f Removed c e = cc
cut_listed ns f (Inner s) c e = cc
cut_listed ns f (Small s) c e = cc
cut_listed ns f (Cut s v a k) c e = let w : k ≡ c = cc in λ i. map (λ p. false ∷ p) (opens_below ns f (w i)) ++ map (λ p. true ∷ p) (opens_below ns f (w i + 1))

pub first_closed : (ns : List Node) (spot : Spot) → MarksRight ns → closed_at ns spot.at ≡ true → None ≡ first_below ns spot
unfolding first_below
first_closed ns spot marks h = sym (ap (λ (l : List (List Bool)). option_map (λ (p : List Bool). spot.path ++ p) (first l)) (closed_none ns marks (201 - length spot.path) spot.at h))

pub one_more : (n : ℕ) → n ≤ 200 → 201 - n ≡ suc (200 - n)
one_more n h = omega arith

pub first_open_here : (ns : List Node) (spot : Spot) → length spot.path ≤ 200 → is_open_cell (cell_at ns spot.at) ≡ true → Some spot.path ≡ first_below ns spot
unfolding first_below
first_open_here ns spot short h =
    let e : opens_below ns (201 - length spot.path) spot.at ≡ [] ∷ [] =
    ap (λ (n : ℕ). opens_below ns n spot.at) (one_more (length spot.path) short) ∙ opens_below-is ns (200 - length spot.path) spot.at (cell_at ns spot.at) refl ∙ open_listed ns (200 - length spot.path) (cell_at ns spot.at) h in
    sym (ap (λ (l : List (List Bool)). option_map (λ (p : List Bool). spot.path ++ p) (first l)) e ∙ ap (λ (q : List Bool). Some q) (append-nil spot.path))

pub first_ended : (ns : List Node) (spot : Spot) → length spot.path ≤ 200 → is_open_cell (cell_at ns spot.at) ≡ false → kids_of (cell_at ns spot.at) ≡ None → None ≡ first_below ns spot
unfolding first_below
first_ended ns spot short h k =
    let e : opens_below ns (201 - length spot.path) spot.at ≡ [] =
    ap (λ (n : ℕ). opens_below ns n spot.at) (one_more (length spot.path) short) ∙ opens_below-is ns (200 - length spot.path) spot.at (cell_at ns spot.at) refl ∙ ended_listed ns (200 - length spot.path) (cell_at ns spot.at) h k in
    sym (ap (λ (l : List (List Bool)). option_map (λ (p : List Bool). spot.path ++ p) (first l)) e)

-- the first of two lists of paths, one behind the other
pub first_of_two : (path : List Bool) (xs ys : List (List Bool)) → option_map (λ (p : List Bool). path ++ p) (first (map (λ p. false ∷ p) xs ++ map (λ p. true ∷ p) ys))
    ≡ either (option_map (λ (p : List Bool). (path ++ false ∷ []) ++ p) (first xs)) (option_map (λ (p : List Bool). (path ++ true ∷ []) ++ p) (first ys))
first_of_two path [] [] = refl
first_of_two path [] (y ∷ ys) = ap (λ (q : List Bool). Some q) (sym (append_assoc path (true ∷ []) y))
first_of_two path (x ∷ xs) ys = ap (λ (q : List Bool). Some q) (sym (append_assoc path (false ∷ []) x))

pub first_cut : (ns : List Node) (spot : Spot) (kids : Pair) → AreCutInto ns spot kids → either (first_below ns kids.low) (first_below ns kids.high) ≡ first_below ns spot
unfolding first_below
first_cut ns spot kids h =
    let short : length spot.path < 200 = h.short in
    let f : ℕ = 200 - length spot.path in
    let low_length : length kids.low.path ≡ length spot.path + 1 = ap length h.low_path ∙ length-append spot.path (false ∷ []) in
    let high_length : length kids.high.path ≡ length spot.path + 1 = ap length h.high_path ∙ length-append spot.path (true ∷ []) in
    let low_fuel : 201 - length kids.low.path ≡ 200 - length spot.path = omega arith in
    let high_fuel : 201 - length kids.high.path ≡ 200 - length spot.path = omega arith in
    let here : opens_below ns (201 - length spot.path) spot.at ≡ map (λ p. false ∷ p) (opens_below ns (200 - length spot.path) kids.low.at) ++ map (λ p. true ∷ p) (opens_below ns (200 - length spot.path) (kids.low.at + 1)) =
    ap (λ (n : ℕ). opens_below ns n spot.at) (one_more (length spot.path) (omega arith)) ∙ opens_below-is ns (200 - length spot.path) spot.at (cell_at ns spot.at) refl
    ∙ cut_listed ns (200 - length spot.path) (cell_at ns spot.at) kids.low.at h.low_at in
    (λ i. either (option_map (λ (p : List Bool). h.low_path i ++ p) (first (opens_below ns (low_fuel i) kids.low.at))) (option_map (λ (p : List Bool). h.high_path i ++ p) (first (opens_below ns (high_fuel i) (h.high_at i)))))
    ∙ sym (first_of_two spot.path (opens_below ns (200 - length spot.path) kids.low.at) (opens_below ns (200 - length spot.path) (kids.low.at + 1)))
    ∙ sym (ap (λ (l : List (List Bool)). option_map (λ (p : List Bool). spot.path ++ p) (first l)) here)

pub first_low : (ns : List Node) (spot : Spot) (kids : Pair) (p : List Bool) → AreCutInto ns spot kids → Some p ≡ first_below ns kids.low → Some p ≡ first_below ns spot
first_low ns spot kids p h e = ap (λ (o : Option (List Bool)). either o (first_below ns kids.high)) e ∙ first_cut ns spot kids h

pub first_high : (ns : List Node) (spot : Spot) (kids : Pair) (r : Option (List Bool)) → AreCutInto ns spot kids → None ≡ first_below ns kids.low → r ≡ first_below ns kids.high → r ≡ first_below ns spot
first_high ns spot kids r h e k = k ∙ ap (λ (o : Option (List Bool)). either o (first_below ns kids.high)) e ∙ first_cut ns spot kids h

-- of a whole paving
pub whole_searchable : (b es : List Bounds) (ns : List Node) (counts : Counts) → IsWhole b es ns counts → IsSearchable ns
whole_searchable b es ns counts h = record {
  kids = whole_kids b es ns counts h;
  marks = h.arena.linked.closed;
  short = λ p k c r e.
      let l : h.arena.label k ≡ p = reach_label (length b) es ns h.arena.label h.arena.linked p 0 k r ∙ ap (λ (q : List Bool). q ++ p) h.arena.linked.root in
      let s : length (h.arena.label k) < 200 = (h.arena.linked.kids k c e).short in
      let m : length (h.arena.label k) ≡ length p = ap length l in omega arith;
}

reach_more_cell : (ns : List Node) (b : Bool) (p q : List Bool) → ((k j : ℕ) → reach ns k p ≡ Some j → reach ns k (p ++ q) ≡ reach ns j q) → (o : Option ℕ) (j : ℕ) → step_to ns b p o ≡ Some j → step_to ns b (p ++ q) o ≡ reach ns j q
reach_more_cell ns b p q ih None j r = cc
reach_more_cell ns b p q ih (Some c) j r = ih (side b c) j r

pub reach_more : (ns : List Node) (p q : List Bool) (k j : ℕ) → reach ns k p ≡ Some j → reach ns k (p ++ q) ≡ reach ns j q
reach_more ns [] q k j r = let e : k ≡ j = cc in ap (λ (n : ℕ). reach ns n q) e
reach_more ns (b ∷ p) q k j r = reach_more_cell ns b p q (reach_more ns p q) (kids_of (cell_at ns k)) j r

pub reach_child : (ns : List Node) (p : List Bool) (b : Bool) (k c : ℕ) → reach ns 0 p ≡ Some k → kids_of (cell_at ns k) ≡ Some c → reach ns 0 (p ++ b ∷ []) ≡ Some (side b c)
reach_child ns p b k c r e = reach_more ns p (b ∷ []) 0 k r ∙ ap (step_to ns b []) e

pub child_spots : (ns : List Node) (spot : Spot) (c : ℕ) (low high : List Bool) → IsSpot ns spot → kids_of (cell_at ns spot.at) ≡ Some c → low ≡ spot.path ++ false ∷ [] → high ≡ spot.path ++ true ∷ []
    → AreCutInto ns spot (record { low = record { at = c; path = low }; high = record { at = c + 1; path = high } })
child_spots ns spot c low high h e l r =
    let there : c + 1 < length ns = h.searchable.kids.kids spot.at c e in
    let short : length spot.path < 200 = h.searchable.short spot.path spot.at c h.leads e in
    let low_length : length low ≡ length spot.path + 1 = ap length l ∙ length-append spot.path (false ∷ []) in
    let high_length : length high ≡ length spot.path + 1 = ap length r ∙ length-append spot.path (true ∷ []) in
    record {
      low = record { searchable = h.searchable; there = omega arith; leads = ap (reach ns 0) l ∙ reach_child ns spot.path false spot.at c h.leads e; few = omega arith };
      high = record { searchable = h.searchable; there = there; leads = ap (reach ns 0) r ∙ reach_child ns spot.path true spot.at c h.leads e; few = omega arith };
      low_path = l;
      high_path = r;
      low_at = e;
      high_at = refl;
      short = short;
    }

pub root_spot : (ns : List Node) (path : List Bool) → IsSearchable ns → path ≡ [] → IsSpot ns (record { at = 0; path = path })
root_spot ns path h e = record { searchable = h; there = h.kids.some; leads = ap (reach ns 0) e; few = let w : length path ≡ 0 = ap length e in omega arith }

pub map_same : (o : Option (List Bool)) (path : List Bool) → path ≡ [] → option_map (λ (p : List Bool). path ++ p) o ≡ o
map_same None path e = refl
map_same (Some p) path e = ap (λ (q : List Bool). Some (q ++ p)) e

pub first_whole : (d : ℕ) (es : List Bounds) (ns : List Node) (path : List Bool) → path ≡ [] → first_below ns (record { at = 0; path = path }) ≡ first (opens (whole_tree d es ns))
unfolding first_below
first_whole d es ns path e =
    map_same (first (opens_below ns (201 - length path) 0)) path e
    ∙ ap (λ (q : List Bool). first (opens_below ns (201 - length q) 0)) e
    ∙ ap first (below_opens d es ns 201 0)

-- the first open leaf is one
behind_false : (xs ys : List (List Bool)) (q : List Bool) → first (map (λ p. false ∷ p) xs ++ map (λ p. true ∷ p) ys) ≡ Some q
    → ((p : List Bool) × (first xs ≡ Some p) × (q ≡ false ∷ p)) ⊎ ((p : List Bool) × (first ys ≡ Some p) × (q ≡ true ∷ p))
behind_false [] [] q e = cc
behind_false [] (y ∷ ys) q e = let w : true ∷ y ≡ q = cc in inr (y, refl, sym w)
behind_false (x ∷ xs) ys q e = let w : false ∷ x ≡ q = cc in inl (x, refl, sym w)

pub first_is_open : (t : Tree) (q : List Bool) → first (opens t) ≡ Some q → subtree t q ≡ Some leaf
first_is_open leaf q e = let w : [] ≡ q = cc in ap (λ (p : List Bool). subtree leaf p) (sym w)
first_is_open removed q e = cc
first_is_open (inner to) q e = cc
first_is_open (small to) q e = cc
first_is_open (cut to v a l r) q e = elim (behind_false (opens l) (opens r) q e) [
  | inl (p, f, w) ↦ ap (λ (x : List Bool). subtree (cut to v a l r) x) w ∙ first_is_open l p f
  | inr (p, f, w) ↦ ap (λ (x : List Bool). subtree (cut to v a l r) x) w ∙ first_is_open r p f
]

pub some_is : (t : Tree) (o : Option (List Bool)) → o ≡ first (opens t) → IfSome o (λ p. subtree t p ≡ Some leaf)
some_is t None e = tt
some_is t (Some p) e = first_is_open t p (sym e)
