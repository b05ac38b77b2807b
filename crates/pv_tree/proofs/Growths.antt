-- Stacks of open leaves that a growth is still to be given.
use Rattle.std.proofs.Common.{◌≡◌, ℕ, zero, suc, ◌+◌, ◌-◌, ◌<◌, ◌≤◌, Bool, true, false, Option, Some, None, List, [], ◌∷◌, ◌++◌, length, take, get_or, refl, sym, ◌∙◌, ap, arith, subst, append_assoc, append-nil, length-append}
use Rattle.pv_interval.specs.Bounds.{Bounds}
use Rattle.pv_box.specs.Boxes.{IsBox}
use Rattle.pv_tree.specs.Trees.{Tree, leaf, cut, subtree, graft, settled, box_of, Paves, height, Fits, KeepsBox, HasDepth, counts_of}
use Rattle.pv_tree.specs.Arena.{tree_at, whole_tree, reach, cell_at, kept, kids_of, IsWhole, IsPlaced, Shows, IsLonger, IsRemarked, MarksRight, HasKids, Adds, outcome_of, open_node}
use Rattle.pv_tree.specs.Holes.{Hole, Growing, growth_over, holes_below, settle_first, settle_next, rest_of, pass_next, Takes, IsNext, IsFirstBox}
use Rattle.pv_tree.specs.Stops.{IsStop, low_stop, high_stop, stops_below, AreStacked, IsOpenStop, IsElsewhere, AreApart, holes_at, growing, IsGrowth}
use Rattle.pv_tree.specs.declared.cell.Cell.{Cell}
use Rattle.pv_tree.specs.declared.cell.Cell.TheVariants.{Open, Removed, Inner, Small, Cut}
use Rattle.pv_tree.specs.declared.cell.Node.{Node}
use Rattle.pv_tree.specs.declared.outcome.Counts.{Counts}
use Rattle.pv_tree.specs.declared.outcome.Outcome.{Outcome}
use Rattle.pv_tree.specs.declared.outcome.Outcome.TheVariants as outcome
use Rattle.pv_tree.specs.declared.stop.Stop.{Stop}
use Rattle.pv_tree.proofs.Cells.{missing, still_leads}
use Rattle.pv_tree.proofs.ArenaFacts.{shown}
use Rattle.pv_tree.proofs.Placing.{tree_remarked, linked_remarked}
use Rattle.pv_tree.proofs.Wholes.{open_whole, open_tree, take_length, box_length, put_tree, put_whole, put_marks, placed_kids}
use Rattle.pv_tree.proofs.Halves.{box_child}
use Rattle.pv_tree.proofs.Pieces.{graft_box}
use Rattle.pv_tree.proofs.Stacks.{stacked_front, stacked_last, stacked_more, box_below, stop_tree, child_stop}

-- the last item of a list
pub last_item : {A : Type 0} (n : ℕ) (xs : List A) (d : A) → length xs ≡ suc n → xs ≡ take n xs ++ get_or xs n d ∷ []
last_item n [] d h = cc
last_item zero (x ∷ []) d h = refl
last_item zero (x ∷ (y ∷ xs)) d h = cc
last_item {A = A} (suc n) (x ∷ xs) d h = ap (λ (l : List A). x ∷ l) (last_item n xs d (cc))

pub top_end : (ss : List Stop) (n : ℕ) (s : Stop) → length ss ≡ suc n → s ≡ get_or ss n s → ss ≡ take n ss ++ s ∷ []
top_end ss n s h e = last_item n ss s h ∙ ap (λ (x : Stop). take n ss ++ x ∷ []) (sym e)

-- stops apart
elsewhere_front : (k : ℕ) (ss ts : List Stop) → IsElsewhere k (ss ++ ts) → IsElsewhere k ss
elsewhere_front k [] ts h = tt
elsewhere_front k (s ∷ ss) ts h = (h.0, elsewhere_front k ss ts h.1)

elsewhere_last : (k : ℕ) (ss : List Stop) (s : Stop) → IsElsewhere k (ss ++ s ∷ []) → s.at ≡ k → ⊥
elsewhere_last k [] s h e = h.0 e
elsewhere_last k (x ∷ ss) s h e = elsewhere_last k ss s h.1 e

elsewhere_more : (k : ℕ) (ss ts : List Stop) → IsElsewhere k ss → IsElsewhere k ts → IsElsewhere k (ss ++ ts)
elsewhere_more k [] ts h m = m
elsewhere_more k (s ∷ ss) ts h m = (h.0, elsewhere_more k ss ts h.1 m)

apart_front : (ss ts : List Stop) → AreApart (ss ++ ts) → AreApart ss
apart_front [] ts h = tt
apart_front (s ∷ ss) ts h = (elsewhere_front s.at ss ts h.0, apart_front ss ts h.1)

apart_last : (ss : List Stop) (s : Stop) → AreApart (ss ++ s ∷ []) → IsElsewhere s.at ss
apart_last [] s h = tt
apart_last (x ∷ ss) s h = (λ e. elsewhere_last x.at ss s h.0 (sym e), apart_last ss s h.1)

kids_elsewhere : (k n : ℕ) (s : Stop) (o : Option ℕ) → k < n → ((c : ℕ) → o ≡ Some c → c ≡ n) → IsElsewhere k (stops_below s o)
kids_elsewhere k n s None h f = tt
kids_elsewhere k n s (Some c) h f = let e : c ≡ n = f c refl in (λ w. omega (arith, w), (λ w. omega (arith, w), tt))

kids_apart : (s : Stop) (o : Option ℕ) → AreApart (stops_below s o)
kids_apart s None = tt
kids_apart s (Some c) = ((λ w. omega (arith, w), tt), (tt, tt))

apart_kids : (ns : List Node) (n : ℕ) (s : Stop) (o : Option ℕ) (rest : List Stop) → ((c : ℕ) → o ≡ Some c → c ≡ length ns) → AreStacked (IsOpenStop ns) n rest → AreApart rest → AreApart (rest ++ stops_below s o)
apart_kids ns n s o [] f h k = kids_apart s o
apart_kids ns n s o (x ∷ rest) f h k = (elsewhere_more x.at rest (stops_below s o) k.0 (kids_elsewhere x.at (length ns) s o h.0.stop.there f), apart_kids ns (suc n) s o rest f h.2 k.1)

-- the holes of a stack
pub holes-push : (b : List Bounds) (t : Tree) (ss : List Stop) (s : Stop) → holes_at b t (ss ++ s ∷ []) ≡ record { path = s.path; box = box_of b t s.path } ∷ holes_at b t ss
holes-push b t [] s = refl
holes-push b t (x ∷ ss) s = ap (λ (hs : List Hole). hs ++ record { path = x.path; box = box_of b t x.path } ∷ []) (holes-push b t ss s)

pub holes-pair : (b : List Bounds) (t : Tree) (ss : List Stop) (x y : Stop) → holes_at b t (ss ++ x ∷ y ∷ []) ≡ record { path = y.path; box = box_of b t y.path } ∷ record { path = x.path; box = box_of b t x.path } ∷ holes_at b t ss
holes-pair b t ss x y =
    ap (holes_at b t) (sym (append_assoc ss (x ∷ []) (y ∷ []))) ∙ holes-push b t (ss ++ x ∷ []) y
    ∙ ap (λ (hs : List Hole). record { path = y.path; box = box_of b t y.path } ∷ hs) (holes-push b t ss x)

pub holes-length : (b : List Bounds) (t : Tree) (ss : List Stop) → length (holes_at b t ss) ≡ length ss
holes-length b t [] = refl
holes-length b t (s ∷ ss) =
    let e : length (holes_at b t ss) ≡ length ss = holes-length b t ss in
    let f : length (holes_at b t ss ++ record { path = s.path; box = box_of b t s.path } ∷ []) ≡ length (holes_at b t ss) + 1 = length-append (holes_at b t ss) (record { path = s.path; box = box_of b t s.path } ∷ []) in
    omega arith

pub last_one : (b : List Bounds) (t : Tree) (ss : List Stop) (n : ℕ) → 0 < length (holes_at b t ss) → n ≡ length ss → length ss ≡ suc (n - 1)
last_one b t ss n h e = let k : length (holes_at b t ss) ≡ length ss = holes-length b t ss in omega (arith, h, e)

pub open_growth : (b es : List Bounds) (most : ℕ) → length es ≡ 0 → IsBox b → 201 ≤ most → IsGrowth b es (open_node ∷ []) (counts_of leaf) (record { at = 0; parent = 0; path = [] } ∷ []) most
open_growth b es most none h room = record {
  whole = open_whole b es none h;
  stops = (record { stop = record { leads = refl; few = omega arith; there = omega arith; parent = λ w. absurd (omega (arith, w)); parent_there = omega arith }; is_open = refl }, omega arith, tt);
  apart = (tt, tt);
  room = room;
}

pub open_growing : (b es : List Bounds) → growing b (whole_tree (length b) es (open_node ∷ [])) (record { at = 0; parent = 0; path = [] } ∷ []) ≡ growth_over b
open_growing b es = λ i. record { root = b; tree = open_tree (length b) es i; holes = record { path = []; box = b } ∷ [] }

-- marks keep a whole paving
pub whole_remarked : (b es : List Bounds) (ns ms : List Node) (counts : Counts) → IsWhole b es ns counts → IsRemarked ns ms → IsWhole b es ms counts
whole_remarked b es ns ms counts h r =
    let same : whole_tree (length b) es ms ≡ whole_tree (length b) es ns = tree_remarked (length b) es ns ms r 201 0 in
    record {
      arena = record { label = h.arena.label; linked = linked_remarked (length b) es ns ms r h.arena.label h.arena.linked };
      paving = record { box = h.paving.box; paves = subst (λ (t : Tree). Paves b t) (sym same) h.paving.paves; depth = let d : height (whole_tree (length b) es ns) ≤ 200 = h.paving.depth in subst (λ (t : Tree). height t ≤ 200) (sym same) d };
      counted = h.counted ∙ sym (ap counts_of same);
      bound = omega (arith, h.bound, r.size);
      few_nodes = omega (arith, h.few_nodes, r.size);
      few_ends = h.few_ends;
    }

-- a cell with children shows a cut
short_of : (p : List Bool) (d : ℕ) (es : List Bounds) (x : Cell) (o : Outcome) (c : ℕ) → kids_of x ≡ Some c → outcome_of d es x ≡ Some o → HasDepth p o → length p < 200
short_of p d es Open o c e h k = cc
short_of p d es Removed o c e h k = cc
short_of p d es (Inner t) o c e h k = cc
short_of p d es (Small t) o c e h k = cc
short_of p d es (Cut t v a i) o c e h k = let w : o ≡ outcome.Cut (kept d es t) v a = cc in subst (HasDepth p) w k

-- the leaf on top of a stack
module _ (b es : List Bounds) (ns : List Node) (counts : Counts) (stack rest : List Stop) (s : Stop) (most : ℕ) (growth : IsGrowth b es ns counts stack most) (popped : stack ≡ rest ++ s ∷ []) where
  abbrev tree_now : Tree
  tree_now = whole_tree (length b) es ns

  abbrev top_hole : Hole
  top_hole = record { path = s.path; box = box_of b (whole_tree (length b) es ns) s.path }

  abbrev grown_with : Tree → List Hole → Growing
  grown_with t hs = record { root = b; tree = t; holes = hs }

  grown_same : (t u : Tree) (hs ks : List Hole) → t ≡ u → hs ≡ ks → grown_with t hs ≡ grown_with u ks
  grown_same t u hs ks p q = λ i. record { root = b; tree = p i; holes = q i }

  split : AreStacked (IsOpenStop ns) 0 (rest ++ s ∷ [])
  split = subst (AreStacked (IsOpenStop ns) 0) popped growth.stops

  pub top_open : IsOpenStop ns s
  top_open = (stacked_last (IsOpenStop ns) 0 rest s split).0

  pub top_low : length rest ≤ length s.path
  top_low = let h : 0 + length rest ≤ length s.path = (stacked_last (IsOpenStop ns) 0 rest s split).1 in omega arith

  rest_open : AreStacked (IsOpenStop ns) 0 rest
  rest_open = stacked_front (IsOpenStop ns) 0 rest (s ∷ []) split

  away : IsElsewhere s.at rest
  away = apart_last rest s (subst AreApart popped growth.apart)

  pub holes_split : holes_at b tree_now stack ≡ top_hole ∷ holes_at b tree_now rest
  holes_split = ap (holes_at b tree_now) popped ∙ holes-push b tree_now rest s

  pub top_leaf : subtree tree_now s.path ≡ Some leaf
  top_leaf = stop_tree b es ns counts growth.whole s top_open.stop ∙ ap (λ (x : Cell). Some (shown (length b) es ns (200 - length s.path) x)) top_open.is_open

  pub top_takes : (o : Outcome) → Takes (holes_at b tree_now stack) o → Fits (box_of b tree_now s.path) o × HasDepth s.path o
  top_takes o h = subst (λ (hs : List Hole). Takes hs o) holes_split h

  pub top_next : IsNext (growing b tree_now stack) s.path
  top_next = record {
    hole = top_hole;
    rest = holes_at b tree_now rest;
    is = holes_split;
    path = refl;
    is_leaf = top_leaf;
    box = refl;
    dims = box_length b tree_now s.path growth.whole.paving.paves;
    is_box = box_below b tree_now s.path growth.whole.paving.box growth.whole.paving.paves;
    few = top_open.stop.few;
  }

  pub top_box : (into : List Bounds) → into ≡ box_of b tree_now s.path → IsFirstBox (holes_at b tree_now stack) into
  top_box into e = subst (λ (hs : List Hole). IsFirstBox hs into) (sym holes_split) e

  pub passed : IsGrowth b es ns counts rest most
  passed = record { whole = growth.whole; stops = rest_open; apart = apart_front rest (s ∷ []) (subst AreApart popped growth.apart); room = growth.room }

  pub passed_is : growing b tree_now rest ≡ pass_next (growing b tree_now stack)
  passed_is = sym (ap (λ (hs : List Hole). grown_with tree_now (rest_of hs)) holes_split)

  -- after it is settled
  module _ (fs : List Bounds) (ms : List Node) (after : Counts) (x : Cell) (o : Outcome) (fits : Fits (box_of b (whole_tree (length b) es ns) s.path) o) (depth : HasDepth s.path o) (shows : Shows (length b) fs x o (length ns)) (longer : IsLonger es fs) (placed : IsPlaced ns ms s.at x) where
    reached : reach ns 0 (take (length s.path) s.path) ≡ Some s.at
    reached = ap (reach ns 0) (take_length s.path) ∙ top_open.stop.leads

    pub settled_marks : MarksRight ms
    settled_marks = put_marks b es fs ns ms counts s.path s.at x o growth.whole top_open.stop.few reached top_open.stop.there top_leaf depth longer shows placed

    remarked : IsRemarked ms ms
    remarked = record { cells = λ k. refl; size = refl; right = settled_marks }

    pub settled_kids : HasKids ms
    settled_kids = placed_kids b es ns ms counts s.at x growth.whole placed (length b) fs o shows top_open.stop.there

    grows : length ns ≤ length ms
    grows = omega (arith, placed.size)

    lead : (p : List Bool) (k i : ℕ) → reach ns k p ≡ Some i → reach ms k p ≡ Some i
    lead = still_leads ns ms s.at (λ k _ ne. placed.others k ne) top_open.is_open

    stop_stays : (y : Stop) → IsStop ns y → IsStop ms y
    stop_stays y h = record {
      leads = lead y.path 0 y.at h.leads;
      few = h.few;
      there = let w : y.at < length ns = h.there in let g : length ns ≤ length ms = grows in omega arith;
      parent = λ some. lead (take (length y.path - 1) y.path) 0 y.parent (h.parent some);
      parent_there = let w : y.parent < length ns = h.parent_there in let g : length ns ≤ length ms = grows in omega arith;
    }

    rest_stays : (n : ℕ) (ss : List Stop) → IsElsewhere s.at ss → AreStacked (IsOpenStop ns) n ss → AreStacked (IsOpenStop ms) n ss
    rest_stays n [] e h = tt
    rest_stays n (y ∷ ss) e h = (record { stop = stop_stays y h.0.stop; is_open = placed.others y.at e.0 ∙ h.0.is_open }, h.1, rest_stays (suc n) ss e.1 h.2)

    pub settled_stop : IsStop ms s
    settled_stop = stop_stays s top_open.stop

    new_open : (k : ℕ) → length ns ≤ k → cell_at ms k ≡ Open
    new_open k h = placed.others k (λ e. let there : s.at < length ns = top_open.stop.there in omega (arith, e)) ∙ missing ns k h

    pub kids_end : (c : ℕ) → kids_of (cell_at ms s.at) ≡ Some c → c ≡ length ns
    kids_end c e = shows.kids_there c (sym (ap kids_of placed.here) ∙ e)

    pub settled_short : (c : ℕ) → kids_of (cell_at ms s.at) ≡ Some c → length s.path < 200
    settled_short c e = short_of s.path (length b) fs x o c (sym (ap kids_of placed.here) ∙ e) shows.outcome depth

    module _ (keeps : KeepsBox o) (adds : Adds counts (counts_of (settled o)) after) (few : length fs ≤ length es + length b) where
      abbrev tree_new : Tree
      tree_new = whole_tree (length b) fs ms

      pub tree_is : tree_new ≡ graft tree_now s.path (settled o)
      tree_is = put_tree b es fs ns ms ms counts after s.path s.at x o growth.whole top_open.stop.few reached top_open.stop.there top_leaf fits keeps depth longer shows placed remarked adds

      pub settled_whole : IsWhole b fs ms after
      settled_whole = put_whole b es fs ns ms ms counts after s.path s.at x o growth.whole top_open.stop.few reached top_open.stop.there top_leaf fits keeps depth longer shows placed remarked adds few

      kids_open : (n : ℕ) (k : Option ℕ) → kids_of (cell_at ms s.at) ≡ k → n ≤ length s.path → AreStacked (IsOpenStop ms) n (stops_below s k)
      kids_open n None e h = tt
      kids_open n (Some c) e h =
          let end : c ≡ length ns = kids_end c e in
          let low : length (s.path ++ false ∷ []) ≡ length s.path + 1 = length-append s.path (false ∷ []) in
          let high : length (s.path ++ true ∷ []) ≡ length s.path + 1 = length-append s.path (true ∷ []) in (
            record { stop = child_stop b fs ms after settled_whole s settled_stop c true e; is_open = new_open (c + 1) (omega arith) },
            omega arith,
            (record { stop = child_stop b fs ms after settled_whole s settled_stop c false e; is_open = new_open c (omega arith) }, omega arith, tt),
          )

      pub settled_growth : (stack' : List Stop) (most' : ℕ) → stack' ≡ rest ++ stops_below s (kids_of (cell_at ms s.at)) → most' ≡ most → IsGrowth b fs ms after stack' most'
      settled_growth stack' most' e i = record {
        whole = settled_whole;
        stops = subst (AreStacked (IsOpenStop ms) 0) (sym e)
            (stacked_more (IsOpenStop ms) 0 rest (stops_below s (kids_of (cell_at ms s.at))) (rest_stays 0 rest away rest_open)
            (kids_open (0 + length rest) (kids_of (cell_at ms s.at)) refl (let h : length rest ≤ length s.path = top_low in omega arith)));
        apart = subst AreApart (sym e) (apart_kids ns 0 s (kids_of (cell_at ms s.at)) rest kids_end rest_open passed.apart);
        room = let r : 201 ≤ most = growth.room in omega arith;
      }

      rest_box : (y : Stop) → IsStop ns y → box_of b tree_new y.path ≡ box_of b tree_now y.path
      rest_box y h =
          ap (λ (t : Tree). box_of b t y.path) tree_is
          ∙ graft_box b tree_now s.path y.path (settled o) (shown (length b) es ns (200 - length y.path) (cell_at ns y.at)) top_leaf (stop_tree b es ns counts growth.whole y h)

      rest_holes : (n : ℕ) (ss : List Stop) → AreStacked (IsOpenStop ns) n ss → holes_at b tree_new ss ≡ holes_at b tree_now ss
      rest_holes n [] h = refl
      rest_holes n (y ∷ ss) h = λ i. rest_holes (suc n) ss h.2 i ++ record { path = y.path; box = rest_box y h.0.stop i } ∷ []

      kids_holes : (y : Cell) → cell_at ms s.at ≡ y → outcome_of (length b) fs y ≡ Some o → holes_at b tree_new (rest ++ stops_below s (kids_of y)) ≡ holes_below top_hole o ++ holes_at b tree_new rest
      kids_holes Open e h = cc
      kids_holes Removed e h = let w : outcome.Removed ≡ o = cc in ap (holes_at b tree_new) (append-nil rest) ∙ ap (λ (u : Outcome). holes_below top_hole u ++ holes_at b tree_new rest) w
      kids_holes (Inner t) e h = let w : outcome.Inner (kept (length b) fs t) ≡ o = cc in ap (holes_at b tree_new) (append-nil rest) ∙ ap (λ (u : Outcome). holes_below top_hole u ++ holes_at b tree_new rest) w
      kids_holes (Small t) e h = let w : outcome.Small (kept (length b) fs t) ≡ o = cc in ap (holes_at b tree_new) (append-nil rest) ∙ ap (λ (u : Outcome). holes_below top_hole u ++ holes_at b tree_new rest) w
      kids_holes (Cut t v a c) e h =
          let w : outcome.Cut (kept (length b) fs t) v a ≡ o = cc in
          let here : subtree tree_new s.path ≡ Some (cut (kept (length b) fs t) v a (tree_at (length b) fs ms (200 - length s.path) c) (tree_at (length b) fs ms (200 - length s.path) (c + 1))) =
          stop_tree b fs ms after settled_whole s settled_stop ∙ ap (λ (z : Cell). Some (shown (length b) fs ms (200 - length s.path) z)) e in
          holes-pair b tree_new rest (high_stop s c) (low_stop s c)
          ∙ (λ i. record { path = s.path ++ false ∷ []; box = box_child b tree_new s.path false (kept (length b) fs t) v a (tree_at (length b) fs ms (200 - length s.path) c) (tree_at (length b) fs ms (200 - length s.path) (c + 1)) here i }
          ∷ record { path = s.path ++ true ∷ []; box = box_child b tree_new s.path true (kept (length b) fs t) v a (tree_at (length b) fs ms (200 - length s.path) c) (tree_at (length b) fs ms (200 - length s.path) (c + 1)) here i }
          ∷ holes_at b tree_new rest)
          ∙ ap (λ (u : Outcome). holes_below top_hole u ++ holes_at b tree_new rest) w

      pub settled_is : (stack' : List Stop) → stack' ≡ rest ++ stops_below s (kids_of (cell_at ms s.at)) → growing b tree_new stack' ≡ settle_next (growing b tree_now stack) o
      settled_is stack' e =
          let holes : holes_at b tree_new stack' ≡ holes_below top_hole o ++ holes_at b tree_now rest =
          ap (holes_at b tree_new) e ∙ kids_holes (cell_at ms s.at) refl (ap (outcome_of (length b) fs) placed.here ∙ shows.outcome)
          ∙ ap (λ (hs : List Hole). holes_below top_hole o ++ hs) (rest_holes 0 rest rest_open) in
          grown_same tree_new (graft tree_now s.path (settled o)) (holes_at b tree_new stack') (holes_below top_hole o ++ holes_at b tree_now rest) tree_is holes
          ∙ sym (ap (λ (hs : List Hole). settle_first b tree_now hs o) holes_split)
