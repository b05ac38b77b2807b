-- A whole paving after an open leaf was settled.
use Rattle.std.proofs.Common.{if◌then◌else◌, ◌≡◌, inl, inr, ℕ, zero, suc, ◌+◌, ◌-◌, ◌*◌, ◌<◌, ◌≤◌, Bool, true, false, Option, Some, None, List, [], ◌∷◌, ◌++◌, length, take, drop, refl, sym, ◌∙◌, ap, arith, subst, mul-suc}
use Rattle.std.specs.Option.{option_map}
use Rattle.std.proofs.lemmas.Bool.Decides.{eqb_tells}
use Rattle.std.proofs.Math.ListN.{drop_of_length-le}
use Rattle.std.proofs.Math.Seq.{take-append_seam}
use Rattle.pv_num.specs.Extended.{Extended}
use Rattle.pv_interval.specs.Bounds.{Bounds}
use Rattle.pv_box.specs.Boxes.{IsBox, lower_half, upper_half}
use Rattle.pv_tree.specs.Trees.{Tree, leaf, removed, inner, small, cut, subtree, graft, height, settled, box_of, Paves, Fits, KeepsBox, HasDepth, IsWithin, counts_of, settled_of, shape_of}
use Rattle.pv_tree.specs.Arena.{tree_at, whole_tree, reach, cell_at, closed_at, kept, kids_of, start_of, IsLinked, open_node, IsPlaced, is_cut, is_a_cut, outcome_of, Shows, IsLonger, IsRemarked, MarksRight, HasKids, IsWhole, HasPlaces, places_of, Adds, shape_of_cell, shape_of_found, cell_along}
use Rattle.pv_tree.specs.declared.cell.Cell.{Cell}
use Rattle.pv_tree.specs.declared.cell.Cell.TheVariants.{Open, Removed, Inner, Small, Cut}
use Rattle.pv_tree.specs.declared.cell.Node.{Node}
use Rattle.pv_tree.specs.declared.outcome.Counts.{Counts}
use Rattle.pv_tree.specs.declared.outcome.Outcome.{Outcome}
use Rattle.pv_tree.specs.declared.outcome.Outcome.TheVariants as outcome
use Rattle.std.proofs.Math.Nat.{mul-add}
use Rattle.pv_tree.proofs.TreeFacts.{graft_paves, settled_paves, settled_one, graft_counts}
use Rattle.pv_tree.proofs.ArenaFacts.{shown, tree_at-is, deep, deep-is, grafted, subtree-reach, reach_label}
use Rattle.pv_tree.proofs.Placing.{low_whole, settled_tree, relabel, relinked, tree_remarked, linked_remarked, longer_kept}

pub open_tree : (d : ℕ) (es : List Bounds) → whole_tree d es (open_node ∷ []) ≡ leaf
open_tree d es = tree_at-is d es (open_node ∷ []) 200 0 Open refl

open_cell : (k : ℕ) → cell_at (open_node ∷ []) k ≡ Open
open_cell zero = refl
open_cell (suc k) = refl

open_mark : (k : ℕ) → closed_at (open_node ∷ []) k ≡ false
open_mark zero = refl
open_mark (suc k) = refl

pub open_whole : (b : List Bounds) (es : List Bounds) → length es ≡ 0 → IsBox b → IsWhole b es (open_node ∷ []) (counts_of leaf)
open_whole b es none h =
    let t : whole_tree (length b) es (open_node ∷ []) ≡ leaf = open_tree (length b) es in
    record {
      arena = record {
        label = λ k. [];
        linked = record {
          some = omega arith;
          root = refl;
          reached = λ k here. let w : 0 ≡ k = omega arith in ap Some w;
          kids = λ k c e. let w : None ≡ Some c = sym (ap kids_of (open_cell k)) ∙ e in cc;
          starts = λ k s e. let w : None ≡ Some s = sym (ap start_of (open_cell k)) ∙ e in cc;
          closed = λ k e. let w : false ≡ true = sym (open_mark k) ∙ e in cc;
        };
      };
      paving = record { box = h; paves = subst (Paves b) (sym t) tt; depth = let e : height (whole_tree (length b) es (open_node ∷ [])) ≡ 0 = ap height t in omega arith };
      counted = sym (ap counts_of t);
      bound = omega arith;
      few_nodes = omega arith;
      few_ends = omega arith;
    }

pub whole_kids : (b es : List Bounds) (ns : List Node) (counts : Counts) → IsWhole b es ns counts → HasKids ns
whole_kids b es ns counts h = record { some = h.arena.linked.some; kids = λ k c e. (h.arena.linked.kids k c e).there }

pub half_length : (low : Bool) (b : List Bounds) (v : ℕ) (a : Extended) → length (if low then lower_half b v a else upper_half b v a) ≡ length b
half_length true [] v a = refl
half_length false [] v a = refl
half_length true (x ∷ b) zero a = refl
half_length false (x ∷ b) zero a = refl
half_length true (x ∷ b) (suc v) a = ap suc (half_length true b v a)
half_length false (x ∷ b) (suc v) a = ap suc (half_length false b v a)

pub within_length : (a b : List Bounds) → IsWithin a b → length a ≡ length b
within_length [] [] h = refl
within_length [] (y ∷ b) h = absurd h
within_length (x ∷ a) [] h = absurd h
within_length (x ∷ a) (y ∷ b) h = ap suc (within_length a b h.2)

-- every node's box has the places of the root
pub box_length : (b : List Bounds) (t : Tree) (p : List Bool) → Paves b t → length (box_of b t p) ≡ length b
box_length b t [] h = refl
box_length b (cut to v a l r) (false ∷ p) h = box_length (lower_half to v a) l p h.3 ∙ half_length true to v a ∙ within_length to b h.1
box_length b (cut to v a l r) (true ∷ p) h = box_length (upper_half to v a) r p h.4 ∙ half_length false to v a ∙ within_length to b h.1
box_length b leaf (c ∷ p) h = refl
box_length b removed (c ∷ p) h = refl
box_length b (inner to) (c ∷ p) h = refl
box_length b (small to) (c ∷ p) h = refl

fit_places : (d : ℕ) (b : List Bounds) (o : Outcome) → length b ≡ d → Fits b o → HasPlaces d o
fit_places d b outcome.Removed e h = tt
fit_places d b (outcome.Inner to) e h = within_length to b h ∙ e
fit_places d b (outcome.Small to) e h = within_length to b h ∙ e
fit_places d b (outcome.Cut to v a) e h = within_length to b h.0 ∙ e

pub few_places : (d : ℕ) (o : Outcome) → HasPlaces d o → places_of o ≤ d
few_places d outcome.Removed h = omega arith
few_places d (outcome.Inner to) h = omega (arith, h)
few_places d (outcome.Small to) h = omega (arith, h)
few_places d (outcome.Cut to v a) h = omega (arith, h)

leaf_is_open : (d : ℕ) (es : List Bounds) (ns : List Node) (f : ℕ) (x : Cell) → shown d es ns f x ≡ leaf → x ≡ Open
leaf_is_open d es ns f Open e = refl
leaf_is_open d es ns f Removed e = cc
leaf_is_open d es ns f (Inner s) e = cc
leaf_is_open d es ns f (Small s) e = cc
leaf_is_open d es ns f (Cut s v a c) e = cc

cut_alike : (d : ℕ) (es : List Bounds) (x : Cell) (o : Outcome) → outcome_of d es x ≡ Some o → is_cut x ≡ is_a_cut o
cut_alike d es Open o e = cc
cut_alike d es Removed o e = let w : outcome.Removed ≡ o = cc in ap is_a_cut w
cut_alike d es (Inner s) o e = let w : outcome.Inner (kept d es s) ≡ o = cc in ap is_a_cut w
cut_alike d es (Small s) o e = let w : outcome.Small (kept d es s) ≡ o = cc in ap is_a_cut w
cut_alike d es (Cut s v a c) o e = let w : outcome.Cut (kept d es s) v a ≡ o = cc in ap is_a_cut w

deep_cut : (p : List Bool) (o : Outcome) (g : ℕ) → g ≡ 200 - length p → is_a_cut o ≡ true → HasDepth p o → 0 < g
deep_cut p outcome.Removed g e c h = cc
deep_cut p (outcome.Inner to) g e c h = cc
deep_cut p (outcome.Small to) g e c h = cc
deep_cut p (outcome.Cut to v a) g e c h = omega (arith, h)

short_cut : (p : List Bool) (o : Outcome) → is_a_cut o ≡ true → HasDepth p o → length p < 200
short_cut p outcome.Removed c h = cc
short_cut p (outcome.Inner to) c h = cc
short_cut p (outcome.Small to) c h = cc
short_cut p (outcome.Cut to v a) c h = h

pub settled_size : (o : Outcome) → settled_of (counts_of (settled o)) + (counts_of (settled o)).open_leaves ≡ 1 + (if is_a_cut o then 2 else 0)
settled_size outcome.Removed = refl
settled_size (outcome.Inner to) = refl
settled_size (outcome.Small to) = refl
settled_size (outcome.Cut to v a) = refl

counts_path : (a b : Counts) → a.cut ≡ b.cut → a.removed ≡ b.removed → a.inner ≡ b.inner → a.small ≡ b.small → a.open_leaves ≡ b.open_leaves → a ≡ b
counts_path a b p q r s t = λ i. record { cut = p i; removed = q i; inner = r i; small = s i; open_leaves = t i }

pub adds_unique : (old part x y : Counts) → Adds old part x → Adds old part y → x ≡ y
adds_unique old part x y h k =
    counts_path x y (h.cut ∙ sym k.cut) (h.removed ∙ sym k.removed) (h.inner ∙ sym k.inner) (h.small ∙ sym k.small)
    (let e : x.open_leaves ≡ y.open_leaves = omega (arith, h.open_leaves, k.open_leaves) in e)

kids_cut : (x : Cell) (c : ℕ) → kids_of x ≡ Some c → is_cut x ≡ true
kids_cut Open c e = cc
kids_cut Removed c e = cc
kids_cut (Inner s) c e = cc
kids_cut (Small s) c e = cc
kids_cut (Cut s v a k) c e = refl

pub take_length : (p : List Bool) → take (length p) p ≡ p
take_length [] = refl
take_length (b ∷ p) = ap (λ (q : List Bool). b ∷ q) (take_length p)

-- the node at a path that is there
module _ (d : ℕ) (es : List Bounds) (ns : List Node) (p : List Bool) (short : length p ≤ 200) where
  abbrev pub left : ℕ
  left = 200 - length p

  pub fuel : deep p (suc left) ≡ 201
  fuel = let e : deep p (suc left) ≡ length p + suc left = deep-is p (suc left) in omega arith

  pub subtree_there : subtree (whole_tree d es ns) p ≡ option_map (tree_at d es ns (suc left)) (reach ns 0 (take (length p) p))
  subtree_there =
      ap (λ (f : ℕ). subtree (tree_at d es ns f 0) p) (sym fuel) ∙ subtree-reach d es ns left p 0
      ∙ ap (λ (q : List Bool). option_map (tree_at d es ns (suc left)) (reach ns 0 q)) (sym (take_length p))

  pub open_there : (j : ℕ) → reach ns 0 (take (length p) p) ≡ Some j → subtree (whole_tree d es ns) p ≡ Some leaf → cell_at ns j ≡ Open
  open_there j r o =
      let e : Some (tree_at d es ns (suc left) j) ≡ Some leaf = sym (ap (option_map (tree_at d es ns (suc left))) r) ∙ sym subtree_there ∙ o in
      let w : tree_at d es ns (suc left) j ≡ leaf = cc in
      leaf_is_open d es ns left (cell_at ns j) (sym (tree_at-is d es ns left j (cell_at ns j) refl) ∙ w)

at_most : (n m : ℕ) (y : Bool) → m ≡ n + (if y then 2 else 0) → m ≤ n + 2
at_most n m true e = omega (arith, e)
at_most n m false e = omega (arith, e)

pub more_nodes : (ns ms : List Node) (j : ℕ) (x : Cell) → IsPlaced ns ms j x → length ms ≤ length ns + 2
more_nodes ns ms j x placed = at_most (length ns) (length ms) (is_cut x) placed.size

module _ (b es fs : List Bounds) (ns ms ks : List Node) (counts after : Counts) (p : List Bool) (j : ℕ) (x : Cell) (o : Outcome) where
  module _ (whole : IsWhole b es ns counts) (short : length p ≤ 200) (reached : reach ns 0 (take (length p) p) ≡ Some j) (there : j < length ns) (is_open : subtree (whole_tree (length b) es ns) p ≡ Some leaf)
      (fits : Fits (box_of b (whole_tree (length b) es ns) p) o) (keeps : KeepsBox o) (depth : HasDepth p o) (longer : IsLonger es fs) (shows : Shows (length b) fs x o (length ns)) (placed : IsPlaced ns ms j x)
      (remarked : IsRemarked ms ks) (adds : Adds counts (counts_of (settled o)) after) where
    reach_p : reach ns 0 p ≡ Some j
    reach_p = ap (reach ns 0) (sym (take_length p)) ∙ reached

    label_j : whole.arena.label j ≡ p
    label_j = reach_label (length b) es ns whole.arena.label whole.arena.linked p 0 j reach_p ∙ ap (λ (l : List Bool). l ++ p) whole.arena.linked.root

    cut_o : is_cut x ≡ is_a_cut o
    cut_o = cut_alike (length b) fs x o shows.outcome

    pub put_tree : whole_tree (length b) fs ks ≡ graft (whole_tree (length b) es ns) p (settled o)
    put_tree =
        let g : ℕ = 200 - length p in
        tree_remarked (length b) fs ms ks remarked 201 0
        ∙ ap (λ (f : ℕ). tree_at (length b) fs ms f 0) (sym (fuel (length b) es ns p short))
        ∙ grafted (length b) es ns whole.arena.label whole.arena.linked fs ms j (λ k _ ne. placed.others k ne) (longer_kept (length b) es fs longer) (suc (200 - length p)) p 0 reach_p
        ∙ ap (λ (f : ℕ). graft (tree_at (length b) es ns f 0) p (tree_at (length b) fs ms (suc (200 - length p)) j)) (fuel (length b) es ns p short)
        ∙ ap (graft (whole_tree (length b) es ns) p)
        (settled_tree (length b) es fs ns ms whole.arena.label whole.arena.linked j x o longer (open_there (length b) es ns p short j reached is_open) there shows placed
        (200 - length p) (λ c. deep_cut p o (200 - length p) refl (sym cut_o ∙ c) depth))

    put_linked : IsLinked (length b) fs ks (relabel whole.arena.label j (length ns))
    put_linked =
        linked_remarked (length b) fs ms ks remarked (relabel whole.arena.label j (length ns))
        (relinked (length b) es fs ns ms whole.arena.label whole.arena.linked j x o longer (open_there (length b) es ns p short j reached is_open) there shows placed
        (λ c. let h : length p < 200 = short_cut p o (sym cut_o ∙ c) depth in let e : length (whole.arena.label j) ≡ length p = ap length label_j in omega arith))

    put_counted : after ≡ counts_of (whole_tree (length b) fs ks)
    put_counted =
        adds_unique counts (counts_of (settled o)) after (counts_of (graft (whole_tree (length b) es ns) p (settled o))) adds
        (subst (λ (c : Counts). Adds c (counts_of (settled o)) (counts_of (graft (whole_tree (length b) es ns) p (settled o)))) (sym whole.counted)
        (graft_counts (whole_tree (length b) es ns) p (settled o) is_open))
        ∙ sym (ap counts_of put_tree)

    put_bound : settled_of after + after.open_leaves ≤ length ks
    put_bound =
        let size : length ms ≡ length ns + (if is_a_cut o then 2 else 0) = placed.size ∙ ap (λ (y : Bool). length ns + (if y then 2 else 0)) cut_o in
        let part : settled_of (counts_of (settled o)) + (counts_of (settled o)).open_leaves ≡ 1 + (if is_a_cut o then 2 else 0) = settled_size o in
        omega (arith, size, part, remarked.size, adds.cut, adds.removed, adds.inner, adds.small, adds.open_leaves, whole.bound)

    put_settled : settled_of after ≡ settled_of counts + 1
    put_settled = let one : settled_of (counts_of (settled o)) ≡ 1 = settled_one o in omega (arith, adds.cut, adds.removed, adds.inner, adds.small, one)

    put_few_nodes : length ks ≤ 1 + 2 * settled_of after
    put_few_nodes = omega (arith, remarked.size, more_nodes ns ms j x placed, put_settled, whole.few_nodes)

    put_few_ends : length fs ≤ length es + length b → length fs ≤ length b * settled_of after
    put_few_ends few =
        let e : length b * settled_of after ≡ length b * (settled_of counts + 1) = ap (λ (n : ℕ). length b * n) put_settled in
        let m : length b * (settled_of counts + 1) ≡ length b * settled_of counts + length b * 1 = mul-add (length b) (settled_of counts) 1 in
        let w : length es ≤ length b * settled_of counts = whole.few_ends in
        omega arith

    pub put_whole : length fs ≤ length es + length b → IsWhole b fs ks after
    put_whole few = record {
      arena = record { label = relabel whole.arena.label j (length ns); linked = put_linked };
      paving = record {
        box = whole.paving.box;
        paves = subst (Paves b) (sym put_tree) (graft_paves b (whole_tree (length b) es ns) p (settled o) is_open whole.paving.paves (settled_paves (box_of b (whole_tree (length b) es ns) p) o fits keeps));
        depth = low_whole (length b) fs ks (relabel whole.arena.label j (length ns)) put_linked;
      };
      counted = put_counted;
      bound = put_bound;
      few_nodes = put_few_nodes;
      few_ends = put_few_ends few;
    }

module _ (b es fs : List Bounds) (ns ms : List Node) (counts : Counts) (p : List Bool) (j : ℕ) (x : Cell) (o : Outcome) where
  pub put_marks : IsWhole b es ns counts → length p ≤ 200 → reach ns 0 (take (length p) p) ≡ Some j → j < length ns → subtree (whole_tree (length b) es ns) p ≡ Some leaf → HasDepth p o → IsLonger es fs → Shows (length b) fs x o (length ns) → IsPlaced ns ms j x → MarksRight ms
  put_marks whole short reached there is_open depth longer shows placed =
      let label_j : whole.arena.label j ≡ p = reach_label (length b) es ns whole.arena.label whole.arena.linked p 0 j (ap (reach ns 0) (sym (take_length p)) ∙ reached) ∙ ap (λ (l : List Bool). l ++ p) whole.arena.linked.root in
      (relinked (length b) es fs ns ms whole.arena.label whole.arena.linked j x o longer (open_there (length b) es ns p short j reached is_open) there shows placed
      (λ c. let h : length p < 200 = short_cut p o (sym (cut_alike (length b) fs x o shows.outcome) ∙ c) depth in let e : length (whole.arena.label j) ≡ length p = ap length label_j in omega arith)).closed

pub one_room : (d spare ends room places : ℕ) → places ≤ d → 1 ≤ spare → ends + d * spare ≤ room → ends + places ≤ room
one_room d zero ends room places few some h = absurd (omega arith)
one_room d (suc spare) ends room places few some h = let e : d * suc spare ≡ d * spare + d = mul-suc d spare in omega arith

pub less_room : (d spare ends room places ends' room' : ℕ) → places ≤ d → 1 ≤ spare → ends + d * spare ≤ room → ends' ≡ ends + places → room' ≡ room → ends' + d * (spare - 1) ≤ room'
less_room d zero ends room places ends' room' few some h e f = absurd (omega arith)
less_room d (suc spare) ends room places ends' room' few some h e f =
    let m : d * suc spare ≡ d * spare + d = mul-suc d spare in
    let n : d * (suc spare - 1) ≡ d * spare = ap (λ (k : ℕ). d * k) (let w : suc spare - 1 ≡ spare = omega arith in w) in
    omega arith

-- what the outcome of a fitting settling takes in
pub put_places : (b es : List Bounds) (ns : List Node) (counts : Counts) (p : List Bool) (o : Outcome) → IsWhole b es ns counts → Fits (box_of b (whole_tree (length b) es ns) p) o → HasPlaces (length b) o
put_places b es ns counts p o whole fits = fit_places (length b) (box_of b (whole_tree (length b) es ns) p) o (box_length b (whole_tree (length b) es ns) p whole.paving.paves) fits

pub written_back : {A : Type 0} (n : ℕ) (xs ys : List A) → length xs ≡ n → length ys ≡ n → take n (xs ++ drop (length xs) ys) ≡ xs
written_back {A = A} n xs ys e h =
    let past : drop (length xs) ys ≡ [] = drop_of_length-le ys (let w : length ys ≤ length xs = omega arith in w) in
    ap (λ (t : List A). take n (xs ++ t)) past ∙ ap (λ (m : ℕ). take m (xs ++ [])) (sym e) ∙ take-append_seam xs []

pub remarked_back : (ns ks : List Node) (n : ℕ) → IsRemarked ns ks → length ns ≡ n → IsRemarked ns (take n (ks ++ drop (length ks) ns))
remarked_back ns ks n h e = subst (IsRemarked ns) (sym (written_back n ks ns (h.size ∙ e) e)) h

pub found : (d : ℕ) (es : List Bounds) (ns : List Node) (p : List Bool) → length p ≤ 200 → subtree (whole_tree d es ns) p ≡ Some leaf → reach ns 0 (take (length p) p) ≡ None → ⊥
found d es ns p short o r = let e : None ≡ Some leaf = sym (ap (option_map (tree_at d es ns (suc (200 - length p)))) r) ∙ sym (subtree_there d es ns p short) ∙ o in cc

pub some_open : (b es : List Bounds) (ns : List Node) (counts : Counts) (p : List Bool) → IsWhole b es ns counts → subtree (whole_tree (length b) es ns) p ≡ Some leaf → 0 < counts.open_leaves
some_open b es ns counts p whole o =
    let t : Tree = whole_tree (length b) es ns in
    let a : Adds (counts_of (whole_tree (length b) es ns)) (counts_of removed) (counts_of (graft (whole_tree (length b) es ns) p removed)) = graft_counts (whole_tree (length b) es ns) p removed o in
    let e : counts.open_leaves ≡ (counts_of (whole_tree (length b) es ns)).open_leaves = ap (λ (c : Counts). c.open_leaves) whole.counted in
    omega (arith, a.open_leaves)

pub placed_kids : (b es : List Bounds) (ns ms : List Node) (counts : Counts) (j : ℕ) (x : Cell) → IsWhole b es ns counts → IsPlaced ns ms j x → (d : ℕ) (fs : List Bounds) (o : Outcome) → Shows d fs x o (length ns) → j < length ns → HasKids ms
placed_kids b es ns ms counts j x whole placed d fs o shows there = record {
  some = let h : 0 < length ns = whole.arena.linked.some in omega (arith, placed.size);
  kids = λ k c e. elim (eqb_tells k j) [
    | inl h ↦ let w : kids_of x ≡ Some c = sym (ap kids_of (ap (cell_at ms) h.1 ∙ placed.here)) ∙ e in
        let is : is_cut x ≡ true = kids_cut x c w in
        let size : length ms ≡ length ns + 2 = placed.size ∙ ap (λ (y : Bool). length ns + (if y then 2 else 0)) is in
        let at_end : c ≡ length ns = shows.kids_there c w in omega arith
    | inr h ↦ let w : c + 1 < length ns = (whole.arena.linked.kids k c (sym (ap kids_of (placed.others k h.1)) ∙ e)).there in omega (arith, placed.size)
  ];
}

shape_shown : (d : ℕ) (es : List Bounds) (ns : List Node) (f : ℕ) (x : Cell) → shape_of (Some (shown d es ns f x)) ≡ shape_of_cell x
shape_shown d es ns f Open = refl
shape_shown d es ns f Removed = refl
shape_shown d es ns f (Inner s) = refl
shape_shown d es ns f (Small s) = refl
shape_shown d es ns f (Cut s v a c) = refl

shape_shown_at : (d : ℕ) (es : List Bounds) (ns : List Node) (f : ℕ) (o : Option ℕ) → shape_of (option_map (tree_at d es ns (suc f)) o) ≡ shape_of_found (option_map (cell_at ns) o)
shape_shown_at d es ns f None = refl
shape_shown_at d es ns f (Some k) = ap (λ (t : Tree). shape_of (Some t)) (tree_at-is d es ns f k (cell_at ns k) refl) ∙ shape_shown d es ns f (cell_at ns k)

pub shape_there : (d : ℕ) (es : List Bounds) (ns : List Node) (p : List Bool) → length p ≤ 200 → shape_of (subtree (whole_tree d es ns) p) ≡ shape_of_found (cell_along ns p (length p))
shape_there d es ns p short = ap shape_of (subtree_there d es ns p short) ∙ shape_shown_at d es ns (200 - length p) (reach ns 0 (take (length p) p))
