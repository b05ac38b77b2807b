-- Stacks of stops, and the nodes that they stand for.
use Rattle.std.proofs.Common.{◌≡◌, ◌⊎◌, inl, inr, ℕ, suc, ◌+◌, ◌-◌, ◌<◌, ◌≤◌, Bool, true, false, Option, Some, None, List, [], ◌∷◌, ◌++◌, length, take, get_or, refl, sym, ◌∙◌, ap, arith, subst, append_assoc, append-nil, length-append}
use Rattle.std.specs.Option.{option_map, IsSome}
use Rattle.std.proofs.Math.Seq.{take-append_seam}
use Rattle.pv_num.specs.Extended.{Extended}
use Rattle.pv_interval.specs.Bounds.{Bounds}
use Rattle.pv_box.specs.Boxes.{IsBox, lower_half, upper_half}
use Rattle.pv_tree.specs.Trees.{Tree, leaf, removed, inner, small, cut, subtree, box_of, half_of, height, Paves, to_at, shape_of}
use Rattle.pv_tree.specs.Arena.{tree_at, whole_tree, reach, cell_at, kept, kids_of, start_of, side, IsWhole, shape_of_cell, HasHalves, half_at}
use Rattle.pv_tree.specs.Pieces.{Piece, pieces_below, children_of, to_come, IsVisit, IsPiece}
use Rattle.pv_tree.specs.Stops.{IsStop, low_stop, high_stop, stops_below, AreStacked, found_tree, piece_at, pieces_at, walked, IsWalk}
use Rattle.pv_tree.specs.declared.cell.Cell.{Cell}
use Rattle.pv_tree.specs.declared.cell.Cell.TheVariants.{Open, Removed, Inner, Small, Cut}
use Rattle.pv_tree.specs.declared.cell.Node.{Node}
use Rattle.pv_tree.specs.declared.outcome.Counts.{Counts}
use Rattle.pv_tree.specs.declared.outcome.Shape.{Shape}
use Rattle.pv_tree.specs.declared.stop.Stop.{Stop}
use Rattle.pv_tree.proofs.ArenaFacts.{shown, tree_at-is}
use Rattle.pv_tree.proofs.Wholes.{subtree_there, take_length, box_length}
use Rattle.pv_tree.proofs.Halves.{box_child, paves_below, HasBox, has_box}
use Rattle.pv_tree.proofs.Searches.{whole_searchable, reach_child}
use Rattle.pv_tree.proofs.StageLaws.{half_box}
use Rattle.pv_tree.proofs.Walks.{side_there}
use Rattle.pv_tree.proofs.Pieces.{to_come-step, subtree_child}

-- stacks that grow at the end
pub stacked_front : (P : Stop → Type 0) (n : ℕ) (ss ts : List Stop) → AreStacked P n (ss ++ ts) → AreStacked P n ss
stacked_front P n [] ts h = tt
stacked_front P n (s ∷ ss) ts h = (h.0, h.1, stacked_front P (suc n) ss ts h.2)

pub stacked_last : (P : Stop → Type 0) (n : ℕ) (ss : List Stop) (s : Stop) → AreStacked P n (ss ++ s ∷ []) → P s × (n + length ss ≤ length s.path)
stacked_last P n [] s h = (h.0, omega (arith, h.1))
stacked_last P n (t ∷ ss) s h = let w : P s × (suc n + length ss ≤ length s.path) = stacked_last P (suc n) ss s h.2 in (w.0, omega (arith, w.1))

pub stacked_more : (P : Stop → Type 0) (n : ℕ) (ss ts : List Stop) → AreStacked P n ss → AreStacked P (n + length ss) ts → AreStacked P n (ss ++ ts)
stacked_more P n [] ts h k = subst (λ (m : ℕ). AreStacked P m ts) (let e : n + 0 ≡ n = omega arith in e) k
stacked_more P n (s ∷ ss) ts h k = (h.0, h.1, stacked_more P (suc n) ss ts h.2 (subst (λ (m : ℕ). AreStacked P m ts) (let e : n + suc (length ss) ≡ suc n + length ss = omega arith in e) k))

-- a stack has at most as many stops as a tree has levels
pub stacked_few : (ns : List Node) (n : ℕ) (ss : List Stop) → AreStacked (IsStop ns) n ss → n ≤ 201 → n + length ss ≤ 201
stacked_few ns n [] stacked few = omega arith
stacked_few ns n (s ∷ ss) stacked few =
    let here : length s.path ≤ 200 = stacked.0.few in
    let low : n ≤ length s.path = stacked.1 in
    let more : suc n + length ss ≤ 201 = stacked_few ns (suc n) ss stacked.2 (let w : suc n ≤ 201 = omega arith in w) in
    omega arith

pub pieces-push : (b : List Bounds) (t : Tree) (ss : List Stop) (s : Stop) → pieces_at b t (ss ++ s ∷ []) ≡ piece_at b t s.path ∷ pieces_at b t ss
pieces-push b t [] s = refl
pieces-push b t (x ∷ ss) s = ap (λ (ps : List Piece). ps ++ piece_at b t x.path ∷ []) (pieces-push b t ss s)

pub pieces-pair : (b : List Bounds) (t : Tree) (ss : List Stop) (x y : Stop) → pieces_at b t (ss ++ x ∷ y ∷ []) ≡ piece_at b t y.path ∷ piece_at b t x.path ∷ pieces_at b t ss
pieces-pair b t ss x y =
    ap (pieces_at b t) (sym (append_assoc ss (x ∷ []) (y ∷ []))) ∙ pieces-push b t (ss ++ x ∷ []) y ∙ ap (λ (ps : List Piece). piece_at b t y.path ∷ ps) (pieces-push b t ss x)

pub box_below : (b : List Bounds) (t : Tree) (p : List Bool) → IsBox b → Paves b t → IsBox (box_of b t p)
box_below b t [] h k = h
box_below b (cut to v a l r) (false ∷ p) h k = box_below (lower_half to v a) l p (half_box true to v a k.0 k.2) k.3
box_below b (cut to v a l r) (true ∷ p) h k = box_below (upper_half to v a) r p (half_box false to v a k.0 k.2) k.4
box_below b leaf (c ∷ p) h k = h
box_below b removed (c ∷ p) h k = h
box_below b (inner to) (c ∷ p) h k = h
box_below b (small to) (c ∷ p) h k = h

pub height_below : (t : Tree) (p : List Bool) (u : Tree) → subtree t p ≡ Some u → length p + height u ≤ height t
height_below t [] u e = let w : t ≡ u = cc in let k : height t ≡ height u = ap height w in omega arith
height_below (cut to v a l r) (false ∷ p) u e = let k : length p + height u ≤ height l = height_below l p u e in omega arith
height_below (cut to v a l r) (true ∷ p) u e = let k : length p + height u ≤ height r = height_below r p u e in omega arith
height_below leaf (c ∷ p) u e = cc
height_below removed (c ∷ p) u e = cc
height_below (inner to) (c ∷ p) u e = cc
height_below (small to) (c ∷ p) u e = cc

some_or : (p : List Bool) → (p ≡ []) ⊎ (0 < length p)
some_or [] = inl refl
some_or (x ∷ p) = inr (omega arith)

-- a node that is there
module _ (b es : List Bounds) (ns : List Node) (counts : Counts) (whole : IsWhole b es ns counts) (s : Stop) (stop : IsStop ns s) where
  abbrev whole_is : Tree
  whole_is = whole_tree (length b) es ns

  abbrev tree_here : Tree
  tree_here = shown (length b) es ns (200 - length s.path) (cell_at ns s.at)

  pub stop_tree : subtree whole_is s.path ≡ Some tree_here
  stop_tree =
      subtree_there (length b) es ns s.path stop.few
      ∙ ap (λ (p : List Bool). option_map (tree_at (length b) es ns (suc (200 - length s.path))) (reach ns 0 p)) (take_length s.path)
      ∙ ap (option_map (tree_at (length b) es ns (suc (200 - length s.path)))) stop.leads
      ∙ ap (λ (t : Tree). Some t) (tree_at-is (length b) es ns (200 - length s.path) s.at (cell_at ns s.at) refl)

  pub stop_piece : piece_at b whole_is s.path ≡ record { path = s.path; box = box_of b whole_is s.path; tree = tree_here }
  stop_piece = ap (λ (o : Option Tree). record { path = s.path; box = box_of b whole_is s.path; tree = found_tree o }) stop_tree

  pub stop_short : (c : ℕ) → kids_of (cell_at ns s.at) ≡ Some c → length s.path < 200
  stop_short c e = (whole_searchable b es ns counts whole).short s.path s.at c stop.leads e

  child_tree : (c : Bool) (to : List Bounds) (v : ℕ) (a : Extended) (l r : Tree) → tree_here ≡ cut to v a l r → piece_at b whole_is (s.path ++ c ∷ []) ≡ record { path = s.path ++ c ∷ []; box = half_of c to v a; tree = found_tree (subtree (cut to v a l r) (c ∷ [])) }
  child_tree c to v a l r e =
      let here : subtree whole_is s.path ≡ Some (cut to v a l r) = stop_tree ∙ ap (λ (t : Tree). Some t) e in
      λ i. record { path = s.path ++ c ∷ []; box = box_child b whole_is s.path c to v a l r here i; tree = found_tree (subtree_child whole_is s.path c to v a l r here i) }

  below_cell : (rest : List Stop) (x : Cell) → cell_at ns s.at ≡ x → pieces_at b whole_is (rest ++ stops_below s (kids_of x)) ≡ pieces_below s.path (shown (length b) es ns (200 - length s.path) x) ++ pieces_at b whole_is rest
  below_cell rest Open e = ap (pieces_at b whole_is) (append-nil rest)
  below_cell rest Removed e = ap (pieces_at b whole_is) (append-nil rest)
  below_cell rest (Inner t) e = ap (pieces_at b whole_is) (append-nil rest)
  below_cell rest (Small t) e = ap (pieces_at b whole_is) (append-nil rest)
  below_cell rest (Cut t v a c) e =
      let f : ℕ = 200 - length s.path in
      let is : tree_here ≡ cut (kept (length b) es t) v a (tree_at (length b) es ns (200 - length s.path) c) (tree_at (length b) es ns (200 - length s.path) (c + 1)) = ap (shown (length b) es ns (200 - length s.path)) e in
      pieces-pair b whole_is rest (high_stop s c) (low_stop s c)
      ∙ (λ i. child_tree false (kept (length b) es t) v a (tree_at (length b) es ns (200 - length s.path) c) (tree_at (length b) es ns (200 - length s.path) (c + 1)) is i
      ∷ child_tree true (kept (length b) es t) v a (tree_at (length b) es ns (200 - length s.path) c) (tree_at (length b) es ns (200 - length s.path) (c + 1)) is i ∷ pieces_at b whole_is rest)

  pub below_stop : (rest : List Stop) → pieces_at b whole_is (rest ++ stops_below s (kids_of (cell_at ns s.at))) ≡ children_of (piece_at b whole_is s.path) ++ pieces_at b whole_is rest
  below_stop rest = below_cell rest (cell_at ns s.at) refl ∙ ap (λ (p : Piece). children_of p ++ pieces_at b whole_is rest) (sym stop_piece)

  shape_shown : (f : ℕ) (x : Cell) → shape_of_cell x ≡ shape_of (Some (shown (length b) es ns f x))
  shape_shown f Open = refl
  shape_shown f Removed = refl
  shape_shown f (Inner t) = refl
  shape_shown f (Small t) = refl
  shape_shown f (Cut t v a c) = refl

  pub stop_shape : shape_of_cell (cell_at ns s.at) ≡ shape_of (Some (piece_at b whole_is s.path).tree)
  stop_shape = shape_shown (200 - length s.path) (cell_at ns s.at) ∙ ap (λ (p : Piece). shape_of (Some p.tree)) (sym stop_piece)

  to_shown : (f : ℕ) (x : Cell) → to_at (shown (length b) es ns f x) [] ≡ option_map (kept (length b) es) (start_of x)
  to_shown f Open = refl
  to_shown f Removed = refl
  to_shown f (Inner t) = refl
  to_shown f (Small t) = refl
  to_shown f (Cut t v a c) = refl

  pub stop_to : to_at (piece_at b whole_is s.path).tree [] ≡ option_map (kept (length b) es) (start_of (cell_at ns s.at))
  stop_to = ap (λ (p : Piece). to_at p.tree []) stop_piece ∙ to_shown (200 - length s.path) (cell_at ns s.at)

  pub stop_found : subtree whole_is s.path ≡ Some (piece_at b whole_is s.path).tree
  stop_found = stop_tree ∙ sym (ap (λ (o : Option Tree). Some (found_tree o)) stop_tree)

  pub stop_is_piece : IsPiece b whole_is (piece_at b whole_is s.path)
  stop_is_piece =
      let low : length s.path + height (piece_at b whole_is s.path).tree ≤ height whole_is = height_below whole_is s.path (piece_at b whole_is s.path).tree stop_found in
      let deep : height whole_is ≤ 200 = whole.paving.depth in
      record {
        found = stop_found;
        box = refl;
        dims = box_length b whole_is s.path whole.paving.paves;
        is_box = box_below b whole_is s.path whole.paving.box whole.paving.paves;
        paves = paves_below b whole_is s.path (piece_at b whole_is s.path).tree whole.paving.paves stop_found;
        depth = omega arith;
      }

  -- its children
  front : (c : Bool) → take (length (s.path ++ c ∷ []) - 1) (s.path ++ c ∷ []) ≡ s.path
  front c =
      let e : length (s.path ++ c ∷ []) ≡ length s.path + 1 = length-append s.path (c ∷ []) in
      let k : length (s.path ++ c ∷ []) - 1 ≡ length s.path = omega arith in
      ap (λ (n : ℕ). take n (s.path ++ c ∷ [])) k ∙ take-append_seam s.path (c ∷ [])

  pub child_stop : (c : ℕ) (high : Bool) → kids_of (cell_at ns s.at) ≡ Some c → IsStop ns (record { at = side high c; parent = s.at; path = s.path ++ high ∷ [] })
  child_stop c high e =
      let short : length s.path < 200 = stop_short c e in
      record {
        leads = reach_child ns s.path high s.at c stop.leads e;
        few = let k : length (s.path ++ high ∷ []) ≡ length s.path + 1 = length-append s.path (high ∷ []) in omega arith;
        there = side_there high c (length ns) (whole.arena.linked.kids s.at c e).there;
        parent = λ _. ap (reach ns 0) (front high) ∙ stop.leads;
        parent_there = stop.there;
      }

  kids_stacked_at : (n : ℕ) (o : Option ℕ) → kids_of (cell_at ns s.at) ≡ o → n ≤ length s.path → AreStacked (IsStop ns) n (stops_below s o)
  kids_stacked_at n None e h = tt
  kids_stacked_at n (Some c) e h =
      let low : length (s.path ++ false ∷ []) ≡ length s.path + 1 = length-append s.path (false ∷ []) in
      let high : length (s.path ++ true ∷ []) ≡ length s.path + 1 = length-append s.path (true ∷ []) in
      (child_stop c true e, omega arith, (child_stop c false e, omega arith, tt))

  pub kids_stacked : (rest : List Stop) → AreStacked (IsStop ns) 0 rest → length rest ≤ length s.path → AreStacked (IsStop ns) 0 (rest ++ stops_below s (kids_of (cell_at ns s.at)))
  kids_stacked rest h k = stacked_more (IsStop ns) 0 rest (stops_below s (kids_of (cell_at ns s.at))) h (kids_stacked_at (0 + length rest) (kids_of (cell_at ns s.at)) refl (omega (arith, k)))

-- the box of a stop
module _ (b es : List Bounds) (ns : List Node) (counts : Counts) (whole : IsWhole b es ns counts) (s : Stop) (stop : IsStop ns s) (d : ℕ) (dims : d ≡ length b) where
  box_found : 0 < length s.path → HasBox b es ns s.path
  box_found some = has_box b es ns counts s.path whole stop.few some (subst IsSome (sym (stop_found b es ns counts whole s stop)) refl)

  parent_is : (some : 0 < length s.path) → (box_found some).cell ≡ cell_at ns s.parent
  parent_is some =
      let k : HasBox b es ns s.path = box_found some in
      let w : Some (cell_at ns s.parent) ≡ Some (box_found some).cell = sym (ap (option_map (cell_at ns)) (stop.parent some)) ∙ k.is in
      cc

  pub stop_halves : 0 < length s.path → HasHalves d es (cell_at ns s.parent)
  stop_halves some = subst (λ (n : ℕ). HasHalves n es (cell_at ns s.parent)) (sym dims) (subst (HasHalves (length b) es) (parent_is some) (box_found some).halves)

  -- a box that is written by the parent's halves, and for the root by itself, is the stop's
  pub stop_box : (into : List Bounds) → (length s.path ≡ 0 → into ≡ b) → (0 < length s.path → half_at d es (cell_at ns s.parent) (get_or s.path (length s.path - 1) false) ≡ Some into) → into ≡ box_of b (whole_tree (length b) es ns) s.path
  stop_box into root half = elim (some_or s.path) [
    | inl e ↦ root (ap length e) ∙ ap (box_of b (whole_tree (length b) es ns)) (sym e)
    | inr some ↦
        let w : Some into ≡ Some (box_of b (whole_tree (length b) es ns) s.path) =
        sym (half some) ∙ ap (λ (n : ℕ). half_at n es (cell_at ns s.parent) (get_or s.path (length s.path - 1) false)) dims
        ∙ ap (λ (x : Cell). half_at (length b) es x (get_or s.path (length s.path - 1) false)) (sym (parent_is some)) ∙ (box_found some).half in
        cc
  ]

-- a step of a walk: its last stop leaves the stack
module _ (b es : List Bounds) (ns : List Node) (last : Stop) (stack rest : List Stop) (s : Stop) (most : ℕ) (walk : IsWalk b es ns last stack most) (popped : stack ≡ rest ++ s ∷ []) where
  abbrev walk_tree : Tree
  walk_tree = whole_tree (length b) es ns

  abbrev kids_here : Option ℕ
  kids_here = kids_of (cell_at ns s.at)

  split : AreStacked (IsStop ns) 0 (rest ++ s ∷ [])
  split = subst (AreStacked (IsStop ns) 0) popped walk.stops

  pub top_stop : IsStop ns s
  top_stop = (stacked_last (IsStop ns) 0 rest s split).0

  pub top_low : length rest ≤ length s.path
  top_low = let h : 0 + length rest ≤ length s.path = (stacked_last (IsStop ns) 0 rest s split).1 in omega arith

  pub top_short : (c : ℕ) → kids_here ≡ Some c → length s.path < 200
  top_short = stop_short b es ns walk.counts walk.whole s top_stop

  pub top_room : (c n room : ℕ) → kids_here ≡ Some c → n ≡ length rest → room ≡ most → n + 2 ≤ room
  top_room c n room e i k = let short : length s.path < 200 = top_short c e in let low : length rest ≤ length s.path = top_low in let most_is : 201 ≤ most = walk.room in omega arith

  pub next_walk : (stack' : List Stop) (most' : ℕ) → stack' ≡ rest ++ stops_below s kids_here → most' ≡ most → IsWalk b es ns s stack' most'
  next_walk stack' most' e i = record {
    counts = walk.counts;
    whole = walk.whole;
    here = top_stop;
    stops = subst (AreStacked (IsStop ns) 0) (sym e) (kids_stacked b es ns walk.counts walk.whole s top_stop rest (stacked_front (IsStop ns) 0 rest (s ∷ []) split) top_low);
    room = let most_is : 201 ≤ most = walk.room in omega arith;
  }

  pub next_visit : (stack' : List Stop) (x : Shape) → stack' ≡ rest ++ stops_below s kids_here → x ≡ shape_of_cell (cell_at ns s.at) → IsVisit (walked b walk_tree last stack) (walked b walk_tree s stack') x
  next_visit stack' x e i =
      let was : pieces_at b walk_tree stack ≡ piece_at b walk_tree s.path ∷ pieces_at b walk_tree rest = ap (pieces_at b walk_tree) popped ∙ pieces-push b walk_tree rest s in
      let now : pieces_at b walk_tree stack' ≡ children_of (piece_at b walk_tree s.path) ++ pieces_at b walk_tree rest = ap (pieces_at b walk_tree) e ∙ below_stop b es ns walk.counts walk.whole s top_stop rest in
      record {
        rest = pieces_at b walk_tree rest;
        was = was;
        pending = now;
        shape = i ∙ stop_shape b es ns walk.counts walk.whole s top_stop;
        falls =
            let old : to_come (pieces_at b walk_tree stack) ≡ to_come (piece_at b walk_tree s.path ∷ pieces_at b walk_tree rest) = ap to_come was in
            let new : to_come (pieces_at b walk_tree stack') ≡ to_come (children_of (piece_at b walk_tree s.path) ++ pieces_at b walk_tree rest) = ap to_come now in
            let step : to_come (children_of (piece_at b walk_tree s.path) ++ pieces_at b walk_tree rest) + 1 ≡ to_come (piece_at b walk_tree s.path ∷ pieces_at b walk_tree rest) = to_come-step s.path (piece_at b walk_tree s.path).tree (pieces_at b walk_tree rest) in
            omega arith;
      }

  pub next_piece : IsPiece b walk_tree (piece_at b walk_tree s.path)
  next_piece = stop_is_piece b es ns walk.counts walk.whole s top_stop

pub here_piece : (b es : List Bounds) (ns : List Node) (last : Stop) (stack : List Stop) (most : ℕ) → IsWalk b es ns last stack most → IsPiece b (whole_tree (length b) es ns) (piece_at b (whole_tree (length b) es ns) last.path)
here_piece b es ns last stack most walk = stop_is_piece b es ns walk.counts walk.whole last walk.here
