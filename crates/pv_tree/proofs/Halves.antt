-- The halves of a cut box, place by place.
use Rattle.std.proofs.Common.{◌≡◌, ◌&&◌, if◌then◌else◌, ℕ, zero, suc, ◌+◌, ◌<◌, ◌≤◌, Bool, true, false, IsTrue, ℤ, Option, Some, None, List, [], ◌∷◌, ◌++◌, take, drop, ◌-◌, length, get_or, set, length-take, subst, refl, sym, ◌∙◌, ap, arith}
use Rattle.std.specs.Ordering.{int_cmp, is_lt, is_le}
use Rattle.std.specs.declared.cmp.Ordering.{Ordering}
use Rattle.std.specs.declared.cmp.Ordering.TheVariants.{Less, Equal, Greater}
use Rattle.pv_num.specs.Extended.{Extended, NegInf, Fin, PosInf}
use Rattle.pv_num.specs.Order.{lt}
use Rattle.pv_interval.specs.Bounds.{Bounds, interval_from, between}
use Rattle.pv_box.specs.Boxes.{lower_half, upper_half}
use Rattle.pv_tree.specs.Trees.{IsStrictlyInside, IsBetween, half_of, Tree, leaf, removed, inner, small, cut, subtree, box_of, Paves, outcome_at, top, to_at, to_of}
use Rattle.std.specs.Option.{option_map, IsSome}
use Rattle.pv_tree.specs.Arena.{tree_at, whole_tree, reach, cell_at, kept, start_of, IsLinked, IsWhole, cell_along, start_along, HasHalves, half_at}
use Rattle.pv_tree.specs.declared.cell.Cell.{Cell}
use Rattle.pv_tree.specs.declared.cell.Cell.TheVariants.{Open, Removed, Inner, Small, Cut}
use Rattle.pv_tree.specs.declared.cell.Node.{Node}
use Rattle.pv_tree.specs.declared.outcome.Counts.{Counts}
use Rattle.pv_tree.specs.declared.outcome.Outcome.{Outcome}
use Rattle.pv_tree.proofs.ArenaFacts.{shown, tree_at-is}
use Rattle.pv_tree.proofs.Wholes.{subtree_there, take_length, half_length}
use Rattle.std.proofs.lemmas.List.{length-drop}

pub inside_there : (a : Extended) (v : ℕ) (b : List Bounds) → IsStrictlyInside a v b → v < length b
inside_there a v [] h = absurd h
inside_there a zero (x ∷ b) h = omega arith
inside_there a (suc v) (x ∷ b) h = let w : v < length b = inside_there a v b h in omega arith

pub inside_place : (a : Extended) (v : ℕ) (b : List Bounds) (d : Bounds) → IsStrictlyInside a v b → IsBetween a (get_or b v d)
inside_place a v [] d h = absurd h
inside_place a zero (x ∷ b) d h = h
inside_place a (suc v) (x ∷ b) d h = inside_place a v b d h

pub less_is_le : (o : Ordering) → IsTrue (is_lt o) → is_le o ≡ true
less_is_le Less h = refl
less_is_le Equal h = cc
less_is_le Greater h = cc

from_here : (n : ℤ) (hi : Extended) → IsTrue (lt (Fin n) hi) → interval_from (Fin n) hi ≡ Some (between (Fin n) hi)
from_here n NegInf h = cc
from_here n (Fin m) h = ap (λ (b : Bool). if b && (true && true) then Some (between (Fin n) (Fin m)) else None) (less_is_le (int_cmp n m) h)
from_here n PosInf h = refl

to_here : (n : ℤ) (lo : Extended) → IsTrue (lt lo (Fin n)) → interval_from lo (Fin n) ≡ Some (between lo (Fin n))
to_here n NegInf h = refl
to_here n (Fin m) h = ap (λ (b : Bool). if b && (true && true) then Some (between (Fin m) (Fin n)) else None) (less_is_le (int_cmp m n) h)
to_here n PosInf h = cc

pub upper_part : (a : Extended) (x : Bounds) → IsBetween a x → interval_from a x.hi ≡ Some (between a x.hi)
upper_part NegInf x h = absurd h
upper_part (Fin n) x h = from_here n x.hi h.1
upper_part PosInf x h = absurd h

pub lower_part : (a : Extended) (x : Bounds) → IsBetween a x → interval_from x.lo a ≡ Some (between x.lo a)
lower_part NegInf x h = absurd h
lower_part (Fin n) x h = to_here n x.lo h.0
lower_part PosInf x h = absurd h

pub upper_set : (b : List Bounds) (v : ℕ) (a : Extended) (d : Bounds) → v < length b → set b v (between a (get_or b v d).hi) ≡ upper_half b v a
upper_set [] v a d h = absurd (omega arith)
upper_set (x ∷ b) zero a d h = refl
upper_set (x ∷ b) (suc v) a d h = ap (λ (l : List Bounds). x ∷ l) (upper_set b v a d (omega arith))

pub lower_set : (b : List Bounds) (v : ℕ) (a : Extended) (d : Bounds) → v < length b → set b v (between (get_or b v d).lo a) ≡ lower_half b v a
lower_set [] v a d h = absurd (omega arith)
lower_set (x ∷ b) zero a d h = refl
lower_set (x ∷ b) (suc v) a d h = ap (λ (l : List Bounds). x ∷ l) (lower_set b v a d (omega arith))

pub upper_some : (b : List Bounds) (v : ℕ) (a : Extended) (x : Bounds) → IsStrictlyInside a v b → x ≡ get_or b v x → interval_from a x.hi ≡ Some (between a x.hi)
upper_some b v a x h e = upper_part a x (subst (IsBetween a) (sym e) (inside_place a v b x h))

pub lower_some : (b : List Bounds) (v : ℕ) (a : Extended) (x : Bounds) → IsStrictlyInside a v b → x ≡ get_or b v x → interval_from x.lo a ≡ Some (between x.lo a)
lower_some b v a x h e = lower_part a x (subst (IsBetween a) (sym e) (inside_place a v b x h))

pub upper_is : (b : List Bounds) (v : ℕ) (a : Extended) (x part : Bounds) → IsStrictlyInside a v b → x ≡ get_or b v x → Some part ≡ interval_from a x.hi → set b v part ≡ upper_half b v a
upper_is b v a x part h e p =
    let w : Some part ≡ Some (between a x.hi) = p ∙ upper_some b v a x h e in
    let same : part ≡ between a x.hi = cc in
    ap (set b v) (same ∙ ap (λ (y : Bounds). between a y.hi) e) ∙ upper_set b v a x (inside_there a v b h)

pub lower_is : (b : List Bounds) (v : ℕ) (a : Extended) (x part : Bounds) → IsStrictlyInside a v b → x ≡ get_or b v x → Some part ≡ interval_from x.lo a → set b v part ≡ lower_half b v a
lower_is b v a x part h e p =
    let w : Some part ≡ Some (between x.lo a) = p ∙ lower_some b v a x h e in
    let same : part ≡ between x.lo a = cc in
    ap (set b v) (same ∙ ap (λ (y : Bounds). between y.lo a) e) ∙ lower_set b v a x (inside_there a v b h)

-- a node whose child is there is a cut
pub record IsCutAt (t : Tree) (p : List Bool) : Type 0 where
  pub to : List Bounds
  pub var : ℕ
  pub at : Extended
  pub low : Tree
  pub high : Tree
  pub is : subtree t p ≡ Some (cut to var at low high)

parent_cut : (t : Tree) (q : List Bool) (c : Bool) → IsSome (subtree t (q ++ c ∷ [])) → IsCutAt t q
parent_cut (cut to v a l r) [] c h = record { to = to; var = v; at = a; low = l; high = r; is = refl }
parent_cut leaf [] c h = absurd (let w : false ≡ true = h in cc)
parent_cut removed [] c h = absurd (let w : false ≡ true = h in cc)
parent_cut (inner to) [] c h = absurd (let w : false ≡ true = h in cc)
parent_cut (small to) [] c h = absurd (let w : false ≡ true = h in cc)
parent_cut (cut to v a l r) (false ∷ q) c h = let w : IsCutAt l q = parent_cut l q c h in record { to = w.to; var = w.var; at = w.at; low = w.low; high = w.high; is = w.is }
parent_cut (cut to v a l r) (true ∷ q) c h = let w : IsCutAt r q = parent_cut r q c h in record { to = w.to; var = w.var; at = w.at; low = w.low; high = w.high; is = w.is }
parent_cut leaf (b ∷ q) c h = absurd (let w : false ≡ true = h in cc)
parent_cut removed (b ∷ q) c h = absurd (let w : false ≡ true = h in cc)
parent_cut (inner to) (b ∷ q) c h = absurd (let w : false ≡ true = h in cc)
parent_cut (small to) (b ∷ q) c h = absurd (let w : false ≡ true = h in cc)

pub box_child : (b : List Bounds) (t : Tree) (q : List Bool) (c : Bool) (to : List Bounds) (v : ℕ) (a : Extended) (l r : Tree) → subtree t q ≡ Some (cut to v a l r) → box_of b t (q ++ c ∷ []) ≡ half_of c to v a
box_child b (cut to' v' a' l' r') [] false to v a l r e = let w : cut to' v' a' l' r' ≡ cut to v a l r = cc in let p : to' ≡ to = cc in let q : v' ≡ v = cc in let s : a' ≡ a = cc in λ i. lower_half (p i) (q i) (s i)
box_child b (cut to' v' a' l' r') [] true to v a l r e = let w : cut to' v' a' l' r' ≡ cut to v a l r = cc in let p : to' ≡ to = cc in let q : v' ≡ v = cc in let s : a' ≡ a = cc in λ i. upper_half (p i) (q i) (s i)
box_child b leaf [] c to v a l r e = cc
box_child b removed [] c to v a l r e = cc
box_child b (inner to') [] c to v a l r e = cc
box_child b (small to') [] c to v a l r e = cc
box_child b (cut to' v' a' l' r') (false ∷ q) c to v a l r e = box_child (lower_half to' v' a') l' q c to v a l r e
box_child b (cut to' v' a' l' r') (true ∷ q) c to v a l r e = box_child (upper_half to' v' a') r' q c to v a l r e
box_child b leaf (x ∷ q) c to v a l r e = cc
box_child b removed (x ∷ q) c to v a l r e = cc
box_child b (inner to') (x ∷ q) c to v a l r e = cc
box_child b (small to') (x ∷ q) c to v a l r e = cc

pub paves_below : (b : List Bounds) (t : Tree) (q : List Bool) (s : Tree) → Paves b t → subtree t q ≡ Some s → Paves (box_of b t q) s
paves_below b t [] s h e = let w : t ≡ s = cc in subst (Paves b) w h
paves_below b (cut to v a l r) (false ∷ q) s h e = paves_below (lower_half to v a) l q s h.3 e
paves_below b (cut to v a l r) (true ∷ q) s h e = paves_below (upper_half to v a) r q s h.4 e
paves_below b leaf (x ∷ q) s h e = cc
paves_below b removed (x ∷ q) s h e = cc
paves_below b (inner to) (x ∷ q) s h e = cc
paves_below b (small to) (x ∷ q) s h e = cc

-- a path is its front and its last step
front_last : (n : ℕ) (p : List Bool) → length p ≡ suc n → p ≡ take n p ++ get_or p n false ∷ []
front_last n [] h = cc
front_last zero (b ∷ []) h = refl
front_last zero (b ∷ (c ∷ p)) h = cc
front_last (suc n) (b ∷ p) h = ap (λ (q : List Bool). b ∷ q) (front_last n p (cc))

pub last_step : (p : List Bool) → 0 < length p → p ≡ take (length p - 1) p ++ get_or p (length p - 1) false ∷ []
last_step p h = front_last (length p - 1) p (let e : length p ≡ suc (length p - 1) = omega arith in e)

record FoundCut (d : ℕ) (es : List Bounds) (found : Option Cell) (to : List Bounds) (v : ℕ) (a : Extended) : Type 0 where
  start : ℕ
  kids : ℕ
  is : found ≡ Some (Cut start v a kids)
  kept_is : kept d es start ≡ to

found_in_cell : (d : ℕ) (es : List Bounds) (ns : List Node) (f : ℕ) (x : Cell) (to : List Bounds) (v : ℕ) (a : Extended) (l r : Tree) → shown d es ns f x ≡ cut to v a l r → FoundCut d es (Some x) to v a
found_in_cell d es ns f Open to v a l r e = cc
found_in_cell d es ns f Removed to v a l r e = cc
found_in_cell d es ns f (Inner s) to v a l r e = cc
found_in_cell d es ns f (Small s) to v a l r e = cc
found_in_cell d es ns f (Cut s v' a' c) to v a l r e =
    let p : v' ≡ v = cc in let q : a' ≡ a = cc in let w : kept d es s ≡ to = cc in
    record { start = s; kids = c; is = λ i. Some (Cut s (p i) (q i) c); kept_is = w }

found_cut : (d : ℕ) (es : List Bounds) (ns : List Node) (f : ℕ) (o : Option ℕ) (to : List Bounds) (v : ℕ) (a : Extended) (l r : Tree) → option_map (tree_at d es ns (suc f)) o ≡ Some (cut to v a l r) → FoundCut d es (option_map (cell_at ns) o) to v a
found_cut d es ns f None to v a l r e = cc
found_cut d es ns f (Some k) to v a l r e =
    let w : tree_at d es ns (suc f) k ≡ cut to v a l r = cc in
    found_in_cell d es ns f (cell_at ns k) to v a l r (sym (tree_at-is d es ns f k (cell_at ns k) refl) ∙ w)

found_start : (ns : List Node) (o : Option ℕ) (x : Cell) (s : ℕ) → option_map (cell_at ns) o ≡ Some x → start_of x ≡ Some s → (k : ℕ) × (start_of (cell_at ns k) ≡ Some s)
found_start ns None x s e h = cc
found_start ns (Some k) x s e h = let w : cell_at ns k ≡ x = cc in (k, ap start_of w ∙ h)

-- where the box at a path comes from
pub record HasBox (b es : List Bounds) (ns : List Node) (p : List Bool) : Type 0 where
  pub cell : Cell
  pub is : cell_along ns p (length p - 1) ≡ Some cell
  pub halves : HasHalves (length b) es cell
  pub half : half_at (length b) es cell (get_or p (length p - 1) false) ≡ Some (box_of b (whole_tree (length b) es ns) p)

pub has_box : (b es : List Bounds) (ns : List Node) (counts : Counts) (p : List Bool) → IsWhole b es ns counts → length p ≤ 200 → 0 < length p → IsSome (subtree (whole_tree (length b) es ns) p) → HasBox b es ns p
has_box b es ns counts p whole short some there =
    let d : ℕ = length b in
    let q : List Bool = take (length p - 1) p in
    let c : Bool = get_or p (length p - 1) false in
    let split : p ≡ take (length p - 1) p ++ get_or p (length p - 1) false ∷ [] = last_step p some in
    let size : length (take (length p - 1) p) ≡ length p - 1 = simp length-take (omega arith) in
    let k : IsCutAt (whole_tree (length b) es ns) (take (length p - 1) p) = parent_cut (whole_tree (length b) es ns) (take (length p - 1) p) (get_or p (length p - 1) false) (subst (λ (x : List Bool). IsSome (subtree (whole_tree (length b) es ns) x)) split there) in
    let f : FoundCut (length b) es (cell_along ns p (length p - 1)) k.to k.var k.at =
    subst (λ (x : List Bool). FoundCut (length b) es (option_map (cell_at ns) (reach ns 0 x)) k.to k.var k.at) (take_length (take (length p - 1) p))
    (found_cut (length b) es ns (200 - length (take (length p - 1) p)) (reach ns 0 (take (length (take (length p - 1) p)) (take (length p - 1) p))) k.to k.var k.at k.low k.high
    (sym (subtree_there (length b) es ns (take (length p - 1) p) (omega arith)) ∙ k.is)) in
    let inside : IsStrictlyInside k.at k.var k.to = (paves_below b (whole_tree (length b) es ns) (take (length p - 1) p) (cut k.to k.var k.at k.low k.high) whole.paving.paves k.is).2 in
    let at_start : (j : ℕ) × (start_of (cell_at ns j) ≡ Some f.start) = found_start ns (reach ns 0 (take (length p - 1) p)) (Cut f.start k.var k.at f.kids) f.start f.is refl in
    record {
      cell = Cut f.start k.var k.at f.kids;
      is = f.is;
      halves = (whole.arena.linked.starts at_start.0 f.start at_start.1, subst (IsStrictlyInside k.at k.var) (sym f.kept_is) inside);
      half = ap (λ (x : List Bounds). Some (half_of (get_or p (length p - 1) false) x k.var k.at)) f.kept_is
          ∙ ap (λ (x : List Bounds). Some x) (sym (box_child b (whole_tree (length b) es ns) (take (length p - 1) p) (get_or p (length p - 1) false) k.to k.var k.at k.low k.high k.is) ∙ ap (box_of b (whole_tree (length b) es ns)) (sym split));
    }

-- what a settled node kept
top_there : Option Tree → Option Outcome
top_there None = None
top_there (Some t) = top t

top_at : (t : Tree) (p : List Bool) → outcome_at t p ≡ top_there (subtree t p)
unfolding top_there
top_at t [] = refl
top_at (cut to v a l r) (false ∷ p) = top_at l p
top_at (cut to v a l r) (true ∷ p) = top_at r p
top_at leaf (b ∷ p) = refl
top_at removed (b ∷ p) = refl
top_at (inner to) (b ∷ p) = refl
top_at (small to) (b ∷ p) = refl

abbrev kept_of : Option Outcome → Option (List Bounds)
kept_of None = None
kept_of (Some o) = to_of o

kept_shown : (d : ℕ) (es : List Bounds) (ns : List Node) (f : ℕ) (x : Cell) → kept_of (top (shown d es ns f x)) ≡ option_map (kept d es) (start_of x)
kept_shown d es ns f Open = refl
kept_shown d es ns f Removed = refl
kept_shown d es ns f (Inner s) = refl
kept_shown d es ns f (Small s) = refl
kept_shown d es ns f (Cut s v a c) = refl

kept_found : (d : ℕ) (es : List Bounds) (ns : List Node) (f : ℕ) (o : Option ℕ) → kept_of (top_there (option_map (tree_at d es ns (suc f)) o)) ≡ option_map (kept d es) (start_along ns o)
unfolding top_there
kept_found d es ns f None = refl
kept_found d es ns f (Some k) = ap (λ (t : Tree). kept_of (top t)) (tree_at-is d es ns f k (cell_at ns k) refl) ∙ kept_shown d es ns f (cell_at ns k)

pub to_there : (d : ℕ) (es : List Bounds) (ns : List Node) (p : List Bool) → length p ≤ 200 → to_at (whole_tree d es ns) p ≡ option_map (kept d es) (start_along ns (reach ns 0 (take (length p) p)))
to_there d es ns p short =
    ap kept_of (top_at (whole_tree d es ns) p ∙ ap top_there (subtree_there d es ns p short)) ∙ kept_found d es ns (200 - length p) (reach ns 0 (take (length p) p))

start_fits_at : (d : ℕ) (es : List Bounds) (ns : List Node) (label : ℕ → List Bool) → IsLinked d es ns label → (o : Option ℕ) (s : ℕ) → start_along ns o ≡ Some s → s + d ≤ length es
start_fits_at d es ns label h None s e = cc
start_fits_at d es ns label h (Some k) s e = h.starts k s e

pub start_fits : (b es : List Bounds) (ns : List Node) (counts : Counts) (o : Option ℕ) (s : ℕ) → IsWhole b es ns counts → start_along ns o ≡ Some s → s + length b ≤ length es
start_fits b es ns counts o s h e = start_fits_at (length b) es ns h.arena.label h.arena.linked o s e

pub not_none : (n m : ℕ) → m ≡ n → (m ≡ 0 → ⊥) → 0 < n
not_none n m e f = omega (arith, e, f)

none_is_none : (r : Option (List Bounds)) → r ≡ None → IsSome r → ⊥
none_is_none None e h = let w : false ≡ true = h in cc
none_is_none (Some x) e h = cc

pub some_start : (d : ℕ) (es : List Bounds) (o : Option ℕ) (r : Option (List Bounds)) → r ≡ option_map (kept d es) o → IsSome r → o ≡ None → ⊥
some_start d es o r e h n = none_is_none r (e ∙ ap (option_map (kept d es)) n) h

kept_size : (d : ℕ) (es : List Bounds) (s : ℕ) → s + d ≤ length es → length (kept d es s) ≡ d
kept_size d es s h = let e : length (drop s es) ≡ length es - s = length-drop s es in simp length-take (omega arith)

pub half_size : (d : ℕ) (es : List Bounds) (x : Cell) (high : Bool) (b : List Bounds) → HasHalves d es x → half_at d es x high ≡ Some b → length b ≡ d
half_size d es Open high b h e = absurd h
half_size d es Removed high b h e = absurd h
half_size d es (Inner s) high b h e = absurd h
half_size d es (Small s) high b h e = absurd h
half_size d es (Cut s v a c) false b h e = let w : lower_half (kept d es s) v a ≡ b = cc in ap length (sym w) ∙ half_length true (kept d es s) v a ∙ kept_size d es s h.0
half_size d es (Cut s v a c) true b h e = let w : upper_half (kept d es s) v a ≡ b = cc in ap length (sym w) ∙ half_length false (kept d es s) v a ∙ kept_size d es s h.0
