-- The leaves of a paving before and after an open one is settled.
use Rattle.std.proofs.Common.{◌≡◌, ℕ, Bool, true, false, List, [], ◌∷◌, ◌++◌, refl, sym, ◌∙◌, ap, subst, append_assoc, append-nil}
use Rattle.std.specs.Prelude.{Some}
use Rattle.pv_num.specs.Extended.{Extended}
use Rattle.pv_interval.specs.Bounds.{Bounds}
use Rattle.pv_box.specs.Boxes.{lower_half, upper_half}
use Rattle.pv_expr.specs.Terms.{Term}
use Rattle.pv_tree.specs.Trees.{Tree, leaf, removed, inner, small, cut, subtree, graft, box_of, settled}
use Rattle.pv_tree.specs.Holes.{Hole, holes_below}
use Rattle.pv_tree.specs.declared.outcome.Outcome.{Outcome}
use Rattle.pv_tree.specs.declared.outcome.Outcome.TheVariants.{Removed, Inner, Small, Cut}
use Rattle.pv_tree.proofs.Pieces.{graft_leaf}
use Rattle.pv_least.specs.Searches.{Leaf, open_leaf, inner_leaf, small_leaf, leaves_below, leaves_of, box_in, lows, points, points_in, as_list}
use Rattle.pv_least.specs.Objectives.{low_of}
use Rattle.pv_least.specs.Running.{open_leaves}

-- ---- paths that part from each other

abbrev Parts : List Bool → List Bool → Type 0
Parts [] r = ⊥
Parts (b ∷ q) [] = ⊥
Parts (false ∷ q) (false ∷ r) = Parts q r
Parts (false ∷ q) (true ∷ r) = Unit {0}
Parts (true ∷ q) (false ∷ r) = Unit {0}
Parts (true ∷ q) (true ∷ r) = Parts q r

parts_apart : (q r : List Bool) → Parts q r → q ≡ r → ⊥
parts_apart [] r h e = h
parts_apart (b ∷ q) [] h e = h
parts_apart (false ∷ q) (false ∷ r) h e = let w : q ≡ r = cc in parts_apart q r h w
parts_apart (false ∷ q) (true ∷ r) h e = cc
parts_apart (true ∷ q) (false ∷ r) h e = cc
parts_apart (true ∷ q) (true ∷ r) h e = let w : q ≡ r = cc in parts_apart q r h w

parts_more : (q r s : List Bool) → Parts q r → Parts (q ++ s) r
parts_more [] r s h = absurd h
parts_more (b ∷ q) [] s h = absurd h
parts_more (false ∷ q) (false ∷ r) s h = parts_more q r s h
parts_more (false ∷ q) (true ∷ r) s h = tt
parts_more (true ∷ q) (false ∷ r) s h = tt
parts_more (true ∷ q) (true ∷ r) s h = parts_more q r s h

high_parts : (q p : List Bool) → Parts (q ++ true ∷ []) (q ++ false ∷ p)
high_parts [] p = tt
high_parts (false ∷ q) p = high_parts q p
high_parts (true ∷ q) p = high_parts q p

low_parts : (q p : List Bool) → Parts (q ++ false ∷ []) (q ++ true ∷ p)
low_parts [] p = tt
low_parts (false ∷ q) p = low_parts q p
low_parts (true ∷ q) p = low_parts q p

-- ---- lists without an open leaf of a path

abbrev HasNone : List Bool → List Leaf → Type 0
HasNone r [] = Unit {0}
HasNone r (open_leaf p b ∷ ls) = (p ≡ r → ⊥) × HasNone r ls
HasNone r (inner_leaf to ∷ ls) = HasNone r ls
HasNone r (small_leaf to ∷ ls) = HasNone r ls

none_more : (r : List Bool) (ls ms : List Leaf) → HasNone r ls → HasNone r ms → HasNone r (ls ++ ms)
none_more r [] ms h k = k
none_more r (open_leaf p b ∷ ls) ms h k = (h.0, none_more r ls ms h.1 k)
none_more r (inner_leaf to ∷ ls) ms h k = none_more r ls ms h k
none_more r (small_leaf to ∷ ls) ms h k = none_more r ls ms h k

none_below : (q : List Bool) (b : List Bounds) (t : Tree) (r : List Bool) → Parts q r → HasNone r (leaves_below q b t)
none_below q b leaf r h = (parts_apart q r h, tt)
none_below q b removed r h = tt
none_below q b (inner to) r h = tt
none_below q b (small to) r h = tt
none_below q b (cut to v a l m) r h =
    none_more r (leaves_below (q ++ false ∷ []) (lower_half to v a) l) (leaves_below (q ++ true ∷ []) (upper_half to v a) m)
    (none_below (q ++ false ∷ []) (lower_half to v a) l r (parts_more q r (false ∷ []) h))
    (none_below (q ++ true ∷ []) (upper_half to v a) m r (parts_more q r (true ∷ []) h))

none_in : (r : List Bool) (b : List Bounds) (ls ms : List Leaf) → HasNone r (ls ++ open_leaf r b ∷ ms) → ⊥
none_in r b [] ms h = h.0 refl
none_in r b (open_leaf p c ∷ ls) ms h = none_in r b ls ms h.1
none_in r b (inner_leaf to ∷ ls) ms h = none_in r b ls ms h
none_in r b (small_leaf to ∷ ls) ms h = none_in r b ls ms h

none_tail : (r : List Bool) (l : Leaf) (ls : List Leaf) → HasNone r (l ∷ ls) → HasNone r ls
none_tail r (open_leaf p b) ls h = h.1
none_tail r (inner_leaf to) ls h = h
none_tail r (small_leaf to) ls h = h

-- what stands before and behind an open leaf, in a list that has no other of its path
record IsSplit (before after front back : List Leaf) : Type 0 where
  fronts : before ≡ front
  backs : after ≡ back

one_split : (r : List Bool) (b c : List Bounds) (before after front back : List Leaf) → before ++ open_leaf r b ∷ after ≡ front ++ open_leaf r c ∷ back
    → HasNone r front → HasNone r back → IsSplit before after front back
one_split r b c [] after [] back e h k = record { fronts = refl; backs = cc }
one_split r b c [] after (l ∷ front) back e h k =
    let w : l ≡ open_leaf r b = cc in
    absurd ((subst (λ x. HasNone r (x ∷ front)) w h).0 refl)
one_split r b c (l ∷ before) after [] back e h k =
    let w : before ++ open_leaf r b ∷ after ≡ back = cc in
    absurd (none_in r b before after (subst (HasNone r) (sym w) k))
one_split r b c (l ∷ before) after (m ∷ front) back e h k =
    let head : l ≡ m = cc in
    let tail : before ++ open_leaf r b ∷ after ≡ front ++ open_leaf r c ∷ back = cc in
    let s = one_split r b c before after front back tail (none_tail r m front h) k in
    record { fronts = λ i. head i ∷ s.fronts i; backs = s.backs }

-- ---- an open leaf of a paving, and what stands around it

record IsAt (q : List Bool) (b : List Bounds) (t : Tree) (p : List Bool) : Type 0 where
  before : List Leaf
  after : List Leaf
  now : (s : Tree) → leaves_below q b (graft t p s) ≡ before ++ (leaves_below (q ++ p) (box_of b t p) s ++ after)
  none_before : HasNone (q ++ p) before
  none_after : HasNone (q ++ p) after

joined : (q p : List Bool) (s : Bool) → (q ++ s ∷ []) ++ p ≡ q ++ s ∷ p
joined q p s = append_assoc q (s ∷ []) p

in_low : (q p : List Bool) (b to : List Bounds) (v : ℕ) (a : Extended) (l m : Tree) → IsAt (q ++ false ∷ []) (lower_half to v a) l p → IsAt q b (cut to v a l m) (false ∷ p)
in_low q p b to v a l m h =
    let high : List Leaf = leaves_below (q ++ true ∷ []) (upper_half to v a) m in
    let below : Tree → List Leaf = leaves_below ((q ++ false ∷ []) ++ p) (box_of (lower_half to v a) l p) in
    record {
      before = h.before;
      after = h.after ++ high;
      now = λ s. ap (λ ls. ls ++ high) (h.now s)
          ∙ append_assoc h.before (below s ++ h.after) high
          ∙ ap (λ ls. h.before ++ ls) (append_assoc (below s) h.after high)
          ∙ ap (λ r. h.before ++ (leaves_below r (box_of (lower_half to v a) l p) s ++ (h.after ++ high))) (joined q p false);
      none_before = subst (λ r. HasNone r h.before) (joined q p false) h.none_before;
      none_after = none_more (q ++ false ∷ p) h.after high (subst (λ r. HasNone r h.after) (joined q p false) h.none_after)
          (none_below (q ++ true ∷ []) (upper_half to v a) m (q ++ false ∷ p) (high_parts q p));
    }

in_high : (q p : List Bool) (b to : List Bounds) (v : ℕ) (a : Extended) (l m : Tree) → IsAt (q ++ true ∷ []) (upper_half to v a) m p → IsAt q b (cut to v a l m) (true ∷ p)
in_high q p b to v a l m h =
    let low : List Leaf = leaves_below (q ++ false ∷ []) (lower_half to v a) l in
    let below : Tree → List Leaf = leaves_below ((q ++ true ∷ []) ++ p) (box_of (upper_half to v a) m p) in
    record {
      before = low ++ h.before;
      after = h.after;
      now = λ s. ap (λ ls. low ++ ls) (h.now s)
          ∙ sym (append_assoc low h.before (below s ++ h.after))
          ∙ ap (λ r. (low ++ h.before) ++ (leaves_below r (box_of (upper_half to v a) m p) s ++ h.after)) (joined q p true);
      none_before = none_more (q ++ true ∷ p) low h.before
          (none_below (q ++ false ∷ []) (lower_half to v a) l (q ++ true ∷ p) (low_parts q p))
          (subst (λ r. HasNone r h.before) (joined q p true) h.none_before);
      none_after = subst (λ r. HasNone r h.after) (joined q p true) h.none_after;
    }

here : (q : List Bool) (b : List Bounds) (t : Tree) → IsAt q b t []
here q b t = record {
  before = [];
  after = [];
  now = λ s. ap (λ r. leaves_below r b s) (sym (append-nil q)) ∙ sym (append-nil (leaves_below (q ++ []) b s));
  none_before = tt;
  none_after = tt;
}

is_at : (q : List Bool) (b : List Bounds) (t : Tree) (p : List Bool) → subtree t p ≡ Some leaf → IsAt q b t p
is_at q b t [] e = here q b t
is_at q b (cut to v a l m) (false ∷ p) e = in_low q p b to v a l m (is_at (q ++ false ∷ []) (lower_half to v a) l p e)
is_at q b (cut to v a l m) (true ∷ p) e = in_high q p b to v a l m (is_at (q ++ true ∷ []) (upper_half to v a) m p e)
is_at q b leaf (s ∷ p) e = cc
is_at q b removed (s ∷ p) e = cc
is_at q b (inner to) (s ∷ p) e = cc
is_at q b (small to) (s ∷ p) e = cc

-- the leaf that comes of a settling, if one does
abbrev pub kept_by : Outcome → List Leaf
kept_by Removed = []
kept_by (Inner to) = inner_leaf to ∷ []
kept_by (Small to) = small_leaf to ∷ []
kept_by (Cut to var at) = []

settled_leaves : (hole : Hole) (holes : List Hole) (o : Outcome) → leaves_below hole.path hole.box (settled o) ++ open_leaves holes ≡ kept_by o ++ open_leaves (holes_below hole o ++ holes)
settled_leaves hole holes Removed = refl
settled_leaves hole holes (Inner to) = refl
settled_leaves hole holes (Small to) = refl
settled_leaves hole holes (Cut to v a) = refl

pub leaves_after : (b : List Bounds) (t : Tree) (hole : Hole) (holes : List Hole) (passed : List Leaf) (o : Outcome) → subtree t hole.path ≡ Some leaf → box_of b t hole.path ≡ hole.box
    → leaves_of b t ≡ passed ++ open_leaf hole.path hole.box ∷ open_leaves holes
    → leaves_of b (graft t hole.path (settled o)) ≡ (passed ++ kept_by o) ++ open_leaves (holes_below hole o ++ holes)
leaves_after b t hole holes passed o e f was =
    let at = is_at [] b t hole.path e in
    let then = sym (ap (leaves_of b) (graft_leaf t hole.path e)) ∙ at.now leaf in
    let split = one_split hole.path hole.box (box_of b t hole.path) passed (open_leaves holes) at.before at.after (sym was ∙ then) at.none_before at.none_after in
    let front = sym split.fronts in
    let back = sym split.backs in
    at.now (settled o)
    ∙ (λ i. front i ++ (leaves_below hole.path (f i) (settled o) ++ back i))
    ∙ ap (λ ls. passed ++ ls) (settled_leaves hole holes o)
    ∙ sym (append_assoc passed (kept_by o) (open_leaves (holes_below hole o ++ holes)))

-- ---- ends and points of two lists

pub lows-append : (t : Term) (ls ms : List Leaf) → lows t (ls ++ ms) ≡ lows t ls ++ lows t ms
lows-append t [] ms = refl
lows-append t (l ∷ ls) ms = ap (λ xs. as_list (low_of t (box_in l)) ++ xs) (lows-append t ls ms) ∙ sym (append_assoc (as_list (low_of t (box_in l))) (lows t ls) (lows t ms))

pub points-append : (t : Term) (ls ms : List Leaf) → points t (ls ++ ms) ≡ points t ls ++ points t ms
points-append t [] ms = refl
points-append t (l ∷ ls) ms = ap (λ ps. points_in t l ++ ps) (points-append t ls ms) ∙ sym (append_assoc (points_in t l) (points t ls) (points t ms))

pub points-open : (t : Term) (hs : List Hole) → points t (open_leaves hs) ≡ []
points-open t [] = refl
points-open t (hole ∷ hs) = points-open t hs
