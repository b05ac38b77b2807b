-- Two trees that are laid into a growing one, leaf by leaf.
use Rattle.std.proofs.Common.{◌≡◌, ◌≢◌, ◌⊎◌, inl, inr, ℕ, suc, ◌+◌, ◌*◌, ◌<◌, ◌≤◌, max, Bool, true, false, Option, Some, None, List, [], ◌∷◌, ◌++◌, length, refl, sym, ◌∙◌, ap, arith, subst, append_assoc, append-nil, IfSome, IfOk, Ok, Err, Result}
use Rattle.pv_num.specs.Extended.{Extended}
use Rattle.pv_interval.specs.Bounds.{Bounds}
use Rattle.pv_tree.specs.Trees.{Tree, leaf, removed, inner, small, cut, top, subtree, outcome_at, graft, settled, Paves, Fits, HasDepth, height}
use Rattle.pv_box.specs.Boxes.{lower_half, upper_half}
use Rattle.pv_tree.specs.Holes.{Hole, Growing, IsNext, Takes, growth_over, holes_below, rest_of, fill}
use Rattle.pv_tree.specs.Pieces.{Piece, Walked, IsVisit, IsPiece, pieces_below, children_of, to_come, walk_from}
use Rattle.pv_tree.specs.declared.outcome.Outcome.{Outcome}
use Rattle.pv_tree.specs.declared.outcome.Outcome.TheVariants.{Removed, Inner, Small, Cut}
use Rattle.pv_tree.specs.declared.outcome.Shape.{Shape}
use Rattle.pv_tree.proofs.Pieces.{fill_cut, fill_open}
use Rattle.pv_tree.proofs.KnownLeaves.{next_tree, next_holes}
use Rattle.pv_join.specs.Joins.{settled_side, is_a_cut, IsJoin, DisagreeAt, IsFirstDisagreement, IsJoinRefusal}
use Rattle.pv_join.specs.Meetings.{IsSeen, IsMet, IsOneOf, AreApart, IsApart, laid_next, CanLay, IsPassed, HasStepped, left_of, piece_at, nodes_at, IsStanding, IsFront, or_leaf, sub, HaveJoin, AllJoin, IsBelow, RefusesAt, IsJoining, IsMeeting}
use Rattle.pv_join.specs.declared.merge.JoinRefused.{JoinRefused}
use Rattle.pv_join.specs.declared.merge.JoinRefused.TheVariants as refused
use Rattle.pv_join.proofs.Shapes.{top_there, outcome_top}
use Rattle.pv_join.proofs.JoinFacts.{join_self, join_leaf_left, join_leaf_right, join_swap, join_cut, outcome_leaf, top_is, open_top, top_fits, cut_top, end_top, side_some, subtree_low, subtree_high}
use Rattle.pv_join.proofs.Overlays.{part_of_leaf, leaf_agrees, first_low, first_high, root_first}

-- ---- Where a tree has no path

none_below : (t : Tree) (p : List Bool) (c : Bool) → subtree t p ≡ None → subtree t (p ++ c ∷ []) ≡ None
none_below t [] c e = cc
none_below (cut x w b m n) (false ∷ p) c e = none_below m p c e
none_below (cut x w b m n) (true ∷ p) c e = none_below n p c e
none_below leaf (d ∷ p) c e = refl
none_below removed (d ∷ p) c e = refl
none_below (inner x) (d ∷ p) c e = refl
none_below (small x) (d ∷ p) c e = refl

leaf_below : (t : Tree) (p : List Bool) (c : Bool) → subtree t p ≡ Some leaf → subtree t (p ++ c ∷ []) ≡ None
leaf_below t [] c e = let w : t ≡ leaf = cc in ap (λ (x : Tree). subtree x (c ∷ [])) w
leaf_below (cut x w b m n) (false ∷ p) c e = leaf_below m p c e
leaf_below (cut x w b m n) (true ∷ p) c e = leaf_below n p c e
leaf_below leaf (d ∷ p) c e = refl
leaf_below removed (d ∷ p) c e = refl
leaf_below (inner x) (d ∷ p) c e = refl
leaf_below (small x) (d ∷ p) c e = refl

-- ---- One side of a leaf

-- an outcome is that of the leaf, or none
abbrev IsSide : Option Outcome → Option Outcome → Type 0
IsSide x o = (x ≡ None) ⊎ (x ≡ o)

side_one : (l r o : Option Outcome) → IsOneOf l r o → IsSide l o × IsSide r o
side_one None r o h = (inl refl, inr (sym h.takes))
side_one (Some x) None o h = (inr (sym h.takes), inl refl)
side_one (Some x) (Some y) o h = (inr (sym h.takes), inr (sym (ap (λ (z : Outcome). Some z) (h.agree x y refl refl)) ∙ sym h.takes))

abbrev holes_after : Hole → Option Outcome → List Hole
holes_after hole None = []
holes_after hole (Some o) = holes_below hole o

abbrev tree_after : Tree → Hole → Option Outcome → Tree
tree_after t hole None = t
tree_after t hole (Some o) = graft t hole.path (settled o)

abbrev kids : Hole → Option Tree → List Piece
kids hole None = []
kids hole (Some u) = pieces_below hole.path u

no_kids : (hole : Hole) (o : Outcome) (u : Tree) → IsSide (top u) (Some o) → holes_below hole o ≡ [] → pieces_below hole.path u ≡ []
no_kids hole o leaf s e = refl
no_kids hole o removed s e = refl
no_kids hole o (inner to) s e = refl
no_kids hole o (small to) s e = refl
no_kids hole o (cut to v a l r) (inl s) e = cc
no_kids hole o (cut to v a l r) (inr s) e =
    let w : Cut to v a ≡ o = cc in
    let f : holes_below hole (Cut to v a) ≡ [] = ap (holes_below hole) w ∙ e in cc

end_kids : (hole : Hole) (o : Outcome) (m : Option Tree) → IsSide (top_there m) (Some o) → holes_below hole o ≡ [] → kids hole m ≡ []
end_kids hole o None s e = refl
end_kids hole o (Some u) s e = no_kids hole o u s e

open_kids : (hole : Hole) (m : Option Tree) → IsSide (top_there m) None → kids hole m ≡ []
open_kids hole None s = refl
open_kids hole (Some leaf) s = refl
open_kids hole (Some removed) s = absurd (elim s [ inl e ↦ (let f : Some Removed ≡ None = e in cc) | inr e ↦ (let f : Some Removed ≡ None = e in cc) ])
open_kids hole (Some (inner to)) s = refl
open_kids hole (Some (small to)) s = refl
open_kids hole (Some (cut to v a l r)) (inl e) = cc
open_kids hole (Some (cut to v a l r)) (inr e) = cc

cut_kids : (hole : Hole) (to : List Bounds) (v : ℕ) (a : Extended) (t : Tree) (hs : List Hole) (m : Option Tree) → subtree t hole.path ≡ m → IsSide (top_there m) (Some (Cut to v a))
    → nodes_at t (holes_below hole (Cut to v a) ++ hs) ≡ kids hole m ++ nodes_at t hs
cut_kids hole to v a t hs None e s =
    λ i. piece_at (record { path = hole.path ++ false ∷ []; box = lower_half to v a }) (none_below t hole.path false e i)
    ++ (piece_at (record { path = hole.path ++ true ∷ []; box = upper_half to v a }) (none_below t hole.path true e i) ++ nodes_at t hs)
cut_kids hole to v a t hs (Some leaf) e s =
    λ i. piece_at (record { path = hole.path ++ false ∷ []; box = lower_half to v a }) (leaf_below t hole.path false e i)
    ++ (piece_at (record { path = hole.path ++ true ∷ []; box = upper_half to v a }) (leaf_below t hole.path true e i) ++ nodes_at t hs)
cut_kids hole to v a t hs (Some removed) e (inl s) = cc
cut_kids hole to v a t hs (Some removed) e (inr s) = cc
cut_kids hole to v a t hs (Some (inner x)) e (inl s) = cc
cut_kids hole to v a t hs (Some (inner x)) e (inr s) = cc
cut_kids hole to v a t hs (Some (small x)) e (inl s) = cc
cut_kids hole to v a t hs (Some (small x)) e (inr s) = cc
cut_kids hole to v a t hs (Some (cut x w b l r)) e (inl s) = cc
cut_kids hole to v a t hs (Some (cut x w b l r)) e (inr s) =
    let same : Cut x w b ≡ Cut to v a = cc in
    subst (λ (o : Outcome). nodes_at t (holes_below hole o ++ hs) ≡ pieces_below hole.path (cut x w b l r) ++ nodes_at t hs) same
    (λ i. piece_at (record { path = hole.path ++ false ∷ []; box = lower_half x w b }) (subtree_low t hole.path x w b l r e i)
    ++ (piece_at (record { path = hole.path ++ true ∷ []; box = upper_half x w b }) (subtree_high t hole.path x w b l r e i) ++ nodes_at t hs))

after_nodes : (hole : Hole) (o : Option Outcome) (t : Tree) (hs : List Hole) (m : Option Tree) → subtree t hole.path ≡ m → IsSide (top_there m) o
    → nodes_at t (holes_after hole o ++ hs) ≡ kids hole m ++ nodes_at t hs
after_nodes hole None t hs m e s = sym (ap (λ (x : List Piece). x ++ nodes_at t hs) (open_kids hole m s))
after_nodes hole (Some Removed) t hs m e s = sym (ap (λ (x : List Piece). x ++ nodes_at t hs) (end_kids hole Removed m s refl))
after_nodes hole (Some (Inner to)) t hs m e s = sym (ap (λ (x : List Piece). x ++ nodes_at t hs) (end_kids hole (Inner to) m s refl))
after_nodes hole (Some (Small to)) t hs m e s = sym (ap (λ (x : List Piece). x ++ nodes_at t hs) (end_kids hole (Small to) m s refl))
after_nodes hole (Some (Cut to v a)) t hs m e s = cut_kids hole to v a t hs m e s

-- ---- One walk

pub passed : (old new : Walked) (r : Option Shape) → IfSome r (λ s. IsVisit old new s) → IsPiece new.root new.tree new.here → new.tree ≡ old.tree
    → (r ≡ None → old.pending ≡ []) → (r ≡ None → new ≡ old) → IsPassed old new r
passed old new None v p t f g = (f refl, g refl)
passed old new (Some s) v p t f g = (v, record { shape = v.shape; piece = p }, t)

passed_front : (v w : Walked) (s : Option Shape) (hs : List Hole) → nodes_at v.tree hs ≡ v.pending → IsPassed v w s → IsFront w s hs
passed_front v w None hs q x = subst (λ (y : Walked). nodes_at y.tree hs ≡ []) (sym x.1) (q ∙ x.0)
passed_front v w (Some k) hs q x =
    let visit : IsVisit v w k = x.0 in
    record { rest = visit.rest; pending = visit.pending; seen = x.1; nodes = ap (λ (t : Tree). nodes_at t hs) x.2 ∙ q ∙ visit.was }

pub first_front : (b c : List Bounds) (t : Tree) (v w : Walked) (s : Option Shape) → c ≡ b → v ≡ walk_from b t → IsPassed v w s → IsFront w s (record { path = []; box = c } ∷ [])
first_front b c t v w s e f x =
    let q : nodes_at v.tree (record { path = []; box = c } ∷ []) ≡ v.pending
    = subst (λ (y : Walked). nodes_at y.tree (record { path = []; box = c } ∷ []) ≡ y.pending) (sym f) (λ i. record { path = []; box = e i; tree = t } ∷ []) in
    passed_front v w s (record { path = []; box = c } ∷ []) q x

-- the node at which a walk stands, where its tree has the path of the first leaf
record IsAtHole (v : Walked) (hole : Hole) (hs : List Hole) (rest : List Piece) (u : Tree) : Type 0 where
  pub here : record { path = hole.path; box = hole.box; tree = u } ≡ v.here
  pub tail : nodes_at v.tree hs ≡ rest

at_hole : (v : Walked) (k : Shape) (hole : Hole) (hs : List Hole) (u : Tree) → subtree v.tree hole.path ≡ Some u → (st : IsStanding v k (hole ∷ hs)) → IsAtHole v hole hs st.rest u
at_hole v k hole hs u e st =
    let n : record { path = hole.path; box = hole.box; tree = u } ∷ nodes_at v.tree hs ≡ v.here ∷ st.rest = ap (λ (x : Option Tree). piece_at hole x ++ nodes_at v.tree hs) (sym e) ∙ st.nodes in
    record { here = cc; tail = cc }

not_there : (v : Walked) (hole : Hole) (hs : List Hole) (u : Tree) → subtree v.tree hole.path ≡ Some u → nodes_at v.tree (hole ∷ hs) ≡ [] → ⊥
not_there v hole hs u e n =
    let m : record { path = hole.path; box = hole.box; tree = u } ∷ nodes_at v.tree hs ≡ [] = ap (λ (x : Option Tree). piece_at hole x ++ nodes_at v.tree hs) (sym e) ∙ n in cc

elsewhere : (v : Walked) (k : Shape) (hole : Hole) (hs : List Hole) → subtree v.tree hole.path ≡ None → IsStanding v k (hole ∷ hs) → v.here.path ≡ hole.path → ⊥
elsewhere v k hole hs e st h =
    let w : Some v.here.tree ≡ None = sym st.seen.piece.found ∙ ap (subtree v.tree) h ∙ e in cc

front_step : (v : Walked) (s : Option Shape) (p : List Bool) (w : Walked) (r : Option Shape) (hole : Hole) (hs : List Hole) (o : Option Outcome) (m : Option Tree) → subtree v.tree hole.path ≡ m
    → p ≡ hole.path → IsSide (top_there m) o → IsFront v s (hole ∷ hs) → HasStepped v s p w r → IsFront w r (holes_after hole o ++ hs)
front_step v None p w r hole hs o None e ep side f step =
    let n : nodes_at v.tree hs ≡ [] = ap (λ (x : Option Tree). piece_at hole x ++ nodes_at v.tree hs) (sym e) ∙ f in
    let q : nodes_at v.tree (holes_after hole o ++ hs) ≡ [] = after_nodes hole o v.tree hs None e side ∙ n in
    subst (λ (x : Option Shape). IsFront w x (holes_after hole o ++ hs)) (sym step.1) (subst (λ (y : Walked). nodes_at y.tree (holes_after hole o ++ hs) ≡ []) (sym step.0) q)
front_step v None p w r hole hs o (Some u) e ep side f step = absurd (not_there v hole hs u e f)
front_step v (Some k) p w r hole hs o None e ep side st (inl x) =
    let n : nodes_at v.tree hs ≡ v.here ∷ st.rest = ap (λ (y : Option Tree). piece_at hole y ++ nodes_at v.tree hs) (sym e) ∙ st.nodes in
    let q : IsStanding v k (holes_after hole o ++ hs) = record { rest = st.rest; pending = st.pending; seen = st.seen; nodes = after_nodes hole o v.tree hs None e side ∙ n } in
    subst (λ (y : Option Shape). IsFront w y (holes_after hole o ++ hs)) (sym x.2) (subst (λ (y : Walked). IsStanding y k (holes_after hole o ++ hs)) (sym x.1) q)
front_step v (Some k) p w r hole hs o None e ep side st (inr x) = absurd (elsewhere v k hole hs e st (x.0 ∙ ep))
front_step v (Some k) p w r hole hs o (Some u) e ep side st (inl x) =
    let a = at_hole v k hole hs u e st in absurd (x.0 (sym (ap (λ (z : Piece). z.path) a.here) ∙ sym ep))
front_step v (Some k) p w r hole hs o (Some u) e ep side st (inr x) =
    let a = at_hole v k hole hs u e st in
    let q : nodes_at v.tree (holes_after hole o ++ hs) ≡ v.pending
    = after_nodes hole o v.tree hs (Some u) e side ∙ (λ i. children_of (a.here i) ++ a.tail i) ∙ sym st.pending in
    passed_front v w r (holes_after hole o ++ hs) q x.1

front_met : (v : Walked) (s : Option Shape) (p : List Bool) (hole : Hole) (hs : List Hole) (m : Option Tree) → subtree v.tree hole.path ≡ m → p ≡ hole.path → IsFront v s (hole ∷ hs) → IsMet v s p
front_met v None p hole hs None e ep f = outcome_top v.tree p ∙ ap top_there (ap (subtree v.tree) ep ∙ e)
front_met v None p hole hs (Some u) e ep f = absurd (not_there v hole hs u e f)
front_met v (Some k) p hole hs None e ep st = (st.seen, λ ne. outcome_top v.tree p ∙ ap top_there (ap (subtree v.tree) ep ∙ e))
front_met v (Some k) p hole hs (Some u) e ep st =
    let a = at_hole v k hole hs u e st in (st.seen, λ ne. absurd (ne (sym (ap (λ (z : Piece). z.path) a.here) ∙ sym ep)))

top_depth : (p : List Bool) (u : Tree) (x : Outcome) → top u ≡ Some x → length p + height u ≤ 200 → HasDepth p x
top_depth p u Removed e h = tt
top_depth p u (Inner to) e h = tt
top_depth p u (Small to) e h = tt
top_depth p leaf (Cut to v a) e h = cc
top_depth p removed (Cut to v a) e h = cc
top_depth p (inner y) (Cut to v a) e h = cc
top_depth p (small y) (Cut to v a) e h = cc
top_depth p (cut y w b l r) (Cut to v a) e h = let k : length p + suc (max (height l) (height r)) ≤ 200 = h in omega (arith, k)

-- the walk stands at the first leaf's path, where its tree is settled there
record IsThere (v : Walked) (s : Option Shape) (hole : Hole) (x : Outcome) : Type 0 where
  pub shape : Shape
  pub stands : s ≡ Some shape
  pub path : v.here.path ≡ hole.path
  pub fits : Fits hole.box x
  pub depth : HasDepth hole.path x

front_there : (v : Walked) (s : Option Shape) (hole : Hole) (hs : List Hole) (x : Outcome) (m : Option Tree) → subtree v.tree hole.path ≡ m → IsFront v s (hole ∷ hs) → top_there m ≡ Some x → IsThere v s hole x
front_there v s hole hs x None e f t = let w : None ≡ Some x = t in cc
front_there v None hole hs x (Some u) e f t = absurd (not_there v hole hs u e f)
front_there v (Some k) hole hs x (Some u) e st t =
    let a = at_hole v k hole hs u e st in
    let piece : IsPiece v.root v.tree (record { path = hole.path; box = hole.box; tree = u }) = subst (IsPiece v.root v.tree) (sym a.here) st.seen.piece in
    record { shape = k; stands = refl; path = sym (ap (λ (z : Piece). z.path) a.here); fits = top_fits hole.box u x piece.paves t; depth = top_depth hole.path u x t piece.depth }

-- ---- How many nodes are left

stepped_few : (v : Walked) (s : Option Shape) (p : List Bool) (w : Walked) (r : Option Shape) → HasStepped v s p w r → left_of w r ≤ left_of v s
stepped_few v None p w r x = subst (λ (y : Option Shape). left_of w y ≤ 0) (sym x.1) (omega arith)
stepped_few v (Some k) p w r (inl x) =
    subst (λ (y : Option Shape). left_of w y ≤ 1 + to_come v.pending) (sym x.2) (subst (λ (y : Walked). 1 + to_come y.pending ≤ 1 + to_come v.pending) (sym x.1) (omega arith))
stepped_few v (Some k) p w None (inr x) = omega arith
stepped_few v (Some k) p w (Some j) (inr x) = let visit : IsVisit v w j = x.1.0 in let f = visit.falls in omega (arith, f)

stepped_fewer : (v : Walked) (k : Shape) (p : List Bool) (w : Walked) (r : Option Shape) → v.here.path ≡ p → HasStepped v (Some k) p w r → left_of w r < left_of v (Some k)
stepped_fewer v k p w r e (inl x) = absurd (x.0 e)
stepped_fewer v k p w None e (inr x) = omega arith
stepped_fewer v k p w (Some j) e (inr x) = let visit : IsVisit v w j = x.1.0 in let f = visit.falls in omega (arith, f)

there_fewer : (v : Walked) (s : Option Shape) (p : List Bool) (w : Walked) (r : Option Shape) (hole : Hole) (x : Outcome) → p ≡ hole.path → IsThere v s hole x → HasStepped v s p w r → left_of w r < left_of v s
there_fewer v s p w r hole x ep t step =
    subst (λ (y : Option Shape). left_of w r < left_of v y) (sym t.stands)
    (stepped_fewer v t.shape p w r (t.path ∙ sym ep) (subst (λ (y : Option Shape). HasStepped v y p w r) t.stands step))

-- ---- The tree that grows

sub_top : (t : Tree) (p : List Bool) → outcome_at t p ≡ top (sub t p)
sub_top t p = outcome_top t p ∙ or_top (subtree t p)
  where
    or_top : (m : Option Tree) → top_there m ≡ top (or_leaf m)
    or_top None = refl
    or_top (Some u) = refl

-- what the two children of a cut have of a join
record IsHalved (s t sl tl sr tr : Tree) (to : List Bounds) (v : ℕ) (a : Extended) : Type 0 where
  pub join : (x y : Tree) → IsJoin sl tl x → IsJoin sr tr y → IsJoin s t (cut to v a x y)
  pub low : (p : List Bool) → IsFirstDisagreement sl tl p → IsFirstDisagreement s t (false ∷ p)
  pub high : (x : Tree) (p : List Bool) → IsJoin sl tl x → IsFirstDisagreement sr tr p → IsFirstDisagreement s t (true ∷ p)

halved_both : (to : List Bounds) (v : ℕ) (a : Extended) (l r m n : Tree) → IsHalved (cut to v a l r) (cut to v a m n) l m r n to v a
halved_both to v a l r m n = record {
  join = λ x y j k. join_cut to v a l r m n x y j k;
  low = λ p f. first_low to v a l r m n p f;
  high = λ x p j f. first_high to v a l r m n x p j f;
}

halved_right : (to : List Bounds) (v : ℕ) (a : Extended) (m n : Tree) → IsHalved leaf (cut to v a m n) leaf m leaf n to v a
halved_right to v a m n = record {
  join = λ x y j k. part_of_leaf to v a leaf leaf m n x y refl refl j k;
  low = λ p f. absurd (leaf_agrees m p f.here);
  high = λ x p j f. absurd (leaf_agrees n p f.here);
}

right_agrees : (t : Tree) (p : List Bool) → DisagreeAt t leaf p → ⊥
right_agrees t p d = let w : None ≡ Some d.right = sym (outcome_leaf p) ∙ d.right_is in cc

halved_left : (to : List Bounds) (v : ℕ) (a : Extended) (l r : Tree) → IsHalved (cut to v a l r) leaf l leaf r leaf to v a
halved_left to v a l r = record {
  join = λ x y j k. join_swap leaf (cut to v a l r) (cut to v a x y) (part_of_leaf to v a leaf leaf l r x y refl refl (join_swap l leaf x j) (join_swap r leaf y k));
  low = λ p f. absurd (right_agrees l p f.here);
  high = λ x p j f. absurd (right_agrees r p f.here);
}

record IsCutSide (t : Tree) (p : List Bool) (to : List Bounds) (v : ℕ) (a : Extended) : Type 0 where
  pub low : Tree
  pub high : Tree
  pub whole : sub t p ≡ cut to v a low high
  pub low_is : sub t (p ++ false ∷ []) ≡ low
  pub high_is : sub t (p ++ true ∷ []) ≡ high

cut_side : (t : Tree) (p : List Bool) (to : List Bounds) (v : ℕ) (a : Extended) (m : Option Tree) → subtree t p ≡ m → top_there m ≡ Some (Cut to v a) → IsCutSide t p to v a
cut_side t p to v a None e h = let w : None ≡ Some (Cut to v a) = h in cc
cut_side t p to v a (Some u) e h =
    let c = cut_top u to v a h in
    let f : subtree t p ≡ Some (cut to v a c.low c.high) = e ∙ ap (λ (x : Tree). Some x) c.is in record {
      low = c.low;
      high = c.high;
      whole = ap or_leaf f;
      low_is = ap or_leaf (subtree_low t p to v a c.low c.high f);
      high_is = ap or_leaf (subtree_high t p to v a c.low c.high f);
    }

record IsOpenSide (t : Tree) (p : List Bool) : Type 0 where
  pub whole : sub t p ≡ leaf
  pub low_is : sub t (p ++ false ∷ []) ≡ leaf
  pub high_is : sub t (p ++ true ∷ []) ≡ leaf

open_side : (t : Tree) (p : List Bool) (m : Option Tree) → subtree t p ≡ m → top_there m ≡ None → IsOpenSide t p
open_side t p None e h = record { whole = ap or_leaf e; low_is = ap or_leaf (none_below t p false e); high_is = ap or_leaf (none_below t p true e) }
open_side t p (Some u) e h =
    let f : subtree t p ≡ Some leaf = e ∙ ap (λ (x : Tree). Some x) (open_top u h) in
    record { whole = ap or_leaf f; low_is = ap or_leaf (leaf_below t p false f); high_is = ap or_leaf (leaf_below t p true f) }

abbrev IsHalvedAt : Tree → Tree → List Bool → List Bounds → ℕ → Extended → Type 0
IsHalvedAt a b p to v at = IsHalved (sub a p) (sub b p) (sub a (p ++ false ∷ [])) (sub b (p ++ false ∷ [])) (sub a (p ++ true ∷ [])) (sub b (p ++ true ∷ [])) to v at

halved : (a b : Tree) (p : List Bool) (to : List Bounds) (v : ℕ) (at : Extended) → IsSide (top_there (subtree a p)) (Some (Cut to v at)) → IsSide (top_there (subtree b p)) (Some (Cut to v at))
    → (top_there (subtree a p) ≡ Some (Cut to v at)) ⊎ (top_there (subtree b p) ≡ Some (Cut to v at)) → IsHalvedAt a b p to v at
halved a b p to v at (inr x) (inr y) some =
    let c = cut_side a p to v at (subtree a p) refl x in let d = cut_side b p to v at (subtree b p) refl y in
    let e : IsHalved (cut to v at c.low c.high) (cut to v at d.low d.high) c.low d.low c.high d.high to v at ≡ IsHalvedAt a b p to v at
    = λ i. IsHalved (sym c.whole i) (sym d.whole i) (sym c.low_is i) (sym d.low_is i) (sym c.high_is i) (sym d.high_is i) to v at in
    subst (λ (X : Type 0). X) e (halved_both to v at c.low c.high d.low d.high)
halved a b p to v at (inr x) (inl y) some =
    let c = cut_side a p to v at (subtree a p) refl x in let d = open_side b p (subtree b p) refl y in
    let e : IsHalved (cut to v at c.low c.high) leaf c.low leaf c.high leaf to v at ≡ IsHalvedAt a b p to v at
    = λ i. IsHalved (sym c.whole i) (sym d.whole i) (sym c.low_is i) (sym d.low_is i) (sym c.high_is i) (sym d.high_is i) to v at in
    subst (λ (X : Type 0). X) e (halved_left to v at c.low c.high)
halved a b p to v at (inl x) (inr y) some =
    let c = open_side a p (subtree a p) refl x in let d = cut_side b p to v at (subtree b p) refl y in
    let e : IsHalved leaf (cut to v at d.low d.high) leaf d.low leaf d.high to v at ≡ IsHalvedAt a b p to v at
    = λ i. IsHalved (sym c.whole i) (sym d.whole i) (sym c.low_is i) (sym d.low_is i) (sym c.high_is i) (sym d.high_is i) to v at in
    subst (λ (X : Type 0). X) e (halved_right to v at d.low d.high)
halved a b p to v at (inl x) (inl y) (inl z) = let w : None ≡ Some (Cut to v at) = sym x ∙ z in cc
halved a b p to v at (inl x) (inl y) (inr z) = let w : None ≡ Some (Cut to v at) = sym y ∙ z in cc

-- the leaf becomes a node without children, or stays
joining_end : (a b t : Tree) (hole : Hole) (hs : List Hole) (s : Tree) → IsJoin (sub a hole.path) (sub b hole.path) s → IsJoining a b t (hole ∷ hs) → IsJoining a b (graft t hole.path s) hs
joining_end a b t hole hs s j given = record {
  joins = λ ss h. given.joins (s ∷ ss) (j, h);
  refuses = λ p h. given.refuses p (inr (record { part = s; is_join = j }, h));
}

cut_joins : (a b t : Tree) (hole : Hole) (hs : List Hole) (to : List Bounds) (v : ℕ) (at : Extended) → IsHalvedAt a b hole.path to v at → IsJoining a b t (hole ∷ hs) → (ss : List Tree)
    → AllJoin a b (holes_below hole (Cut to v at) ++ hs) ss → IsJoin a b (fill (graft t hole.path (settled (Cut to v at))) (holes_below hole (Cut to v at) ++ hs) ss)
cut_joins a b t hole hs to v at halves given [] h = absurd h
cut_joins a b t hole hs to v at halves given (x ∷ []) h = absurd h.1
cut_joins a b t hole hs to v at halves given (x ∷ (y ∷ zs)) h =
    subst (IsJoin a b) (fill_cut t hole hs to v at x y zs) (given.joins (cut to v at x y ∷ zs) (halves.join x y h.0 h.1.0, h.1.1))

cut_refuses : (a b t : Tree) (hole : Hole) (hs : List Hole) (to : List Bounds) (v : ℕ) (at : Extended) → IsHalvedAt a b hole.path to v at → IsJoining a b t (hole ∷ hs) → (p : List Bool)
    → RefusesAt a b (holes_below hole (Cut to v at) ++ hs) p → IsFirstDisagreement a b p
cut_refuses a b t hole hs to v at halves given p (inl x) =
    given.refuses p (inl (record { tail = false ∷ x.tail; is = x.is ∙ append_assoc hole.path (false ∷ []) x.tail; first = halves.low x.tail x.first }))
cut_refuses a b t hole hs to v at halves given p (inr (j, inl x)) =
    given.refuses p (inl (record { tail = true ∷ x.tail; is = x.is ∙ append_assoc hole.path (true ∷ []) x.tail; first = halves.high j.part x.tail j.is_join x.first }))
cut_refuses a b t hole hs to v at halves given p (inr (j, inr (k, h))) =
    given.refuses p (inr (record { part = cut to v at j.part k.part; is_join = halves.join j.part k.part j.is_join k.is_join }, h))

end_join : (s t : Tree) (o : Outcome) → IsSide (top s) (Some o) → IsSide (top t) (Some o) → (top s ≡ Some o) ⊎ (top t ≡ Some o) → is_a_cut o ≡ false → IsJoin s t (settled o)
end_join s t o (inr x) (inr y) some c =
    subst (λ (z : Tree). IsJoin s z (settled o)) (sym (end_top t o y c)) (subst (λ (z : Tree). IsJoin z (settled o) (settled o)) (sym (end_top s o x c)) (join_self (settled o)))
end_join s t o (inr x) (inl y) some c =
    subst (λ (z : Tree). IsJoin s z (settled o)) (sym (open_top t y)) (subst (λ (z : Tree). IsJoin z leaf (settled o)) (sym (end_top s o x c)) (join_leaf_right (settled o)))
end_join s t o (inl x) (inr y) some c =
    subst (λ (z : Tree). IsJoin s z (settled o)) (sym (end_top t o y c)) (subst (λ (z : Tree). IsJoin z (settled o) (settled o)) (sym (open_top s x)) (join_leaf_left (settled o)))
end_join s t o (inl x) (inl y) (inl z) c = let w : None ≡ Some o = sym x ∙ z in cc
end_join s t o (inl x) (inl y) (inr z) c = let w : None ≡ Some o = sym y ∙ z in cc

open_join : (s t : Tree) → top s ≡ None → top t ≡ None → IsJoin s t leaf
open_join s t x y = subst (λ (z : Tree). IsJoin s z leaf) (sym (open_top t y)) (subst (λ (z : Tree). IsJoin z leaf leaf) (sym (open_top s x)) (join_self leaf))

both_none : (x y : Option Outcome) → settled_side x y ≡ None → (x ≡ None) × (y ≡ None)
both_none None y e = (refl, e)
both_none (Some x) y e = cc

module _ (a b t : Tree) (hole : Hole) (hs : List Hole) (is_leaf : subtree t hole.path ≡ Some leaf) (given : IsJoining a b t (hole ∷ hs)) where
  abbrev l : Option Outcome
  l = top_there (subtree a hole.path)

  abbrev r : Option Outcome
  r = top_there (subtree b hole.path)

  above : (m : Option Tree) (o : Option Outcome) → IsSide (top_there m) o → IsSide (top (or_leaf m)) o
  above None o s = s
  above (Some u) o s = s

  top_or : (m : Option Tree) (o : Option Outcome) → top_there m ≡ o → top (or_leaf m) ≡ o
  top_or None o s = s
  top_or (Some u) o s = s

  end_at : (o : Outcome) → IsOneOf l r (Some o) → is_a_cut o ≡ false → IsJoin (sub a hole.path) (sub b hole.path) (settled o)
  end_at o one c =
      let s = side_one l r (Some o) one in
      end_join (sub a hole.path) (sub b hole.path) o (above (subtree a hole.path) (Some o) s.0) (above (subtree b hole.path) (Some o) s.1)
      (elim (side_some l r o (sym one.takes)) [ inl x ↦ inl (top_or (subtree a hole.path) (Some o) x) | inr y ↦ inr (top_or (subtree b hole.path) (Some o) y) ]) c

  joining_step : (o : Option Outcome) → IsOneOf l r o → IsJoining a b (tree_after t hole o) (holes_after hole o ++ hs)
  joining_step None one =
      let n = both_none l r (sym one.takes) in
      let j = open_join (sub a hole.path) (sub b hole.path) (top_or (subtree a hole.path) None n.0) (top_or (subtree b hole.path) None n.1) in record {
        joins = λ ss h. subst (IsJoin a b) (fill_open t hole hs ss is_leaf) (given.joins (leaf ∷ ss) (j, h));
        refuses = λ p h. given.refuses p (inr (record { part = leaf; is_join = j }, h));
      }
  joining_step (Some Removed) one = joining_end a b t hole hs removed (end_at Removed one refl) given
  joining_step (Some (Inner to)) one = joining_end a b t hole hs (inner to) (end_at (Inner to) one refl) given
  joining_step (Some (Small to)) one = joining_end a b t hole hs (small to) (end_at (Small to) one refl) given
  joining_step (Some (Cut to v at)) one =
      let s = side_one l r (Some (Cut to v at)) one in
      let halves = halved a b hole.path to v at s.0 s.1 (side_some l r (Cut to v at) (sym one.takes)) in
      record { joins = cut_joins a b t hole hs to v at halves given; refuses = cut_refuses a b t hole hs to v at halves given }

-- ---- Both walks and the growing tree

stepped_tree : (v : Walked) (s : Option Shape) (p : List Bool) (w : Walked) (r : Option Shape) → HasStepped v s p w r → w.tree ≡ v.tree
stepped_tree v None p w r x = ap (λ (y : Walked). y.tree) x.0
stepped_tree v (Some k) p w r (inl x) = ap (λ (y : Walked). y.tree) x.1
stepped_tree v (Some k) p w None (inr x) = ap (λ (y : Walked). y.tree) x.1.1
stepped_tree v (Some k) p w (Some j) (inr x) = x.1.2

laid_tree : (g : Growing) (p : List Bool) (o : Option Outcome) (n : IsNext g p) → (laid_next g o).tree ≡ tree_after g.tree n.hole o
laid_tree g p None n = refl
laid_tree g p (Some o) n = next_tree g p o n ∙ ap (λ (q : List Bool). graft g.tree q (settled o)) n.path

laid_holes : (g : Growing) (p : List Bool) (o : Option Outcome) (n : IsNext g p) → (laid_next g o).holes ≡ holes_after n.hole o ++ n.rest
laid_holes g p None n = ap rest_of n.is
laid_holes g p (Some o) n = next_holes g p o n

few_holes : (hole : Hole) (o : Option Outcome) (hs : List Hole) → length (holes_after hole o ++ hs) ≤ 2 + length hs
few_holes hole None hs = omega arith
few_holes hole (Some Removed) hs = omega arith
few_holes hole (Some (Inner to)) hs = omega arith
few_holes hole (Some (Small to)) hs = omega arith
few_holes hole (Some (Cut to v a)) hs = omega arith

outcome_sub : (t : Tree) (p : List Bool) (q : List Bool) → p ≡ q → outcome_at t p ≡ top_there (subtree t q)
outcome_sub t p q e = ap (outcome_at t) e ∙ outcome_top t q

module _ (v : Walked) (s : Option Shape) (w : Walked) (u : Option Shape) (g : Growing) (p : List Bool) (n : IsNext g p) (given : IsMeeting v s w u g) where
  abbrev first_of_left : IsFront v s (n.hole ∷ n.rest)
  first_of_left = subst (IsFront v s) n.is given.left

  abbrev first_of_right : IsFront w u (n.hole ∷ n.rest)
  first_of_right = subst (IsFront w u) n.is given.right

  pub met_left : IsMet v s p
  met_left = front_met v s p n.hole n.rest (subtree v.tree n.hole.path) refl n.path first_of_left

  pub met_right : IsMet w u p
  met_right = front_met w u p n.hole n.rest (subtree w.tree n.hole.path) refl n.path first_of_right

  one_at : (o : Option Outcome) → IsOneOf (outcome_at v.tree p) (outcome_at w.tree p) o → IsOneOf (top_there (subtree v.tree n.hole.path)) (top_there (subtree w.tree n.hole.path)) o
  one_at o one =
      subst (λ (y : Option Outcome). IsOneOf (top_there (subtree v.tree n.hole.path)) y o) (outcome_sub w.tree p n.hole.path n.path)
      (subst (λ (y : Option Outcome). IsOneOf y (outcome_at w.tree p) o) (outcome_sub v.tree p n.hole.path n.path) one)

  pub can_lay : (o : Option Outcome) → IsOneOf (outcome_at v.tree p) (outcome_at w.tree p) o → CanLay g o
  can_lay None one = subst (λ (hs : List Hole). 0 < length hs) (sym n.is) (omega arith)
  can_lay (Some x) one = subst (λ (hs : List Hole). Takes hs x) (sym n.is) (elim (side_some (top_there (subtree v.tree n.hole.path)) (top_there (subtree w.tree n.hole.path)) x (sym (one_at (Some x) one).takes)) [
    | inl y ↦ let t = front_there v s n.hole n.rest x (subtree v.tree n.hole.path) refl first_of_left y in (t.fits, t.depth)
    | inr y ↦ let t = front_there w u n.hole n.rest x (subtree w.tree n.hole.path) refl first_of_right y in (t.fits, t.depth)
  ])

  pub apart : (e : JoinRefused) → IsApart (outcome_at v.tree p) (outcome_at w.tree p) p e → IsJoinRefusal v.tree w.tree e
  apart refused.Memory h = tt
  apart (refused.Disagree q) h =
      let d : AreApart (outcome_at v.tree p) (outcome_at w.tree p) = h.1 in
      let l : top (sub v.tree n.hole.path) ≡ Some d.left = sym (sub_top v.tree n.hole.path) ∙ ap (outcome_at v.tree) (sym n.path) ∙ d.left_is in
      let r : top (sub w.tree n.hole.path) ≡ Some d.right = sym (sub_top w.tree n.hole.path) ∙ ap (outcome_at w.tree) (sym n.path) ∙ d.right_is in
      let here : RefusesAt v.tree w.tree (n.hole ∷ n.rest) q = inl (record {
        tail = [];
        is = h.0 ∙ n.path ∙ sym (append-nil n.hole.path);
        first = root_first (sub v.tree n.hole.path) (sub w.tree n.hole.path) d.left d.right l r d.differ;
      }) in
      given.joining.refuses q (subst (λ (hs : List Hole). RefusesAt v.tree w.tree hs q) (sym n.is) here)

  module _ (o : Option Outcome) (one : IsOneOf (outcome_at v.tree p) (outcome_at w.tree p) o) (g2 : Growing) (laid : g2 ≡ laid_next g o)
      (v2 : Walked) (s2 : Option Shape) (w2 : Walked) (u2 : Option Shape) (left : HasStepped v s p v2 s2) (right : HasStepped w u p w2 u2) where
    abbrev holes_are : g2.holes ≡ holes_after n.hole o ++ n.rest
    holes_are = ap (λ (x : Growing). x.holes) laid ∙ laid_holes g p o n

    abbrev tree_is : g2.tree ≡ tree_after g.tree n.hole o
    tree_is = ap (λ (x : Growing). x.tree) laid ∙ laid_tree g p o n

    sides : IsSide (top_there (subtree v.tree n.hole.path)) o × IsSide (top_there (subtree w.tree n.hole.path)) o
    sides = side_one (top_there (subtree v.tree n.hole.path)) (top_there (subtree w.tree n.hole.path)) o (one_at o one)

    pub one_laid : IsMeeting v2 s2 w2 u2 g2
    one_laid =
        let j : IsJoining v.tree w.tree (tree_after g.tree n.hole o) (holes_after n.hole o ++ n.rest)
        = joining_step v.tree w.tree g.tree n.hole n.rest n.is_leaf (subst (IsJoining v.tree w.tree g.tree) n.is given.joining) o (one_at o one) in
        let f : IsFront v2 s2 (holes_after n.hole o ++ n.rest) = front_step v s p v2 s2 n.hole n.rest o (subtree v.tree n.hole.path) refl n.path sides.0 first_of_left left in
        let h : IsFront w2 u2 (holes_after n.hole o ++ n.rest) = front_step w u p w2 u2 n.hole n.rest o (subtree w.tree n.hole.path) refl n.path sides.1 first_of_right right in
        let e : IsJoining v.tree w.tree (tree_after g.tree n.hole o) (holes_after n.hole o ++ n.rest) ≡ IsJoining v2.tree w2.tree g2.tree g2.holes
        = λ i. IsJoining (sym (stepped_tree v s p v2 s2 left) i) (sym (stepped_tree w u p w2 u2 right) i) (sym tree_is i) (sym holes_are i) in record {
          joining = subst (λ (X : Type 0). X) e j;
          left = subst (IsFront v2 s2) (sym holes_are) f;
          right = subst (IsFront w2 u2) (sym holes_are) h;
        }

    fewer_open : o ≡ None → length g2.holes < length g.holes
    fewer_open e =
        let x : length g2.holes ≡ length n.rest = ap (λ (hs : List Hole). length hs) (holes_are ∙ ap (λ (y : Option Outcome). holes_after n.hole y ++ n.rest) e) in
        let y : length g.holes ≡ suc (length n.rest) = ap (λ (hs : List Hole). length hs) n.is in
        omega (arith, x, y)

    fewer_nodes : (x : Outcome) → o ≡ Some x → left_of v2 s2 + left_of w2 u2 < left_of v s + left_of w u
    fewer_nodes x e =
        let few_left = stepped_few v s p v2 s2 left in
        let few_right = stepped_few w u p w2 u2 right in
        elim (side_some (top_there (subtree v.tree n.hole.path)) (top_there (subtree w.tree n.hole.path)) x (sym (one_at o one).takes ∙ e)) [
          | inl y ↦
              let less = there_fewer v s p v2 s2 n.hole x n.path (front_there v s n.hole n.rest x (subtree v.tree n.hole.path) refl first_of_left y) left in
              omega (arith, less, few_right)
          | inr y ↦
              let less = there_fewer w u p w2 u2 n.hole x n.path (front_there w u n.hole n.rest x (subtree w.tree n.hole.path) refl first_of_right y) right in
              omega (arith, less, few_left)
        ]

    by_cases : (q : Option Outcome) → o ≡ q → 2 * (left_of v2 s2 + left_of w2 u2) + length g2.holes < 2 * (left_of v s + left_of w u) + length g.holes
    by_cases None e =
        let few_left = stepped_few v s p v2 s2 left in
        let few_right = stepped_few w u p w2 u2 right in
        let less = fewer_open e in
        omega (arith, few_left, few_right, less)
    by_cases (Some x) e =
        let less = fewer_nodes x e in
        let few : length (holes_after n.hole o ++ n.rest) ≤ 2 + length n.rest = few_holes n.hole o n.rest in
        let now : length g2.holes ≡ length (holes_after n.hole o ++ n.rest) = ap (λ (hs : List Hole). length hs) holes_are in
        let then : length g.holes ≡ suc (length n.rest) = ap (λ (hs : List Hole). length hs) n.is in
        omega (arith, less, few, now, then)

    pub falls : 2 * (left_of v2 s2 + left_of w2 u2) + length g2.holes < 2 * (left_of v s + left_of w u) + length g.holes
    falls = by_cases o refl

-- ---- The beginning and the end

first_joining : (a b : Tree) (c : List Bounds) → IsJoining a b leaf (record { path = []; box = c } ∷ [])
first_joining a b c = record { joins = first_joins a b c; refuses = first_refuses a b c }
  where
    first_joins : (a b : Tree) (c : List Bounds) (ss : List Tree) → AllJoin a b (record { path = []; box = c } ∷ []) ss → IsJoin a b (fill leaf (record { path = []; box = c } ∷ []) ss)
    first_joins a b c [] h = absurd h
    first_joins a b c (s ∷ []) h = h.0
    first_joins a b c (s ∷ (t ∷ ss)) h = absurd h.1

    first_refuses : (a b : Tree) (c : List Bounds) (p : List Bool) → RefusesAt a b (record { path = []; box = c } ∷ []) p → IsFirstDisagreement a b p
    first_refuses a b c p (inl x) = subst (IsFirstDisagreement a b) (sym x.is) x.first
    first_refuses a b c p (inr x) = absurd x.1

pub begun : (b c : List Bounds) (s t : Tree) (v0 w0 v w : Walked) (x y : Option Shape) (g : Growing) → c ≡ b → v0 ≡ walk_from b s → w0 ≡ walk_from b t → IsPassed v0 v x → IsPassed w0 w y
    → v.tree ≡ s → w.tree ≡ t → g ≡ growth_over c → IsMeeting v x w y g
begun b c s t v0 w0 v w x y g e f h px py ev ew eg = subst (IsMeeting v x w y) (sym eg) (record {
  joining = first_joining v.tree w.tree c;
  left = first_front b c s v0 v x e f px;
  right = first_front b c t w0 w y e h py;
})

pub over : (v : Walked) (s : Option Shape) (w : Walked) (u : Option Shape) (g : Growing) → IsMeeting v s w u g → g.holes ≡ [] → IsJoin v.tree w.tree g.tree
over v s w u g m e = (subst (IsJoining v.tree w.tree g.tree) e m.joining).joins [] tt

pub one_from : (m t x y o : Option Outcome) → IsOneOf m t o → m ≡ x → t ≡ y → IsOneOf x y o
one_from m t x y o one e f = subst (λ (z : Option Outcome). IsOneOf x z o) f (subst (λ (z : Option Outcome). IsOneOf z t o) e one)

pub apart_from : (m t x y : Option Outcome) (p : List Bool) (e : JoinRefused) → IsApart m t p e → m ≡ x → t ≡ y → IsApart x y p e
apart_from m t x y p e h k l = subst (λ (z : Option Outcome). IsApart x z p e) l (subst (λ (z : Option Outcome). IsApart z t p e) k h)

-- what stands at the path, where the walk's node does
pub here_at : (w : Walked) (s : Shape) (p : List Bool) (o : Option Outcome) → IsSeen w s → w.here.path ≡ p → o ≡ top w.here.tree → o ≡ outcome_at w.tree p
here_at w s p o seen e f = f ∙ sym (ap (outcome_at w.tree) (sym e) ∙ top_is w.tree w.here.path w.here.tree seen.piece.found)

pub here_found : {E : Type 0} (w : Walked) (s : Shape) (p : List Bool) (r : Result (Option Outcome) E) → IsMet w (Some s) p → w.here.path ≡ p → IfOk r (λ o. o ≡ top w.here.tree) → IfOk r (λ o. o ≡ outcome_at w.tree p)
here_found w s p (Ok o) met e h = here_at w s p o met.0 e h
here_found w s p (Err x) met e h = tt
