-- A revision keeps each point at which the constraint holds.
use Rattle.std.proofs.Common.{◌≡◌, ℕ, suc, ◌+◌, ◌<◌, List, [], ◌∷◌, ◌++◌, ap, sym, ◌∙◌, subst, arith, eqb-true}
use Rattle.std.specs.Prelude.{Option, Some, None, true, ℤ, pos, ◌*ℤ◌, ◌≤ℤ◌, ◌<ℤ◌, slice_get, nat_eq}
use Rattle.std.proofs.lemmas.Int.{ints}
use Rattle.pv_num.specs.Order.{le, lt}
use Rattle.pv_interval.specs.Bounds.{Bounds}
use Rattle.pv_interval.specs.Fractions.{Fraction, plus, minus, times, least as lesser_of, greatest as larger_of}
use Rattle.pv_interval.specs.Points.{IsBelow, IsAbove, LiesIn, LiesInSome, Point}
use Rattle.pv_interval.specs.Tables.{meet_of}
use Rattle.pv_interval.proofs.Choices.{lesser_either, greater_either}
use Rattle.pv_interval.proofs.Ends.{lt_not}
use Rattle.pv_interval.proofs.Orders.{cond_keeps, above_down, below_up, meet_keeps}
use Rattle.pv_interval.proofs.Values.{across}
use Rattle.pv_project.specs.Kept.{PairIn}
use Rattle.pv_project.proofs.Kept.{back_add_keeps, back_sub_keeps, back_mul_keeps, back_div_keeps, back_min_keeps, back_max_keeps, back_neg_keeps, back_abs_keeps}
use Rattle.pv_project.proofs.RootsKept.{back_pow_keeps}
use Rattle.pv_project.proofs.Same.{IsSame, same_back, same_lies}
use Rattle.pv_box.specs.Boxes.{LieIn, PointIn}
use Rattle.pv_box.specs.Members.{PointInSome}
use Rattle.pv_expr.specs.Systems.{IsOver}
use Rattle.pv_expr.specs.declared.constraint.Relation.{Relation}
use Rattle.pv_expr.specs.declared.constraint.Relation.TheVariants.{Eq, Le, Ge, Lt, Gt}
use Rattle.pv_expr.specs.declared.operators.UnaryOp.{UnaryOp}
use Rattle.pv_expr.specs.declared.operators.UnaryOp.TheVariants.{Neg, Abs, Pow}
use Rattle.pv_expr.specs.declared.operators.BinaryOp.{BinaryOp}
use Rattle.pv_expr.specs.declared.operators.BinaryOp.TheVariants.{Add, Sub, Mul, Div, Min, Max}
use Rattle.pv_expr.specs.Terms.{Term, constant, place, one, two, unary_value, binary_value, coordinate, value_at, Stands}
use Rattle.pv_hc4.specs.Chain.{chain}
use Rattle.pv_hc4.specs.Forward.{forward_of}
use Rattle.pv_hc4.specs.Revise.{back_1, back_2, Target, joined, targets_of, place_of, places_from, Sides, ordered_of, swapped, related_of, both_targets, revised}
use Rattle.pv_hc4.specs.Members.{HoldsAt}
use Rattle.pv_hc4.proofs.Lying.{InSome, same_value, one_value, two_values, forward_lies}
use Rattle.pv_hc4.proofs.Comparing.{no_room}

-- ---- targets hold the coordinates of their variables

abbrev pub TargetHolds : Point → Target → Type 0
TargetHolds x s = (v : Fraction) → coordinate (slice_get x.places s.var) x.under ≡ Some v → LiesIn v s.within

abbrev pub AllHold : Point → List Target → Type 0
AllHold x [] = Unit {0}
AllHold x (s ∷ ts) = TargetHolds x s × AllHold x ts

abbrev pub TargetsHold : Point → Option (List Target) → Type 0
TargetsHold x None = ⊥
TargetsHold x (Some ts) = AllHold x ts

AllHold-append : (x : Point) (xs ys : List Target) → AllHold x xs → AllHold x ys → AllHold x (xs ++ ys)
AllHold-append x [] ys h k = k
AllHold-append x (s ∷ xs) ys h k = (h.0, AllHold-append x xs ys h.1 k)

joined_hold : (x : Point) (o p : Option (List Target)) → TargetsHold x o → TargetsHold x p → TargetsHold x (joined o p)
joined_hold x None p h k = absurd h
joined_hold x (Some xs) None h k = absurd k
joined_hold x (Some xs) (Some ys) h k = AllHold-append x xs ys h k

pub unary_back : (u : UnaryOp) (f : Fraction) (z y : Bounds) → LiesIn f y → LiesIn (unary_value u f) z → InSome f (back_1 u z y)
unary_back Neg f z y h l = back_neg_keeps f z y h l
unary_back Abs f z y h l = back_abs_keeps f z y h l
unary_back (Pow n) f z y h l = back_pow_keeps f z y n h l

pub binary_back : (o : BinaryOp) (f g v : Fraction) (z x y : Bounds) → binary_value o f g ≡ Some v → LiesIn f x → LiesIn g y → LiesIn v z → PairIn f g (back_2 o z x y)
binary_back Add f g v z x y e h k l = back_add_keeps f g z x y h k (subst (λ w. LiesIn w z) (sym (same_value (plus f g) v e)) l)
binary_back Sub f g v z x y e h k l = back_sub_keeps f g z x y h k (subst (λ w. LiesIn w z) (sym (same_value (minus f g) v e)) l)
binary_back Mul f g v z x y e h k l = back_mul_keeps f g z x y h k (subst (λ w. LiesIn w z) (sym (same_value (times f g) v e)) l)
binary_back Div f g v z x y e h k l = back_div_keeps f g v z x y e h k l
binary_back Min f g v z x y e h k l = back_min_keeps f g z x y h k (subst (λ w. LiesIn w z) (sym (same_value (lesser_of f g) v e)) l)
binary_back Max f g v z x y e h k l = back_max_keeps f g z x y h k (subst (λ w. LiesIn w z) (sym (same_value (larger_of f g) v e)) l)

one_then : (x : Point) (f : Fraction) (o : Option Bounds) (k : Bounds → Option (List Target)) → InSome f o → ((y : Bounds) → LiesIn f y → TargetsHold x (k y)) → TargetsHold x (chain o k)
one_then x f None k h go = absurd h
one_then x f (Some y) k h go = go y h

two_then : (x : Point) (f g : Fraction) (o : Option (Bounds × Bounds)) (k : Bounds × Bounds → Option (List Target)) → PairIn f g o → ((p : Bounds × Bounds) → LiesIn f p.0 → LiesIn g p.1 → TargetsHold x (k p)) → TargetsHold x (chain o k)
two_then x f g None k h go = absurd h
two_then x f g (Some p) k h go = go p h.0 h.1

one_down : (x : Point) (u : UnaryOp) (f v : Fraction) (z : Bounds) (o : Option Bounds) (k : Bounds → Option (List Target)) → unary_value u f ≡ v → LiesIn v z → InSome f o → ((y : Bounds) → LiesIn f y → TargetsHold x (k y)) → TargetsHold x (chain o (λ w. chain (back_1 u z w) k))
one_down x u f v z None k e l h go = absurd h
one_down x u f v z (Some w) k e l h go =
    one_then x f (back_1 u z w) k (unary_back u f z w h (subst (λ r. LiesIn r z) (sym e) l)) go

two_down : (x : Point) (o : BinaryOp) (f g v : Fraction) (z : Bounds) (p q : Option Bounds) (k : Bounds × Bounds → Option (List Target)) → binary_value o f g ≡ Some v → LiesIn v z → InSome f p → InSome g q → ((r : Bounds × Bounds) → LiesIn f r.0 → LiesIn g r.1 → TargetsHold x (k r)) → TargetsHold x (chain p (λ w. chain q (λ y. chain (back_2 o z w y) k)))
two_down x o f g v z None q k e l h i go = absurd h
two_down x o f g v z (Some w) None k e l h i go = absurd i
two_down x o f g v z (Some w) (Some y) k e l h i go = two_then x f g (back_2 o z w y) k (binary_back o f g v z w y e h i l) go

-- a term's value in its target: the targets of its occurrences are there, and hold the coordinates
pub targets_keep : (x : Point) (n : ℕ) (b : List Bounds) (t : Term) (z : Bounds) (v : Fraction) → IsOver n t → PointIn x b → value_at t x.places x.under ≡ Some v → LiesIn v z → TargetsHold x (targets_of b t z)
targets_keep x n b (constant p q) z v o h e l = tt
targets_keep x n b (place i) z v o h e l = (λ w f. subst (λ r. LiesIn r z) (same_value v w (sym e ∙ f)) l, tt)
targets_keep x n b (one u t) z v o h e l =
    let c = one_value u (value_at t x.places x.under) v e in
    one_down x u c.f v z (forward_of b t) (λ y. targets_of b t y) c.value l (forward_lies x n b t c.f o.1 h c.is)
    (λ y i. targets_keep x n b t y c.f o.1 h c.is i)
targets_keep x n b (two k t u) z v o h e l =
    let c = two_values k (value_at t x.places x.under) (value_at u x.places x.under) v e in
    two_down x k c.f c.g v z (forward_of b t) (forward_of b u) (λ p. joined (targets_of b t p.0) (targets_of b u p.1)) c.value l
    (forward_lies x n b t c.f o.0 h c.first) (forward_lies x n b u c.g o.1 h c.second)
    (λ p i j. joined_hold x (targets_of b t p.0) (targets_of b u p.1)
    (targets_keep x n b t p.0 c.f o.0 h c.first i) (targets_keep x n b u p.1 c.g o.1 h c.second j))

-- ---- the relation keeps the two values

equal_related : (v w : Fraction) (o : Option Bounds) → IsSame w v → 0 < w.under → InSome v o → PairIn v w (chain o (λ m. Some (m, m)))
equal_related v w None s p h = absurd h
equal_related v w (Some m) s p h = (h, same_lies w v m s p h)

-- v is at most w
ordered_keeps : (v w : Fraction) (l r : Bounds) → LiesIn v l → LiesIn w r → (v.top *ℤ pos w.under) ≤ℤ (w.top *ℤ pos v.under) → LiesIn v (ordered_of l r).0 × LiesIn w (ordered_of l r).1
ordered_keeps v w l r h k e = (
  record {
    some = h.some;
    low = h.low;
    high = lesser_either (λ a. IsAbove a v.top v.under) l.hi r.hi h.high (above_down r.hi w.top v.top w.under v.under k.some e k.high);
  },
  record {
    some = k.some;
    low = greater_either (λ a. IsBelow a w.top w.under) r.lo l.lo k.low (below_up l.lo v.top w.top v.under w.under h.some e h.low);
    high = k.high;
  },
)

loose_related : (v w : Fraction) (l r : Bounds) → LiesIn v l → LiesIn w r → (v.top *ℤ pos w.under) ≤ℤ (w.top *ℤ pos v.under) → lt r.hi l.lo ≡ true → ⊥
loose_related v w l r h k e t =
    let over = across l.lo r.hi v.top v.under h.some h.low (above_down r.hi w.top v.top w.under v.under k.some e k.high) in
    let not_over = lt_not r.hi l.lo t in
    cc

strict_related : (v w : Fraction) (l r : Bounds) → LiesIn v l → LiesIn w r → (v.top *ℤ pos w.under) <ℤ (w.top *ℤ pos v.under) → le r.hi l.lo ≡ true → ⊥
strict_related v w l r h k e t = no_room r.hi l.lo v.top w.top v.under w.under h.some k.some t h.low k.high e

loosely : (a b : ℤ) → a <ℤ b → a ≤ℤ b
loosely a b h = omega (arith, ints)

swapped_in : (v w : Fraction) (p : Bounds × Bounds) → LiesIn w p.0 × LiesIn v p.1 → PairIn v w (Some (swapped p))
swapped_in v w p h = (h.1, h.0)

-- two values that stand so stay in what the relation leaves of their intervals
pub related_keeps : (k : Relation) (v w : Fraction) (l r : Bounds) → LiesIn v l → LiesIn w r → Stands k (v.top *ℤ pos w.under) (w.top *ℤ pos v.under) → PairIn v w (related_of k l r)
related_keeps Eq v w l r h i s =
    let same : IsSame v w = record { crosswise = s } in
    equal_related v w (meet_of l r) (same_back v w same) i.some (meet_keeps v.top v.under l r h (same_lies v w r same h.some i))
related_keeps Le v w l r h i s = cond_keeps (PairIn v w) (lt r.hi l.lo) None (Some (ordered_of l r))
    (λ t. absurd (loose_related v w l r h i s t)) (λ t. ordered_keeps v w l r h i s)
related_keeps Lt v w l r h i s = cond_keeps (PairIn v w) (le r.hi l.lo) None (Some (ordered_of l r))
    (λ t. absurd (strict_related v w l r h i s t)) (λ t. ordered_keeps v w l r h i (loosely _ _ s))
related_keeps Ge v w l r h i s = cond_keeps (PairIn v w) (lt l.hi r.lo) None (Some (swapped (ordered_of r l)))
    (λ t. absurd (loose_related w v r l i h s t)) (λ t. swapped_in v w (ordered_of r l) (ordered_keeps w v r l i h s))
related_keeps Gt v w l r h i s = cond_keeps (PairIn v w) (le l.hi r.lo) None (Some (swapped (ordered_of r l)))
    (λ t. absurd (strict_related w v r l i h s t)) (λ t. swapped_in v w (ordered_of r l) (ordered_keeps w v r l i h (loosely _ _ s)))

-- ---- the places keep their coordinates

in_chain : (v : Fraction) (o : Option Bounds) (k : Bounds → Option Bounds) → InSome v o → ((y : Bounds) → LiesIn v y → InSome v (k y)) → InSome v (chain o k)
in_chain v None k h go = absurd h
in_chain v (Some y) k h go = go y h

place_keeps : (x : Point) (i : ℕ) (ts : List Target) (y : Bounds) (v : Fraction) → coordinate (slice_get x.places i) x.under ≡ Some v → AllHold x ts → LiesIn v y → InSome v (place_of i ts y)
place_keeps x i [] y v e a h = h
place_keeps x i (s ∷ ts) y v e a h =
    cond_keeps (InSome v) (nat_eq s.var i) (chain (meet_of y s.within) (place_of i ts)) (place_of i ts y)
    (λ t. in_chain v (meet_of y s.within) (place_of i ts)
    (meet_keeps v.top v.under y s.within h (a.0 v (ap (λ j. coordinate (slice_get x.places j) x.under) (eqb-true s.var i t) ∙ e)))
    (λ z l. place_keeps x i ts z v e a.1 l))
    (λ t. place_keeps x i ts y v e a.1 h)

abbrev pub LieInSome : List ℤ → ℕ → Option (List Bounds) → Type 0
LieInSome ns d None = ⊥
LieInSome ns d (Some b) = LieIn ns d b

cons_in : (n : ℤ) (ns : List ℤ) (d : ℕ) (o : Option Bounds) (p : Option (List Bounds)) → LiesInSome n d o → LieInSome ns d p → LieInSome (n ∷ ns) d (chain o (λ y. chain p (λ c. Some (y ∷ c))))
cons_in n ns d None p h k = absurd h
cons_in n ns d (Some y) None h k = absurd k
cons_in n ns d (Some y) (Some c) h k = (h, k)

-- the places from number i on, where ns are the point's coordinates from there on
places_keep : (x : Point) (i : ℕ) (ts : List Target) (ns : List ℤ) (b : List Bounds) → ((j m : ℕ) → m ≡ i + j → slice_get x.places m ≡ slice_get ns j) → AllHold x ts → LieIn ns x.under b → LieInSome ns x.under (places_from i ts b)
places_keep x i ts [] [] e a h = tt
places_keep x i ts [] (y ∷ b) e a h = absurd h
places_keep x i ts (n ∷ ns) [] e a h = absurd h
places_keep x i ts (n ∷ ns) (y ∷ b) e a h =
    let v : Fraction = record { top = n; under = x.under } in
    let here : i ≡ i + 0 = omega arith in
    cons_in n ns x.under (place_of i ts y) (places_from (i + 1) ts b)
    (place_keeps x i ts y v (ap (λ o. coordinate o x.under) (e 0 i here)) a h.0)
    (places_keep x (i + 1) ts ns b (λ j m q. let r : m ≡ i + suc j = omega arith in e (suc j) m r) a h.1)

point_in : (x : Point) (o : Option (List Bounds)) → LieInSome x.places x.under o → PointInSome x o
point_in x None h = h
point_in x (Some b) h = h

placed : (x : Point) (b : List Bounds) (o : Option (List Target)) → PointIn x b → TargetsHold x o → PointInSome x (chain o (λ ts. places_from 0 ts b))
placed x b None h a = absurd a
placed x b (Some ts) h a = point_in x (places_from 0 ts b) (places_keep x 0 ts x.places b (λ j m e. let r : m ≡ j = omega arith in ap (slice_get x.places) r) a h)

-- ---- the whole revision

both_then : (x : Point) (v w : Fraction) (o : Option (Bounds × Bounds)) (k : Bounds × Bounds → Option (List Bounds)) → PairIn v w o → ((p : Bounds × Bounds) → LiesIn v p.0 → LiesIn w p.1 → PointInSome x (k p)) → PointInSome x (chain o k)
both_then x v w None k h go = absurd h
both_then x v w (Some p) k h go = go p h.0 h.1

sides_then : (x : Point) (c : Relation) (v w : Fraction) (o p : Option Bounds) (k : Bounds × Bounds → Option (List Bounds)) → Stands c (v.top *ℤ pos w.under) (w.top *ℤ pos v.under) → InSome v o → InSome w p → ((p : Bounds × Bounds) → LiesIn v p.0 → LiesIn w p.1 → PointInSome x (k p)) → PointInSome x (chain o (λ l. chain p (λ r. chain (related_of c l r) k)))
sides_then x c v w None p k s h i go = absurd h
sides_then x c v w (Some l) None k s h i go = absurd i
sides_then x c v w (Some l) (Some r) k s h i go = both_then x v w (related_of c l r) k (related_keeps c v w l r h i s) go

-- each point of the box at which the constraint holds lies in what a revision leaves
pub revised-keeps : (s : Sides) (n : ℕ) (b : List Bounds) (x : Point) → IsOver n s.left → IsOver n s.right → PointIn x b → HoldsAt s x → PointInSome x (revised s b)
revised-keeps s n b x o p h a =
    sides_then x s.relation a.v a.w (forward_of b s.left) (forward_of b s.right) (λ q. chain (both_targets b s q) (λ ts. places_from 0 ts b)) a.stands
    (forward_lies x n b s.left a.v o h a.left_is) (forward_lies x n b s.right a.w p h a.right_is)
    (λ q i j. placed x b (both_targets b s q) h
    (joined_hold x (targets_of b s.left q.0) (targets_of b s.right q.1)
    (targets_keep x n b s.left q.0 a.v o h a.left_is i) (targets_keep x n b s.right q.1 a.w p h a.right_is j)))
