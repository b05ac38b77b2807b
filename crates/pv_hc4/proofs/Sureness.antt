-- Where the sure test says so, the constraint holds at each point of the box.
use Rattle.std.proofs.Common.{◌≡◌, ℕ, zero, suc, ◌<◌, List, [], ◌∷◌, length, refl, ap, sym, ◌∙◌, subst, arith}
use Rattle.std.specs.Prelude.{IsTrue, Option, Some, None, Bool, true, false, ◌&&◌, ℤ, pos, negsuc, ◌*ℤ◌, slice_get}
use Rattle.std.proofs.lemmas.Int.{ints}
use Rattle.pv_num.specs.Order.{le}
use Rattle.pv_interval.specs.Bounds.{Bounds}
use Rattle.pv_interval.specs.Fractions.{Fraction, over, over_parts, plus, minus, times, least as lesser_of, greatest as larger_of}
use Rattle.pv_interval.specs.Points.{IsBelow, IsAbove, Lies, LiesIn, Point}
use Rattle.pv_interval.specs.Tables.{nought, has_nought}
use Rattle.pv_interval.proofs.Values.{across, below_le}
use Rattle.pv_interval.proofs.Multiples.{zero_below, zero_above}
use Rattle.pv_box.specs.Boxes.{LieIn, PointIn}
use Rattle.pv_expr.specs.Systems.{IsOver}
use Rattle.pv_expr.specs.declared.constraint.Relation.{Relation}
use Rattle.pv_expr.specs.declared.constraint.Relation.TheVariants.{Eq, Le, Ge, Lt, Gt}
use Rattle.pv_expr.specs.declared.operators.UnaryOp.{UnaryOp}
use Rattle.pv_expr.specs.declared.operators.BinaryOp.{BinaryOp}
use Rattle.pv_expr.specs.declared.operators.BinaryOp.TheVariants.{Add, Sub, Mul, Div, Min, Max}
use Rattle.pv_expr.specs.Terms.{Term, constant, place, one, two, unary_value, binary_value, with_one, with_two, coordinate, value_at, Stands}
use Rattle.pv_hc4.specs.Chain.{chain}
use Rattle.pv_hc4.specs.Forward.{forward_of}
use Rattle.pv_hc4.specs.Revise.{Sides}
use Rattle.pv_hc4.specs.Totality.{divides_well, total_of, same_number, ends_decide, decided, sure_of}
use Rattle.pv_hc4.specs.Members.{HoldsAt}
use Rattle.pv_hc4.proofs.Lying.{InSome, forward_lies}
use Rattle.pv_hc4.proofs.Comparing.{through_end, through_room, same_end}
use Rattle.pv_num.proofs.Orders.{both_le}
use Rattle.std.proofs.lemmas.Bool.{not-true}

pub left_true : (a b : Bool) → a && b ≡ true → a ≡ true
left_true true b e = refl
left_true false b e = absurd (cc)

pub right_true : (a b : Bool) → a && b ≡ true → b ≡ true
right_true true b e = e
right_true false b e = absurd (cc)

-- ---- a total term has a value

has_zero : (d : ℕ) (y : Bounds) → Lies (pos 0) d y → has_nought y ≡ true
has_zero d y h =
    ap (λ w. w && le nought y.hi) (across y.lo nought (pos 0) d h.some h.low (zero_above (pos 0) d (omega (arith, ints))))
    ∙ across nought y.hi (pos 0) d h.some (zero_below (pos 0) d (omega (arith, ints))) h.high

pub record IsDefined (o : Option Fraction) : Type 0 where
  pub v : Fraction
  pub is : o ≡ Some v

over_defined : (f : Fraction) (n : ℤ) (d : ℕ) (y : Bounds) → Lies n d y → has_nought y ≡ false → IsDefined (over_parts f n d)
over_defined f (pos zero) d y h e = let t = has_zero d y h in absurd (cc)
over_defined f (pos (suc r)) d y h e = record { v = _; is = refl }
over_defined f (negsuc r) d y h e = record { v = _; is = refl }

quotient_defined : (f g : Fraction) (o : Option Bounds) → InSome g o → divides_well Div o ≡ true → IsDefined (over f g)
quotient_defined f g None h e = absurd h
quotient_defined f g (Some y) h e = over_defined f g.top g.under y h (not-true (has_nought y) e)

pub binary_defined : (k : BinaryOp) (f g : Fraction) (o : Option Bounds) → InSome g o → divides_well k o ≡ true → IsDefined (binary_value k f g)
binary_defined Add f g o h e = record { v = plus f g; is = refl }
binary_defined Sub f g o h e = record { v = minus f g; is = refl }
binary_defined Mul f g o h e = record { v = times f g; is = refl }
binary_defined Div f g o h e = quotient_defined f g o h e
binary_defined Min f g o h e = record { v = lesser_of f g; is = refl }
binary_defined Max f g o h e = record { v = larger_of f g; is = refl }

one_defined : (u : UnaryOp) (o : Option Fraction) → IsDefined o → IsDefined (with_one u o)
one_defined u o d = record { v = unary_value u d.v; is = ap (with_one u) d.is }

two_defined : (k : BinaryOp) (o p : Option Fraction) (d : IsDefined o) (e : IsDefined p) → IsDefined (binary_value k d.v e.v) → IsDefined (with_two k o p)
two_defined k o p d e h = record { v = h.v; is = ap (λ w. with_two k w p) d.is ∙ ap (with_two k (Some d.v)) e.is ∙ h.is }

coordinate_defined : (ns : List ℤ) (d : ℕ) (b : List Bounds) (i : ℕ) → LieIn ns d b → i < length b → IsDefined (coordinate (slice_get ns i) d)
coordinate_defined [] d [] i h l = absurd (omega arith)
coordinate_defined [] d (y ∷ b) i h l = absurd h
coordinate_defined (n ∷ ns) d [] i h l = absurd h
coordinate_defined (n ∷ ns) d (y ∷ b) zero h l = record { v = _; is = refl }
coordinate_defined (n ∷ ns) d (y ∷ b) (suc i) h l = let less : i < length b = omega arith in coordinate_defined ns d b i h.1 less

pub value_defined : (x : Point) (b : List Bounds) (t : Term) → IsOver (length b) t → PointIn x b → total_of b t ≡ true → IsDefined (value_at t x.places x.under)
value_defined x b (constant p q) o h e = record { v = _; is = refl }
value_defined x b (place i) o h e = coordinate_defined x.places x.under b i h o
value_defined x b (one u t) o h e = one_defined u (value_at t x.places x.under) (value_defined x b t o.1 h e)
value_defined x b (two k t u) o h e =
    let rest = right_true (total_of b t) (total_of b u && divides_well k (forward_of b u)) e in
    let first = value_defined x b t o.0 h (left_true (total_of b t) (total_of b u && divides_well k (forward_of b u)) e) in
    let second = value_defined x b u o.1 h (left_true (total_of b u) (divides_well k (forward_of b u)) rest) in
    two_defined k (value_at t x.places x.under) (value_at u x.places x.under) first second
    (binary_defined k first.v second.v (forward_of b u) (forward_lies x (length b) b u second.v o.1 h second.is)
    (right_true (total_of b u) (divides_well k (forward_of b u)) rest))

-- ---- the ends decide

equal_stand : (v w : Fraction) (l r : Bounds) → LiesIn v l → LiesIn w r → l.lo ≡ l.hi → r.lo ≡ r.hi → l.lo ≡ r.lo → v.top *ℤ pos w.under ≡ w.top *ℤ pos v.under
equal_stand v w l r h k e f g =
    both_le _ _
    (through_end l.hi v.top w.top v.under w.under h.some k.some h.high (subst (λ a. IsBelow a w.top w.under) (sym g ∙ e) k.low))
    (through_end l.lo w.top v.top w.under v.under k.some h.some (subst (λ a. IsAbove a w.top w.under) (sym (g ∙ f)) k.high) h.low)

stands_by : (c : Relation) (v w : Fraction) (l r : Bounds) → LiesIn v l → LiesIn w r → ends_decide c l r ≡ true → Stands c (v.top *ℤ pos w.under) (w.top *ℤ pos v.under)
stands_by Eq v w l r h k e =
    let rest = right_true (same_number l.lo l.hi) (same_number r.lo r.hi && same_number l.lo r.lo) e in
    equal_stand v w l r h k
    (same_end l.lo l.hi (left_true (same_number l.lo l.hi) (same_number r.lo r.hi && same_number l.lo r.lo) e))
    (same_end r.lo r.hi (left_true (same_number r.lo r.hi) (same_number l.lo r.lo) rest))
    (same_end l.lo r.lo (right_true (same_number r.lo r.hi) (same_number l.lo r.lo) rest))
stands_by Le v w l r h k e = through_end l.hi v.top w.top v.under w.under h.some k.some h.high (below_le l.hi r.lo w.top w.under e k.low)
stands_by Lt v w l r h k e = through_room l.hi r.lo v.top w.top v.under w.under h.some k.some e h.high k.low
stands_by Ge v w l r h k e = through_end r.hi w.top v.top w.under v.under k.some h.some k.high (below_le r.hi l.lo v.top v.under e h.low)
stands_by Gt v w l r h k e = through_room r.hi l.lo w.top v.top w.under v.under k.some h.some e k.high h.low

-- ---- the whole test

decided_stand : (c : Relation) (v w : Fraction) (o p : Option Bounds) (t : Bool) → InSome v o → InSome w p
    → decided c (chain o (λ l. chain p (λ r. Some (record { left = l; right = r; total = t })))) ≡ true
    → (t ≡ true) × Stands c (v.top *ℤ pos w.under) (w.top *ℤ pos v.under)
decided_stand c v w None p t h k e = absurd h
decided_stand c v w (Some l) None t h k e = absurd k
decided_stand c v w (Some l) (Some r) t h k e =
    (left_true t (ends_decide c l r) e, stands_by c v w l r h k (right_true t (ends_decide c l r) e))

pub decided_total : (c : Relation) (o p : Option Bounds) (t : Bool) → decided c (chain o (λ l. chain p (λ r. Some (record { left = l; right = r; total = t })))) ≡ true → t ≡ true
decided_total c None p t e = absurd (cc)
decided_total c (Some l) None t e = absurd (cc)
decided_total c (Some l) (Some r) t e = left_true t (ends_decide c l r) e

pub sure-holds : (s : Sides) (b : List Bounds) (x : Point) → IsOver (length b) s.left → IsOver (length b) s.right → PointIn x b → IsTrue (sure_of s b) → HoldsAt s x
sure-holds s b x o p h e =
    let both = total_of b s.left && total_of b s.right in
    let total = decided_total s.relation (forward_of b s.left) (forward_of b s.right) both e in
    let v = value_defined x b s.left o h (left_true (total_of b s.left) (total_of b s.right) total) in
    let w = value_defined x b s.right p h (right_true (total_of b s.left) (total_of b s.right) total) in
    record {
      v = v.v;
      w = w.v;
      left_is = v.is;
      right_is = w.is;
      stands = (decided_stand s.relation v.v w.v (forward_of b s.left) (forward_of b s.right) both
          (forward_lies x (length b) b s.left v.v o h v.is) (forward_lies x (length b) b s.right w.v p h w.is) e).1;
    }
