-- The value of a term at a point of the box lies in its forward interval.
use Rattle.std.proofs.Common.{◌≡◌, ℕ, zero, suc, ◌≤◌, List, [], ◌∷◌, refl, subst, arith}
use Rattle.std.specs.Prelude.{Option, Some, None, ℤ, pos, ◌*ℤ◌, slice_get}
use Rattle.std.proofs.lemmas.Int.{ints}
use Rattle.pv_num.specs.Grid.{unit}
use Rattle.pv_interval.specs.Bounds.{Bounds}
use Rattle.pv_interval.specs.Fractions.{Fraction, plus, minus, times, least as lesser, greatest as larger}
use Rattle.pv_interval.specs.Points.{Lies, LiesIn, LiesInSome, Point}
use Rattle.pv_interval.specs.Tables as table
use Rattle.pv_interval.proofs.Values.{below_rounded, above_rounded}
use Rattle.pv_interval.proofs.Keeps.{sum_keeps, difference_keeps, product_keeps, opposite_keeps}
use Rattle.pv_interval.proofs.Orders.{least_keeps, greatest_keeps, absolute_keeps}
use Rattle.pv_interval.proofs.Powers.{power_keeps}
use Rattle.pv_interval.proofs.Quotients.{quotient_keeps}
use Rattle.pv_box.specs.Boxes.{LieIn, PointIn}
use Rattle.pv_expr.specs.Systems.{IsOver}
use Rattle.pv_expr.specs.declared.operators.UnaryOp.{UnaryOp}
use Rattle.pv_expr.specs.declared.operators.UnaryOp.TheVariants.{Neg, Abs, Pow}
use Rattle.pv_expr.specs.declared.operators.BinaryOp.{BinaryOp}
use Rattle.pv_expr.specs.declared.operators.BinaryOp.TheVariants.{Add, Sub, Mul, Div, Min, Max}
use Rattle.pv_expr.specs.Terms.{Term, constant, place, one, two, unary_value, binary_value, with_one, with_two, coordinate, value_at}
use Rattle.pv_hc4.specs.Chain.{chain, at}
use Rattle.pv_hc4.specs.Forward.{forward_of, constant_of, unary_of, binary_of}

-- the interval is there, and the number lies in it
abbrev pub InSome : Fraction → Option Bounds → Type 0
InSome f o = LiesInSome f.top f.under o

pub same_value : (f g : Fraction) → Some f ≡ Some g → f ≡ g
same_value f g e = cc

-- the parts of a value
pub record OneValue (u : UnaryOp) (o : Option Fraction) (v : Fraction) : Type 0 where
  pub f : Fraction
  pub is : o ≡ Some f
  pub value : unary_value u f ≡ v

pub one_value : (u : UnaryOp) (o : Option Fraction) (v : Fraction) → with_one u o ≡ Some v → OneValue u o v
one_value u None v e = absurd (cc)
one_value u (Some f) v e = record { f = f; is = refl; value = same_value (unary_value u f) v e }

pub record TwoValues (b : BinaryOp) (o p : Option Fraction) (v : Fraction) : Type 0 where
  pub f : Fraction
  pub g : Fraction
  pub first : o ≡ Some f
  pub second : p ≡ Some g
  pub value : binary_value b f g ≡ Some v

pub two_values : (b : BinaryOp) (o p : Option Fraction) (v : Fraction) → with_two b o p ≡ Some v → TwoValues b o p v
two_values b None p v e = absurd (cc)
two_values b (Some f) None v e = absurd (cc)
two_values b (Some f) (Some g) v e = record { f = f; g = g; first = refl; second = refl; value = e }

-- the coordinate of a variable lies in its place
pub coordinate_lies : (ns : List ℤ) (d : ℕ) (b : List Bounds) (i : ℕ) (v : Fraction) → LieIn ns d b → coordinate (slice_get ns i) d ≡ Some v → LiesIn v (at b i)
coordinate_lies [] d b i v h e = absurd (cc)
coordinate_lies (n ∷ ns) d [] i v h e = absurd h
coordinate_lies (n ∷ ns) d (x ∷ b) zero v h e = subst (λ w. LiesIn w x) (same_value (record { top = n; under = d }) v e) h.0
coordinate_lies (n ∷ ns) d (x ∷ b) (suc i) v h e = coordinate_lies ns d b i v h.1 e

constant_lies : (p : ℤ) (q : ℕ) → 1 ≤ q → Lies p q (constant_of p q)
constant_lies p q h = record {
  some = omega arith;
  low = below_rounded (p *ℤ pos unit) p q q (omega arith) (omega (arith, ints));
  high = above_rounded (p *ℤ pos unit) p q q (omega arith) (omega (arith, ints));
}

pub unary_lies : (u : UnaryOp) (f : Fraction) (x : Bounds) → LiesIn f x → LiesIn (unary_value u f) (unary_of u x)
unary_lies Neg f x h = opposite_keeps f x h
unary_lies Abs f x h = absolute_keeps f x h
unary_lies (Pow n) f x h = power_keeps f x n h

pub binary_lies : (o : BinaryOp) (f g v : Fraction) (x y : Bounds) → binary_value o f g ≡ Some v → LiesIn f x → LiesIn g y → InSome v (binary_of o x y)
binary_lies Add f g v x y e h k = subst (λ w. LiesIn w (table.sum_of x y)) (same_value (plus f g) v e) (sum_keeps f g x y h k)
binary_lies Sub f g v x y e h k = subst (λ w. LiesIn w (table.difference_of x y)) (same_value (minus f g) v e) (difference_keeps f g x y h k)
binary_lies Mul f g v x y e h k = subst (λ w. LiesIn w (table.product_of x y)) (same_value (times f g) v e) (product_keeps f g x y h k)
binary_lies Div f g v x y e h k = quotient_keeps f g v x y e h k
binary_lies Min f g v x y e h k = subst (λ w. LiesIn w (table.least_of x y)) (same_value (lesser f g) v e) (least_keeps f g x y h k)
binary_lies Max f g v x y e h k = subst (λ w. LiesIn w (table.greatest_of x y)) (same_value (larger f g) v e) (greatest_keeps f g x y h k)

one_lies : (u : UnaryOp) (f v : Fraction) (o : Option Bounds) → unary_value u f ≡ v → InSome f o → InSome v (chain o (λ x. Some (unary_of u x)))
one_lies u f v None e h = absurd h
one_lies u f v (Some x) e h = subst (λ w. LiesIn w (unary_of u x)) e (unary_lies u f x h)

two_lies : (o : BinaryOp) (f g v : Fraction) (p q : Option Bounds) → binary_value o f g ≡ Some v → InSome f p → InSome g q → InSome v (chain p (λ x. chain q (λ y. binary_of o x y)))
two_lies o f g v None q e h k = absurd h
two_lies o f g v (Some x) None e h k = absurd k
two_lies o f g v (Some x) (Some y) e h k = binary_lies o f g v x y e h k

-- where the term has a value, its interval is there and holds the value
pub forward_lies : (x : Point) (n : ℕ) (b : List Bounds) (t : Term) (v : Fraction) → IsOver n t → PointIn x b → value_at t x.places x.under ≡ Some v → InSome v (forward_of b t)
forward_lies x n b (constant p q) v o h e =
    subst (λ w. LiesIn w (constant_of p q)) (same_value (record { top = p; under = q }) v e) (constant_lies p q o.under_above)
forward_lies x n b (place i) v o h e = coordinate_lies x.places x.under b i v h e
forward_lies x n b (one u t) v o h e =
    let c = one_value u (value_at t x.places x.under) v e in
    one_lies u c.f v (forward_of b t) c.value (forward_lies x n b t c.f o.1 h c.is)
forward_lies x n b (two k t u) v o h e =
    let c = two_values k (value_at t x.places x.under) (value_at u x.places x.under) v e in
    two_lies k c.f c.g v (forward_of b t) (forward_of b u) c.value (forward_lies x n b t c.f o.0 h c.first) (forward_lies x n b u c.g o.1 h c.second)
