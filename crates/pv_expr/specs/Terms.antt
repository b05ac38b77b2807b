-- Expressions as terms, their value at a point, and when a constraint holds there.
use Rattle.std.specs.Prelude.{◌≡◌, ℕ, ◌+◌, List, ℤ, pos, ◌*ℤ◌, ◌<ℤ◌, ◌≤ℤ◌, max, Option, Some, None, slice_get}
use Rattle.pv_interval.specs.Fractions.{Fraction, plus, minus, times, over, opposite, size, power as raised, least as lesser, greatest as larger}
use Rattle.pv_expr.specs.declared.expr.Expr.{Expr}
use Rattle.pv_expr.specs.declared.expr.Expr.TheVariants.{Const, Var, Add', Sub', Mul', Div', Min', Max', Neg', Abs', Pow'}
use Rattle.pv_expr.specs.declared.constraint.Relation.{Relation}
use Rattle.pv_expr.specs.declared.constraint.Relation.TheVariants.{Eq, Le, Ge, Lt, Gt}
use Rattle.pv_expr.specs.declared.constraint.Constraint.{Constraint}
use Rattle.pv_expr.specs.declared.operators.UnaryOp.{UnaryOp}
use Rattle.pv_expr.specs.declared.operators.UnaryOp.TheVariants.{Neg, Abs, Pow}
use Rattle.pv_expr.specs.declared.operators.BinaryOp.{BinaryOp}
use Rattle.pv_expr.specs.declared.operators.BinaryOp.TheVariants.{Add, Sub, Mul, Div, Min, Max}

-- a term: the constant p/q, the variable at a place, or an operation
pub data Term : Type 0 where
  constant : ℤ → ℕ → Term
  place : ℕ → Term
  one : UnaryOp → Term → Term
  two : BinaryOp → Term → Term → Term

abbrev pub term_of : Expr → Term
term_of (Const p q) = constant p q
term_of (Var i) = place i
term_of (Add' p a q b) = two Add (term_of a) (term_of b)
term_of (Sub' p a q b) = two Sub (term_of a) (term_of b)
term_of (Mul' p a q b) = two Mul (term_of a) (term_of b)
term_of (Div' p a q b) = two Div (term_of a) (term_of b)
term_of (Min' p a q b) = two Min (term_of a) (term_of b)
term_of (Max' p a q b) = two Max (term_of a) (term_of b)
term_of (Neg' p a) = one Neg (term_of a)
term_of (Abs' p a) = one Abs (term_of a)
term_of (Pow' p a n) = one (Pow n) (term_of a)

abbrev pub unary_value : UnaryOp → Fraction → Fraction
unary_value Neg f = opposite f
unary_value Abs f = size f
unary_value (Pow n) f = raised f n

-- undefined where the divisor is 0
abbrev pub binary_value : BinaryOp → Fraction → Fraction → Option Fraction
binary_value Add f g = Some (plus f g)
binary_value Sub f g = Some (minus f g)
binary_value Mul f g = Some (times f g)
binary_value Div f g = over f g
binary_value Min f g = Some (lesser f g)
binary_value Max f g = Some (larger f g)

abbrev pub with_one : UnaryOp → Option Fraction → Option Fraction
with_one u None = None
with_one u (Some v) = Some (unary_value u v)

abbrev pub with_two : BinaryOp → Option Fraction → Option Fraction → Option Fraction
with_two b None o = None
with_two b (Some v) None = None
with_two b (Some v) (Some w) = binary_value b v w

abbrev pub coordinate : Option ℤ → ℕ → Option Fraction
coordinate None d = None
coordinate (Some n) d = Some (record { top = n; under = d })

-- the value of a term where variable i is the i-th number over d, or none where it is undefined
abbrev pub value_at : Term → List ℤ → ℕ → Option Fraction
value_at (constant p q) ns d = Some (record { top = p; under = q })
value_at (place i) ns d = coordinate (slice_get ns i) d
value_at (one u t) ns d = with_one u (value_at t ns d)
value_at (two b t u) ns d = with_two b (value_at t ns d) (value_at u ns d)

-- p/q stands in the relation to r/s, by p·s and r·q
abbrev pub Stands : Relation → ℤ → ℤ → Type 0
Stands Eq x y = x ≡ y
Stands Le x y = x ≤ℤ y
Stands Ge x y = y ≤ℤ x
Stands Lt x y = x <ℤ y
Stands Gt x y = y <ℤ x

-- both sides are defined there, and stand in the relation
pub record HoldsBetween (left : Term) (relation : Relation) (right : Term) (ns : List ℤ) (d : ℕ) : Type 0 where
  pub v : Fraction
  pub w : Fraction
  pub left_is : value_at left ns d ≡ Some v
  pub right_is : value_at right ns d ≡ Some w
  pub stands : Stands relation (v.top *ℤ pos w.under) (w.top *ℤ pos v.under)

-- a constraint holds at the point whose i-th coordinate is the i-th number over d
abbrev pub Holds : Constraint → List ℤ → ℕ → Type 0
Holds c ns d = HoldsBetween (term_of c.left) c.relation (term_of c.right) ns d

-- how many nodes a term has
abbrev pub node_count : Term → ℕ
node_count (constant p q) = 1
node_count (place i) = 1
node_count (one u t) = node_count t + 1
node_count (two b t u) = node_count t + node_count u + 1

-- how many nodes the longest way down has
abbrev pub depth_of : Term → ℕ
depth_of (constant p q) = 1
depth_of (place i) = 1
depth_of (one u t) = depth_of t + 1
depth_of (two b t u) = max (depth_of t) (depth_of u) + 1
