-- The interval of an expression on a box, by the upward pass of HC4-revise.
use Rattle.std.specs.Prelude.{ℕ, ℤ, List, Option, Some}
use Rattle.pv_num.specs.Arithmetic.{ratio_of}
use Rattle.pv_num.specs.declared.num.End.TheVariants.{Down, Up}
use Rattle.pv_interval.specs.Bounds.{Bounds, between}
use Rattle.pv_interval.specs.Tables as table
use Rattle.pv_expr.specs.declared.operators.UnaryOp.{UnaryOp}
use Rattle.pv_expr.specs.declared.operators.UnaryOp.TheVariants.{Neg, Abs, Pow}
use Rattle.pv_expr.specs.declared.operators.BinaryOp.{BinaryOp}
use Rattle.pv_expr.specs.declared.operators.BinaryOp.TheVariants.{Add, Sub, Mul, Div, Min, Max}
use Rattle.pv_expr.specs.Terms.{Term, constant, place, one, two}
use Rattle.pv_hc4.specs.Chain.{chain, at}

-- the least interval with format ends that holds p/q
abbrev pub constant_of : ℤ → ℕ → Bounds
constant_of p q = between (ratio_of Down p q) (ratio_of Up p q)

abbrev pub unary_of : UnaryOp → Bounds → Bounds
unary_of Neg x = table.negated x
unary_of Abs x = table.absolute x
unary_of (Pow n) x = table.power_of x n

-- empty where the divisor is [0,0]
abbrev pub binary_of : BinaryOp → Bounds → Bounds → Option Bounds
binary_of Add x y = Some (table.sum_of x y)
binary_of Sub x y = Some (table.difference_of x y)
binary_of Mul x y = Some (table.product_of x y)
binary_of Div x y = table.quotient_of x y
binary_of Min x y = Some (table.least_of x y)
binary_of Max x y = Some (table.greatest_of x y)

abbrev pub forward_of : List Bounds → Term → Option Bounds
forward_of b (constant p q) = Some (constant_of p q)
forward_of b (place i) = Some (at b i)
forward_of b (one u t) = chain (forward_of b t) (λ x. Some (unary_of u x))
forward_of b (two o t u) = chain (forward_of b t) (λ x. chain (forward_of b u) (λ y. binary_of o x y))
