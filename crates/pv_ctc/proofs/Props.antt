-- Facts that have one proof at most.
use Rattle.std.proofs.Common.{ℕ, List, [], ◌∷◌}
use Rattle.std.specs.Coded.{×_prop, Unit-prop, le_prop}
use Rattle.std.proofs.Props.{props}
use Rattle.std.specs.Prelude.{ℤ}
use Rattle.pv_expr.specs.Systems.{IsFraction, IsUnary, IsOver}
use Rattle.pv_expr.specs.declared.operators.UnaryOp.{UnaryOp}
use Rattle.pv_expr.specs.declared.operators.UnaryOp.TheVariants.{Neg, Abs, Pow}
use Rattle.pv_expr.specs.Terms.{Term, constant, place, one, two}
use Rattle.pv_hc4.specs.Revise.{Sides}
use Rattle.pv_ctc.specs.Plans.{Plan, Plans, hc4, compose, union, qinter, fix, prop, no_plan, plan_and, IsFor, AreFor}
use Rattle.pv_ctc.specs.Members.{AllOver}

mutual
  pub IsFor-prop : (n : ℕ) (p : Plan) → IsProp (IsFor n p)
  IsFor-prop n (hc4 i) = le_prop
  IsFor-prop n (compose ps) = ×_prop le_prop (AreFor-prop n ps)
  IsFor-prop n (union ps) = ×_prop le_prop (AreFor-prop n ps)
  IsFor-prop n (qinter q ps) = let h = AreFor-prop n ps in hlevel (props, h)
  IsFor-prop n (fix k p) = let h = IsFor-prop n p in hlevel (props, h)
  IsFor-prop n (prop k) = ×_prop le_prop le_prop

  pub AreFor-prop : (n : ℕ) (ps : Plans) → IsProp (AreFor n ps)
  AreFor-prop n no_plan = Unit-prop
  AreFor-prop n (plan_and p ps) = ×_prop (IsFor-prop n p) (AreFor-prop n ps)

IsUnary-prop : (u : UnaryOp) → IsProp (IsUnary u)
IsUnary-prop Neg = Unit-prop
IsUnary-prop Abs = Unit-prop
IsUnary-prop (Pow n) = le_prop

IsFraction-prop : (p : ℤ) (q : ℕ) → IsProp (IsFraction p q)
IsFraction-prop p q = hlevel props

IsOver-prop : (n : ℕ) (t : Term) → IsProp (IsOver n t)
IsOver-prop n (constant p q) = IsFraction-prop p q
IsOver-prop n (place i) = le_prop
IsOver-prop n (one u t) = ×_prop (IsUnary-prop u) (IsOver-prop n t)
IsOver-prop n (two o t u) = ×_prop (IsOver-prop n t) (IsOver-prop n u)

pub AllOver-prop : (n : ℕ) (ss : List Sides) → IsProp (AllOver n ss)
AllOver-prop n [] = Unit-prop
AllOver-prop n (s ∷ ss) = ×_prop (×_prop (IsOver-prop n s.left) (IsOver-prop n s.right)) (AllOver-prop n ss)
