-- Whether slopes are those of some constraints, as a test.
use Rattle.std.specs.Prelude.{ℕ, ℤ, pos, negsuc, Bool, true, false, ◌&&◌, nat_eq, List, [], ◌∷◌}
use Rattle.pv_expr.specs.declared.constraint.Relation.{Relation}
use Rattle.pv_expr.specs.declared.constraint.Relation.TheVariants.{Eq, Le, Ge, Lt, Gt}
use Rattle.pv_expr.specs.declared.operators.UnaryOp.{UnaryOp}
use Rattle.pv_expr.specs.declared.operators.UnaryOp.TheVariants.{Neg, Abs, Pow}
use Rattle.pv_expr.specs.declared.operators.BinaryOp.{BinaryOp}
use Rattle.pv_expr.specs.declared.operators.BinaryOp.TheVariants.{Add, Sub, Mul, Div, Min, Max}
use Rattle.pv_expr.specs.Terms.{Term, constant, place, one, two}
use Rattle.pv_hc4.specs.Revise.{Sides}
use Rattle.pv_slope.specs.Centered.{gap_of}
use Rattle.pv_slope.specs.Flat.{Parts, term_in}

abbrev pub same_whole : ℤ → ℤ → Bool
same_whole (pos m) (pos n) = nat_eq m n
same_whole (pos m) (negsuc n) = false
same_whole (negsuc m) (pos n) = false
same_whole (negsuc m) (negsuc n) = nat_eq m n

abbrev pub same_unary : UnaryOp → UnaryOp → Bool
same_unary Neg Neg = true
same_unary Abs Abs = true
same_unary (Pow m) (Pow n) = nat_eq m n
same_unary u v = false

abbrev pub same_binary : BinaryOp → BinaryOp → Bool
same_binary Add Add = true
same_binary Sub Sub = true
same_binary Mul Mul = true
same_binary Div Div = true
same_binary Min Min = true
same_binary Max Max = true
same_binary o p = false

abbrev pub same_term : Term → Term → Bool
same_term (constant p q) (constant r s) = same_whole p r && nat_eq q s
same_term (place i) (place j) = nat_eq i j
same_term (one u t) (one v s) = same_unary u v && same_term t s
same_term (two o t u) (two p s v) = same_binary o p && (same_term t s && same_term u v)
same_term t s = false

abbrev pub same_relation : Relation → Relation → Bool
same_relation Eq Eq = true
same_relation Le Le = true
same_relation Ge Ge = true
same_relation Lt Lt = true
same_relation Gt Gt = true
same_relation r s = false

-- the slopes are of this constraint's left - right, over so many variables
abbrev pub matches : ℕ → Parts → Sides → Bool
matches d p s = same_term (term_in p) (gap_of s) && (same_relation p.relation s.relation && nat_eq p.dims d)

-- each of the slopes is of the constraint at its place
abbrev pub all_match : ℕ → List Parts → List Sides → Bool
all_match d [] [] = true
all_match d [] (s ∷ ss) = false
all_match d (p ∷ ps) [] = false
all_match d (p ∷ ps) (s ∷ ss) = matches d p s && all_match d ps ss
