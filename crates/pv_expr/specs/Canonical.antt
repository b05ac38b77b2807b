-- The canonical text of a system.
use Rattle.std.specs.Prelude.{ℕ, ℤ, List, [], ◌∷◌, ◌++◌, length, map, codes, decimal, ◌≡◌, Some, slice_get}
use Rattle.std.specs.Fmt.{signed_decimal}
use Rattle.pv_interval.specs.Bounds.{Bounds}
use Rattle.pv_num.specs.Parts.{number_text}
use Rattle.pv_expr.specs.declared.operators.UnaryOp.{UnaryOp}
use Rattle.pv_expr.specs.declared.operators.UnaryOp.TheVariants.{Neg, Abs, Pow}
use Rattle.pv_expr.specs.declared.operators.BinaryOp.{BinaryOp}
use Rattle.pv_expr.specs.declared.operators.BinaryOp.TheVariants.{Add, Sub, Mul, Div, Min, Max}
use Rattle.pv_expr.specs.Terms.{Term, constant, place, one, two, term_of}
use Rattle.pv_expr.specs.Systems.{Parts}
use Rattle.pv_expr.specs.Searches.{search_bounds}
use Rattle.pv_expr.specs.declared.constraint.Relation.{Relation}
use Rattle.pv_expr.specs.declared.constraint.Relation.TheVariants.{Eq, Le, Ge, Lt, Gt}
use Rattle.pv_expr.specs.declared.constraint.Constraint.{Constraint}

abbrev pub relation_text : Relation → List ℕ
relation_text Eq = codes "="
relation_text Le = codes "<="
relation_text Ge = codes ">="
relation_text Lt = codes "<"
relation_text Gt = codes ">"

abbrev pub binary_head : BinaryOp → List ℕ
binary_head Add = codes "(+ "
binary_head Sub = codes "(- "
binary_head Mul = codes "(* "
binary_head Div = codes "(/ "
binary_head Min = codes "(min "
binary_head Max = codes "(max "

abbrev pub unary_head : UnaryOp → List ℕ
unary_head Neg = codes "(neg "
unary_head Abs = codes "(abs "
unary_head (Pow n) = codes "(^ "

-- how the text of an operation begins
abbrev pub term_head : Term → List ℕ
term_head (constant p q) = []
term_head (place i) = []
term_head (one u t) = unary_head u
term_head (two b t u) = binary_head b

abbrev pub unary_text : UnaryOp → List ℕ → List ℕ
unary_text Neg text = codes "(neg " ++ text ++ codes ")"
unary_text Abs text = codes "(abs " ++ text ++ codes ")"
unary_text (Pow n) text = codes "(^ " ++ text ++ codes " " ++ decimal n ++ codes ")"

abbrev pub fraction_text : ℤ → ℕ → List ℕ
fraction_text p q = signed_decimal p ++ codes "/" ++ decimal q

abbrev pub term_text : Term → List ℕ
term_text (constant p q) = fraction_text p q
term_text (place i) = codes "v" ++ decimal i
term_text (one u t) = unary_text u (term_text t)
term_text (two b t u) = binary_head b ++ term_text t ++ codes " " ++ term_text u ++ codes ")"

abbrev pub constraint_text : Constraint → List ℕ
constraint_text c = relation_text c.relation ++ codes " " ++ term_text (term_of c.left) ++ codes " " ++ term_text (term_of c.right) ++ codes "\n"

abbrev pub bounds_text : Bounds → List ℕ
bounds_text x = number_text x.lo ++ codes " " ++ number_text x.hi

abbrev pub variable_text : List ℕ → Bounds → List ℕ
variable_text name x = name ++ codes " " ++ bounds_text x ++ codes "\n"

-- the variables of these names and search intervals
abbrev pub variables_text : List (List ℕ) → List Bounds → List ℕ
variables_text [] xs = []
variables_text (n ∷ ns) [] = []
variables_text (n ∷ ns) (x ∷ xs) = variable_text n x ++ variables_text ns xs

-- what is written of one variable
pub record WritesVariable (s : Parts) (i : ℕ) (before after : List ℕ) : Type 0 where
  pub name : List ℕ
  pub interval : Bounds
  pub name_is : slice_get s.names i ≡ Some name
  pub interval_is : slice_get (map search_bounds s.domains) i ≡ Some interval
  pub written : after ≡ before ++ variable_text name interval

abbrev pub constraints_text : List Constraint → List ℕ
constraints_text [] = []
constraints_text (c ∷ cs) = constraint_text c ++ constraints_text cs

-- how many lines of a kind come
abbrev pub count_text : List ℕ → ℕ → List ℕ
count_text word n = word ++ decimal n ++ codes "\n"

abbrev pub system_variables : Parts → List ℕ
system_variables s = variables_text s.names (map search_bounds s.domains)

abbrev pub system_constraints : Parts → List ℕ
system_constraints s = constraints_text s.constraints

abbrev pub canonical_text : Parts → List ℕ
canonical_text s =
    count_text (codes "vars ") (length s.names) ++ system_variables s
    ++ count_text (codes "ctrs ") (length s.constraints) ++ system_constraints s
