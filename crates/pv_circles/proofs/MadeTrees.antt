-- The tree of a system of circles: it is within the limits, and so are its constraints and domains.
use Rattle.std.proofs.Common.{◌≡◌, ℕ, zero, suc, ◌+◌, ◌*◌, ◌%◌, ◌≤◌, leb, if◌then◌else◌, [], Option, Some, None, All, sum_by, refl, ap, ◌∙◌, arith, pos}
use Rattle.std.proofs.lemmas.List.Elements.{All-cons, All-nil}
use Rattle.std.proofs.lemmas.List.Sums.{sum_by-cons}
use Rattle.pv_expr.specs.declared.constraint.Relation.TheVariants.{Ge}
use Rattle.pv_code.specs.declared.fraction.Fraction.{Fraction}
use Rattle.pv_code.specs.Sizes.{AreWithin, IsShallow, nodes_of}
use Rattle.pv_grammar.specs.Limits.{AreConstraintsWithin, IsConstraintWithin, IsSystemWithin, constraints_count}
use Rattle.pv_grammar.specs.Productions.{Constraint, Constraints, Expression, Factor, Primary, System, Variable, between, bound_of, comma, constraint_and, constraints_semicolon, minus, no_constants, no_factor, no_function, no_power, no_sign, no_term, number, number_limit, parentheses, plus, product_of, raised, relates, semicolon, sum_of, system_of, to_power, variable_and, variable_at, variable_of, variables_separator}
use Rattle.pv_grammar.specs.Trees.{constraint_sides, constraints_sides, system_constraints, system_domains}
use Rattle.pv_made.specs.Circles.{after_circle, drawn_from, next_state}
use Rattle.pv_parse.specs.Declarations.{AreGood}

-- ---- The tree

abbrev pub whole : ℕ → Fraction
whole n = record { p = pos n; q = 1 }

-- the exponent that the number is
abbrev pub exponent_of : ℕ → Option ℕ
exponent_of n = if leb n 32 then Some n else None

abbrev pub alone : Primary → Expression
alone x = sum_of (product_of (raised x no_power) no_factor) no_term

-- (variable - n)^2
abbrev pub squared : ℕ → ℕ → Factor
squared i n =
    raised
    (parentheses (sum_of (product_of (raised (variable_at i) no_power) no_factor) (minus (product_of (raised (number (whole n) (exponent_of n)) no_power) no_factor) no_term)))
    (to_power (whole 2) 2)

-- (x - a)^2 + (y - b)^2 >= r
abbrev pub outside : ℕ → ℕ → ℕ → Constraint
outside a b r = relates (sum_of (product_of (squared 0 a) no_factor) (plus (product_of (squared 1 b) no_factor) no_term)) Ge (alone (number (whole r) (exponent_of r)))

-- the numbers of the circle that is made behind a state
abbrev pub centre_x : ℕ → ℕ
centre_x s = drawn_from (next_state s) % 1000

abbrev pub centre_y : ℕ → ℕ
centre_y s = drawn_from (next_state (next_state s)) % 1000

abbrev pub radius_of : ℕ → ℕ
radius_of s = 50 + drawn_from (after_circle s) % 200

abbrev pub circle : ℕ → Constraint
circle s = outside (centre_x s) (centre_y s) (radius_of s * radius_of s)

-- so many circles, one behind the other
abbrev pub circles : ℕ → ℕ → Constraints
circles zero s = constraints_semicolon
circles (suc n) s = constraint_and (circle s) (circles n (after_circle s))

-- a name in [0,1024]
abbrev pub side : Variable
side = variable_of (between (bound_of no_sign (number_limit (whole 0) (exponent_of 0))) (bound_of no_sign (number_limit (whole 1024) (exponent_of 1024))))

-- one circle and so many more
abbrev pub circles_tree : ℕ → ℕ → System
circles_tree seed n =
    system_of no_constants no_function side (variable_and comma side (variables_separator semicolon)) no_function (circle seed) (circles n (after_circle seed))

-- ---- Its limits

pub good_domains : (seed n : ℕ) → AreGood (system_domains (circles_tree seed n))
good_domains seed n = (omega arith, (omega arith, tt))

circle_within : (s : ℕ) → IsConstraintWithin (circle s)
circle_within s = (omega arith, omega arith, omega arith)

circles_within : (n s : ℕ) → AreConstraintsWithin (circles n s)
circles_within zero s = tt
circles_within (suc n) s = (circle_within s, circles_within n (after_circle s))

circles_count : (n s : ℕ) → constraints_count (circles n s) ≡ n
circles_count zero s = refl
circles_count (suc n) s = ap suc (circles_count n (after_circle s))

pub tree_within : (seed n : ℕ) → n ≤ 15 → IsSystemWithin (circles_tree seed n)
tree_within seed n few =
    (omega arith, tt, tt, omega arith, omega (arith, circles_count n (after_circle seed)), circle_within seed, circles_within n (after_circle seed))

-- ---- Its sizes

shallow : (s : ℕ) → IsShallow (constraint_sides [] (circle s))
shallow s = record { left = omega arith; right = omega arith }

all_shallow : (n s : ℕ) → All IsShallow (constraints_sides [] (circles n s))
all_shallow zero s = All-nil IsShallow
all_shallow (suc n) s = All-cons IsShallow (constraint_sides [] (circle s)) (constraints_sides [] (circles n (after_circle s))) (shallow s) (all_shallow n (after_circle s))

all_nodes : (n s : ℕ) → sum_by nodes_of (constraints_sides [] (circles n s)) ≡ n * 10
all_nodes zero s = refl
all_nodes (suc n) s =
    sum_by-cons nodes_of (constraint_sides [] (circle s)) (constraints_sides [] (circles n (after_circle s))) ∙ (let more = all_nodes n (after_circle s) in omega (arith, more))

pub constraints_within : (seed n : ℕ) → n ≤ 15 → AreWithin (system_constraints (circles_tree seed n))
constraints_within seed n few = record {
  few_nodes = let more = all_nodes (suc n) seed in omega (arith, more);
  shallow = all_shallow (suc n) seed;
}
