-- What a system is: its parts, and the limits within which they lie.
use Rattle.std.specs.Prelude.{◌≡◌, ◌≢◌, ℕ, ◌+◌, ◌^◌, ◌<◌, ◌≤◌, List, ℤ, pos, ◌*ℤ◌, ◌≤ℤ◌, unsigned_abs, length, All, AllPairs, sum_by, slice_get, Some}
use Rattle.std.specs.Int.{IsGcd}
use Rattle.pv_expr.specs.declared.operators.UnaryOp.{UnaryOp}
use Rattle.pv_expr.specs.declared.operators.UnaryOp.TheVariants.{Neg, Abs, Pow}
use Rattle.pv_expr.specs.Terms.{Term, constant, place, one, two, term_of, node_count, depth_of}
use Rattle.pv_expr.specs.declared.domain.Bound.{Bound}
use Rattle.pv_expr.specs.declared.domain.Bound.TheVariants.{MinusOo, Value, PlusOo}
use Rattle.pv_expr.specs.declared.domain.Domain.{Domain}
use Rattle.pv_expr.specs.declared.constraint.Constraint.{Constraint}
use Rattle.pv_expr.specs.declared.system.TheConstants.{MOST_VARIABLES, MOST_CONSTRAINTS, MOST_TERM_DEPTH, MOST_TERM_NODES}

-- a system as its callers see it
pub record Parts : Type 0 where
  pub names : List (List ℕ)
  pub domains : List Domain
  pub constraints : List Constraint

-- none of the names is this one
abbrev pub HasNoName : List ℕ → List (List ℕ) → Type 0
HasNoName name names = (k : ℕ) → k < length names → slice_get names k ≢ Some name

-- p/q is in lowest terms, and within the limits on constants
pub record IsFraction (p : ℤ) (q : ℕ) : Type 0 where
  pub lowest : IsGcd (unsigned_abs p) q 1
  pub top_below : unsigned_abs p < 10 ^ 37
  pub under_above : 1 ≤ q
  pub under_below : q ≤ 10 ^ 36

abbrev pub IsBound : Bound → Type 0
IsBound MinusOo = Unit {0}
IsBound (Value p q) = IsFraction p q
IsBound PlusOo = Unit {0}

-- the lower bound is not +oo, the upper one not -oo, and they are in order as exact numbers
abbrev pub InOrder : Bound → Bound → Type 0
InOrder PlusOo hi = ⊥
InOrder MinusOo MinusOo = ⊥
InOrder MinusOo (Value r s) = Unit {0}
InOrder MinusOo PlusOo = Unit {0}
InOrder (Value p q) MinusOo = ⊥
InOrder (Value p q) (Value r s) = (p *ℤ pos s) ≤ℤ (r *ℤ pos q)
InOrder (Value p q) PlusOo = Unit {0}

pub record IsDomain (d : Domain) : Type 0 where
  pub lower : IsBound d.lo
  pub upper : IsBound d.hi
  pub in_order : InOrder d.lo d.hi

abbrev pub IsUnary : UnaryOp → Type 0
IsUnary Neg = Unit {0}
IsUnary Abs = Unit {0}
IsUnary (Pow n) = n ≤ 32

-- each constant is a fraction within the limits, each variable is below n, each exponent at most 32
abbrev pub IsOver : ℕ → Term → Type 0
IsOver n (constant p q) = IsFraction p q
IsOver n (place i) = i < n
IsOver n (one u t) = IsUnary u × IsOver n t
IsOver n (two b t u) = IsOver n t × IsOver n u

pub record IsConstraint (n : ℕ) (c : Constraint) : Type 0 where
  pub left_over : IsOver n (term_of c.left)
  pub right_over : IsOver n (term_of c.right)
  pub left_depth : depth_of (term_of c.left) ≤ MOST_TERM_DEPTH
  pub right_depth : depth_of (term_of c.right) ≤ MOST_TERM_DEPTH

abbrev pub side_nodes : Constraint → ℕ
side_nodes c = node_count (term_of c.left) + node_count (term_of c.right)

pub record IsSystem (s : Parts) : Type 0 where
  pub some_names : 1 ≤ length s.names
  pub few_names : length s.names ≤ MOST_VARIABLES
  pub distinct : AllPairs (λ x y. x ≢ y) s.names
  pub same_length : length s.domains ≡ length s.names
  pub domains_good : All IsDomain s.domains
  pub some_constraints : 1 ≤ length s.constraints
  pub few_constraints : length s.constraints ≤ MOST_CONSTRAINTS
  pub constraints_good : All (IsConstraint (length s.names)) s.constraints
  pub few_nodes : sum_by side_nodes s.constraints ≤ MOST_TERM_NODES
