-- The limits as the reader counts them, token by token: how the counts go on behind a token, or the cause that forbids it. The grammar
-- is left aside here: a token that it refuses may be counted in any way. It is for the reader's own functions and proofs: no public
-- contract cites it. `proofs/Within` leads from it to what `Limits` says of trees.
use Rattle.std.specs.Prelude.{◌≡◌, ℕ, ◌+◌, ◌-◌, nat_lt, Bool, true, false, List, [], ◌∷◌, Result, Ok, Err, if◌then◌else◌}
use Rattle.pv_grammar.specs.declared.cause.Cause.{Cause}
use Rattle.pv_grammar.specs.declared.cause.Cause.TheVariants.{UnknownName, DuplicateName, TooManyVariables, TooManyConstraints, TooManyFunctions, TooDeep, Unexpected}
use Rattle.pv_grammar.specs.declared.counts.Phase.{Phase}
use Rattle.pv_grammar.specs.declared.counts.Phase.TheVariants.{Between, Constants, FunctionName, Parameters, Body, Variables, Bounds, NextConstraint, Sides}
use Rattle.pv_grammar.specs.declared.counts.Counts.{Counts}
use Rattle.pv_grammar.specs.declared.symbol.Fixed.{Fixed}
use Rattle.pv_grammar.specs.declared.symbol.Fixed.TheVariants.{Plus, Minus, Star, Slash, Caret, Open, Close, OpenBracket, CloseBracket, Comma, Semicolon, Constants as ConstantsWord, Variables as VariablesWord, Constraints, Function as FunctionWord, Return, End}
use Rattle.pv_grammar.specs.declared.symbol.Symbol.{Symbol}
use Rattle.pv_grammar.specs.Standings.{Standing, begins_expression}
use Rattle.pv_grammar.specs.declared.symbol.Symbol.TheVariants.{Fixed as FixedToken, Declared, Function as Call, Unknown}
use Rattle.pv_code.specs.declared.measure.TheConstants.{MOST_PARAMETERS}
use Rattle.pv_expr.specs.declared.system.TheConstants.{MOST_VARIABLES, MOST_CONSTRAINTS}
use Rattle.pv_grammar.specs.declared.counts.TheConstants.{MOST_FUNCTIONS, MOST_NESTING, MOST_OPERATIONS}

abbrev pub Counting : Type 0
Counting = Result Counts Cause

abbrev pub nothing : Phase → Counts
nothing p = record { phase = p; level = 0; operations = 0; parameters = 0; functions = 0; variables = 0; constraints = 0 }

-- where the text stands
abbrev pub standing_of : Counts → Standing
standing_of c = record { phase = c.phase; parameters = c.parameters; functions = c.functions; variables = c.variables }

abbrev pub in_phase : Phase → Counts → Counts
in_phase p c = record { phase = p; level = c.level; operations = c.operations; parameters = c.parameters; functions = c.functions; variables = c.variables; constraints = c.constraints }

abbrev pub in_level : ℕ → Counts → Counts
in_level n c = record { phase = c.phase; level = n; operations = c.operations; parameters = c.parameters; functions = c.functions; variables = c.variables; constraints = c.constraints }

abbrev pub with_operations : ℕ → Counts → Counts
with_operations n c = record { phase = c.phase; level = c.level; operations = n; parameters = c.parameters; functions = c.functions; variables = c.variables; constraints = c.constraints }

abbrev pub with_parameters : ℕ → Counts → Counts
with_parameters n c = record { phase = c.phase; level = c.level; operations = c.operations; parameters = n; functions = c.functions; variables = c.variables; constraints = c.constraints }

abbrev pub with_functions : ℕ → Counts → Counts
with_functions n c = record { phase = c.phase; level = c.level; operations = c.operations; parameters = c.parameters; functions = n; variables = c.variables; constraints = c.constraints }

abbrev pub with_variables : ℕ → Counts → Counts
with_variables n c = record { phase = c.phase; level = c.level; operations = c.operations; parameters = c.parameters; functions = c.functions; variables = n; constraints = c.constraints }

abbrev pub with_constraints : ℕ → Counts → Counts
with_constraints n c = record { phase = c.phase; level = c.level; operations = c.operations; parameters = c.parameters; functions = c.functions; variables = c.variables; constraints = n }

-- the counts go on while there is room
abbrev pub where_below : ℕ → ℕ → Cause → Counts → Counting
where_below n most cause c = if nat_lt n most then Ok c else Err cause

-- ---- Constraints: at most 64

abbrev pub begins : Phase → Counts → Counting
begins NextConstraint c = where_below c.constraints MOST_CONSTRAINTS TooManyConstraints (in_phase Sides (with_constraints (c.constraints + 1) c))
begins p c = Ok c

-- where a constraint may begin, a token that can begin an expression begins one
abbrev pub begun : Counts → Symbol → Counting
begun c s = if begins_expression s then begins c.phase c else Ok c

-- ---- Expressions: at most 1,000 operations, and 100 levels

abbrev pub in_expression : Phase → Bool
in_expression Body = true
in_expression Sides = true
in_expression p = false

abbrev pub operates : Symbol → Bool
operates (FixedToken Plus) = true
operates (FixedToken Minus) = true
operates (FixedToken Star) = true
operates (FixedToken Slash) = true
operates (FixedToken Caret) = true
operates (Call op arity) = true
operates s = false

abbrev pub operated : Counts → Symbol → Counting
operated c s = if operates s then where_below c.operations MOST_OPERATIONS TooDeep (with_operations (c.operations + 1) c) else Ok c

-- a function's name opens no level, but the parenthesis that must follow does
abbrev pub levels : Symbol → Counts → Counting
levels (FixedToken Open) c = where_below c.level MOST_NESTING TooDeep (in_level (c.level + 1) c)
levels (FixedToken Close) c = Ok (in_level (c.level - 1) c)
levels (Call op arity) c = where_below c.level MOST_NESTING Unexpected c
levels s c = Ok c

-- ---- Declarations: at most 12 variables, and 12 parameters

abbrev pub declared : Phase → Counts → Bool → Counting
declared Variables c taken =
    if nat_lt c.variables MOST_VARIABLES then (if taken then Err DuplicateName else Ok (with_variables (c.variables + 1) c)) else Err TooManyVariables
declared FunctionName c taken = if taken then Err DuplicateName else Ok (in_phase Parameters c)
declared Parameters c taken =
    if nat_lt c.parameters MOST_PARAMETERS then (if taken then Err DuplicateName else Ok (with_parameters (c.parameters + 1) c)) else Err Unexpected
declared p c taken = if taken then Err DuplicateName else Ok c

-- ---- Parts of the text: at most 64 functions

abbrev pub before_expression : Phase → Counts → Counts
before_expression p c = in_phase p (in_level 0 (with_operations 0 c))

abbrev pub behind_comma : Phase → Counts → Counting
behind_comma Parameters c = where_below c.parameters MOST_PARAMETERS Unexpected c
behind_comma p c = Ok c

abbrev pub behind_semicolon : Phase → Counts → Counts
behind_semicolon Sides c = before_expression NextConstraint c
behind_semicolon p c = c

abbrev pub behind_end : Phase → Counts → Counts
behind_end Body c = in_phase Between (with_parameters 0 c)
behind_end p c = in_phase Between c

abbrev pub turned : Fixed → Counts → Counting
turned ConstantsWord c = Ok (in_phase Constants c)
turned VariablesWord c = Ok (in_phase Variables c)
turned Constraints c = Ok (before_expression NextConstraint c)
turned FunctionWord c = where_below c.functions MOST_FUNCTIONS TooManyFunctions (in_phase FunctionName (with_functions (c.functions + 1) c))
turned Comma c = behind_comma c.phase c
turned Return c = Ok (before_expression Body c)
turned End c = Ok (behind_end c.phase c)
turned Semicolon c = Ok (behind_semicolon c.phase c)
turned OpenBracket c = Ok (in_phase Bounds c)
turned CloseBracket c = Ok (in_phase Variables c)
turned f c = Ok c

abbrev pub moved : Counts → Symbol → Counting
moved c Unknown = Err UnknownName
moved c (Declared taken) = declared c.phase c taken
moved c (FixedToken f) = turned f c
moved c s = Ok c

-- ---- A token

abbrev pub next : Counting → (Counts → Counting) → Counting
next (Err cause) f = Err cause
next (Ok c) f = f c

abbrev pub within : Counts → Symbol → Counting
within c s = if in_expression c.phase then next (operated c s) (λ d. next (levels s d) (λ e. moved e s)) else moved c s

-- the counts behind a token, or the first cause that forbids it
abbrev pub counted : Counts → Symbol → Counting
counted c s = next (begun c s) (λ d. within d s)

-- the tokens are within the limits, and lead from some counts to others
abbrev pub Counted : Counts → List Symbol → Counts → Type 0
Counted c [] d = c ≡ d
Counted c (s ∷ ss) d = (e : Counts) × (counted c s ≡ Ok e) × Counted e ss d

-- the tokens are within the limits
abbrev pub AreCounted : Counts → List Symbol → Type 0
AreCounted c ss = (d : Counts) × Counted c ss d
