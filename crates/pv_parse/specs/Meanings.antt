-- What names stand for: what each was declared as so far, and what it then is in each part of the text.
use Rattle.std.specs.Prelude.{◌≡◌, ℕ, suc, ◌+◌, ◌-◌, Bool, true, false, List, [], ◌∷◌, Option, Some, None, is_some, if◌then◌else◌}
use Rattle.std.specs.Str.{bytes_eq}
use Rattle.std.specs.Map.{update}
use Rattle.pv_code.specs.declared.code.Op.TheVariants.{Call}
use Rattle.pv_code.specs.declared.fraction.Fraction.{Fraction}
use Rattle.pv_code.specs.Fractions.{signed}
use Rattle.pv_grammar.specs.declared.counts.Phase.{Phase}
use Rattle.pv_grammar.specs.declared.counts.Phase.TheVariants.{Between, Constants, FunctionName, Parameters, Body, Variables, Bounds, NextConstraint, Sides}
use Rattle.pv_grammar.specs.declared.symbol.Fixed.TheVariants.{End}
use Rattle.pv_grammar.specs.declared.symbol.Symbol.{Symbol}
use Rattle.pv_grammar.specs.declared.symbol.Symbol.TheVariants.{Fixed as FixedToken, Number, Declared, Constant, Variable, Parameter, Function, Unknown}
use Rattle.pv_parse.specs.declared.names.Meaning.{Meaning}
use Rattle.pv_parse.specs.declared.names.Meaning.TheVariants.{Constant as ConstantMeaning, Variable as VariableMeaning, Function as FunctionMeaning}
use Rattle.pv_grammar.specs.Standings.{Standing, is_minus}

pub record Names : Type 0 where
  -- what a name was declared as, a function from the end of its text on
  pub known : List ℕ → Option Meaning
  -- the place of a parameter of the function whose text this is
  pub parameter : List ℕ → Option ℕ
  -- the constant whose value is to come, or the function whose text this is
  pub pending : List ℕ
  -- whether the token before is `-`
  pub negative : Bool

abbrev pub no_names : Names
no_names = record { known = λ name. None; parameter = λ name. None; pending = []; negative = false }

-- ---- What a name stands for

-- what an expression may use; a call has as many arguments as the function has parameters, which is one at least
abbrev pub use_of : Bool → Option Meaning → Symbol
use_of with_variables (Some (ConstantMeaning value)) = Constant value
use_of true (Some (VariableMeaning i)) = Variable i
use_of with_variables (Some (FunctionMeaning number (suc further))) = Function (Call number (suc further)) (suc further)
use_of with_variables m = Unknown

-- in a body a parameter hides a constant of its name, and no variable is known
abbrev pub in_body : Option ℕ → Option Meaning → Symbol
in_body (Some i) m = Parameter i
in_body None m = use_of false m

-- in a bound constants alone are known
abbrev pub in_bounds : Option Meaning → Symbol
in_bounds (Some (ConstantMeaning value)) = Constant value
in_bounds m = Unknown

abbrev pub is_function : Option Meaning → Bool
is_function (Some (FunctionMeaning number arity)) = true
is_function m = false

-- a parameter can't have the name of an earlier function, of its own function or of another parameter
abbrev pub is_taken : Names → List ℕ → Bool
is_taken n name =
    if is_function (n.known name) then true
    else (if bytes_eq n.pending name then true else is_some (n.parameter name))

abbrev pub meaning : Phase → Names → List ℕ → Symbol
meaning Between n name = Unknown
meaning Constants n name = Declared (is_some (n.known name))
meaning FunctionName n name = Declared (is_some (n.known name))
meaning Variables n name = Declared (is_some (n.known name))
meaning Parameters n name = Declared (is_taken n name)
meaning Body n name = in_body (n.parameter name) (n.known name)
meaning Bounds n name = in_bounds (n.known name)
meaning NextConstraint n name = use_of true (n.known name)
meaning Sides n name = use_of true (n.known name)

-- ---- Declarations

abbrev pub with_known : List ℕ → Meaning → Names → Names
with_known name m n = record { known = update bytes_eq n.known name (Some m); parameter = n.parameter; pending = n.pending; negative = n.negative }

abbrev pub with_parameter : List ℕ → ℕ → Names → Names
with_parameter name i n = record { known = n.known; parameter = update bytes_eq n.parameter name (Some i); pending = n.pending; negative = n.negative }

abbrev pub without_parameters : Names → Names
without_parameters n = record { known = n.known; parameter = λ name. None; pending = n.pending; negative = n.negative }

abbrev pub with_pending : List ℕ → Names → Names
with_pending name n = record { known = n.known; parameter = n.parameter; pending = name; negative = n.negative }

abbrev pub behind_sign : Bool → Names → Names
behind_sign b n = record { known = n.known; parameter = n.parameter; pending = n.pending; negative = b }

-- a variable's number is the count of those before it, and so is a parameter's
abbrev pub with_name : Phase → Standing → List ℕ → Names → Names
with_name Constants x name n = with_pending name n
with_name FunctionName x name n = with_pending name n
with_name Parameters x name n = with_parameter name x.parameters n
with_name Variables x name n = with_known name (VariableMeaning x.variables) n
with_name p x name n = n

-- a constant has its value
abbrev pub with_value : Phase → Fraction → Names → Names
with_value Constants v n = with_known n.pending (ConstantMeaning (signed n.negative v)) n
with_value p v n = n

-- a function's text ends; the counted functions are those before it and itself
abbrev pub with_function : Phase → Standing → Names → Names
with_function Body x n = without_parameters (with_known n.pending (FunctionMeaning (x.functions - 1) x.parameters) n)
with_function p x n = n

abbrev pub told : Standing → Symbol → List ℕ → Names → Names
told x (Declared taken) name n = with_name x.phase x name n
told x (Number value exponent) name n = with_value x.phase value n
told x (FixedToken End) name n = with_function x.phase x n
told x s name n = n

-- the names behind a token with these bytes
abbrev pub learnt : Standing → Symbol → List ℕ → Names → Names
learnt x s name n = behind_sign (is_minus s) (told x s name n)

-- the same names are declared
pub record AreSame (n m : Names) : Type 0 where
  pub known : (name : List ℕ) → n.known name ≡ m.known name
  pub parameter : (name : List ℕ) → n.parameter name ≡ m.parameter name
  pub pending : n.pending ≡ m.pending
  pub negative : n.negative ≡ m.negative

-- these variables alone are known, each by its place
abbrev pub numbered : List (List ℕ) → ℕ → List ℕ → Option Meaning
numbered [] i name = None
numbered (v ∷ vs) i name = update bytes_eq (numbered vs (i + 1)) v (Some (VariableMeaning i)) name

abbrev pub variables_from : List (List ℕ) → ℕ → Names
variables_from variables i = record { known = numbered variables i; parameter = λ name. None; pending = []; negative = false }

abbrev pub KnowsVariables : List (List ℕ) → Names → Type 0
KnowsVariables variables n = AreSame n (variables_from variables 0)
