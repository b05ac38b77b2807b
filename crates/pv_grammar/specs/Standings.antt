-- The part of a text in which a token stands, and how many names of each sort are declared before it. What a name stands for depends
-- on these. They are followed token by token, whatever the limits are.
use Rattle.std.specs.Prelude.{ℕ, ◌+◌, Bool, true, false, List, [], ◌∷◌}
use Rattle.pv_grammar.specs.declared.counts.Phase.{Phase}
use Rattle.pv_grammar.specs.declared.counts.Phase.TheVariants.{Between, Constants, FunctionName, Parameters, Body, Variables, Bounds, NextConstraint, Sides}
use Rattle.pv_grammar.specs.declared.symbol.Fixed.{Fixed}
use Rattle.pv_grammar.specs.declared.symbol.Fixed.TheVariants.{Plus, Minus, Open, OpenBracket, CloseBracket, Semicolon, Constants as ConstantsWord, Variables as VariablesWord, Constraints, Function as FunctionWord, Return, End}
use Rattle.pv_grammar.specs.declared.symbol.Symbol.{Symbol}
use Rattle.pv_grammar.specs.declared.symbol.Symbol.TheVariants.{Fixed as FixedToken, Number, Declared, Constant as ConstantName, Variable, Parameter, Function as Call, Unknown}

pub record Standing : Type 0 where
  -- the part of the text
  pub phase : Phase
  -- the parameters of the function at hand, and the functions and variables of the text, so far
  pub parameters : ℕ
  pub functions : ℕ
  pub variables : ℕ

-- where a text begins
abbrev pub first_in : Phase → Standing
first_in p = record { phase = p; parameters = 0; functions = 0; variables = 0 }

abbrev pub moved_to : Phase → Standing → Standing
moved_to p x = record { phase = p; parameters = x.parameters; functions = x.functions; variables = x.variables }

-- ---- Constraints

-- a token that can begin an expression
abbrev pub begins_expression : Symbol → Bool
begins_expression (FixedToken Plus) = true
begins_expression (FixedToken Minus) = true
begins_expression (FixedToken Open) = true
begins_expression (Number value exponent) = true
begins_expression (ConstantName value) = true
begins_expression (Variable i) = true
begins_expression (Parameter i) = true
begins_expression (Call op arity) = true
begins_expression Unknown = true
begins_expression s = false

abbrev pub is_minus : Symbol → Bool
is_minus (FixedToken Minus) = true
is_minus s = false

-- where a constraint may begin, a token that can begin an expression begins one
abbrev pub begins_in : Bool → Phase → Phase
begins_in true NextConstraint = Sides
begins_in b p = p

-- ---- A token

-- a name is declared
abbrev pub behind_name : Phase → Standing → Standing
behind_name Variables x = record { phase = x.phase; parameters = x.parameters; functions = x.functions; variables = x.variables + 1 }
behind_name FunctionName x = moved_to Parameters x
behind_name Parameters x = record { phase = x.phase; parameters = x.parameters + 1; functions = x.functions; variables = x.variables }
behind_name p x = x

-- a constraint ends
abbrev pub behind_semicolon : Phase → Standing → Standing
behind_semicolon Sides x = moved_to NextConstraint x
behind_semicolon p x = x

-- a function ends, or the text
abbrev pub behind_end : Phase → Standing → Standing
behind_end Body x = record { phase = Between; parameters = 0; functions = x.functions; variables = x.variables }
behind_end p x = moved_to Between x

abbrev pub behind_fixed : Fixed → Standing → Standing
behind_fixed ConstantsWord x = moved_to Constants x
behind_fixed VariablesWord x = moved_to Variables x
behind_fixed Constraints x = moved_to NextConstraint x
behind_fixed FunctionWord x = record { phase = FunctionName; parameters = x.parameters; functions = x.functions + 1; variables = x.variables }
behind_fixed Return x = moved_to Body x
behind_fixed End x = behind_end x.phase x
behind_fixed Semicolon x = behind_semicolon x.phase x
behind_fixed OpenBracket x = moved_to Bounds x
behind_fixed CloseBracket x = moved_to Variables x
behind_fixed f x = x

abbrev pub moved_by : Symbol → Standing → Standing
moved_by (Declared taken) x = behind_name x.phase x
moved_by (FixedToken f) x = behind_fixed f x
moved_by s x = x

-- where the text stands behind a token
abbrev pub standing_behind : Standing → Symbol → Standing
standing_behind x s = moved_by s (moved_to (begins_in (begins_expression s) x.phase) x)

-- and behind these tokens
abbrev pub standing_after : Standing → List Symbol → Standing
standing_after x [] = x
standing_after x (s ∷ ss) = standing_after (standing_behind x s) ss
