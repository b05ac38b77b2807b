-- What a code leaves on the stack: how large each value is, and the part of its code that is used.
use Rattle.std.specs.Prelude.{◌≡◌, ◌≤◌, List, [], ◌∷◌, All, length, map, reverse}
use Rattle.pv_expr.specs.Terms.{Term}
use Rattle.pv_code.specs.declared.code.Op.{Op}
use Rattle.pv_code.specs.declared.expand.Function.{Function}
use Rattle.pv_code.specs.declared.value.Value.{Value}
use Rattle.pv_code.specs.Expansion.{Meaning, Stand, code_of, meanings, run}
use Rattle.pv_code.specs.Sizes.{AreMeasured, IsShortCall, IsSize}
use Rattle.pv_code.specs.declared.measure.TheConstants.{MOST_PARAMETERS}

-- functions, what they mean, what the parameters stand for, and the code in which a step stands
pub record Setting : Type 0 where
  pub functions : List Function
  pub meanings : List Meaning
  pub arguments : List Term
  pub code : List Op

abbrev pub at : List Function → List Meaning → List Term → List Op → Setting
at fs ms args code = record { functions = fs; meanings = ms; arguments = args; code = code }

abbrev pub HasSize : List Term → Value → Term → Type 0
HasSize args v t = IsSize v.measure args t

abbrev pub HasCode : List Meaning → List Term → Value → Term → Type 0
HasCode ms args v t = (st : List Term) → run ms args v.code.items st ≡ t ∷ st

-- a value is this term's: its size where calls are short, and its code over the functions' own codes
pub record Represents (x : Setting) (v : Value) (t : Term) : Type 0 where
  pub size : All IsShortCall x.code → AreMeasured x.functions x.meanings → length x.arguments ≤ MOST_PARAMETERS → HasSize x.arguments v t
  pub code : Stand x.functions x.meanings → HasCode (meanings (map code_of x.functions)) x.arguments v t

-- the same of each
abbrev pub AreAll : (Value → Term → Type 0) → List Value → List Term → Type 0
AreAll P [] [] = Unit {0}
AreAll P (v ∷ vs) (t ∷ ts) = P v t × AreAll P vs ts
AreAll P vs ts = ⊥

-- a stack of values, the top last, is one of these terms, the top first
unfoldable pub AreStacked : Setting → List Value → List Term → Type 0
AreStacked x stack ts = AreAll (Represents x) (reverse stack) ts

-- the values that a code leaves
abbrev pub AreLeft : List Function → List Op → List Value → Type 0
AreLeft fs code stack = (ms : List Meaning) (args : List Term) → AreStacked (at fs ms args code) stack (run ms args code [])
