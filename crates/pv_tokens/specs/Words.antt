-- The words that can't be declared, each a name. Block words have two spellings.
use Rattle.std.specs.Prelude.{ℕ, List, [], ◌∷◌, Option, Some, None, Bool, ◌||◌, codes, if◌then◌else◌}
use Rattle.std.specs.List.{list_any}
use Rattle.std.specs.Str.{bytes_eq}
use Rattle.pv_tokens.specs.declared.keyword.Word.{Word}
use Rattle.pv_tokens.specs.declared.keyword.Word.TheVariants.{Constants, Variables, Constraints, Function, Return, End, In, Oo, Abs, Sqr, Min, Max, Outside}

abbrev pub is_either : List ℕ → List ℕ → List ℕ → Bool
is_either name one other = bytes_eq name one || bytes_eq name other

-- words of the language that this profile leaves out
abbrev pub outside : List (List ℕ)
outside =
    codes "sqrt" ∷ codes "root" ∷ codes "exp" ∷ codes "log" ∷ codes "ln" ∷ codes "sign"
    ∷ codes "cos" ∷ codes "acos" ∷ codes "sin" ∷ codes "asin" ∷ codes "tan" ∷ codes "atan" ∷ codes "atan2"
    ∷ codes "cosh" ∷ codes "acosh" ∷ codes "sinh" ∷ codes "asinh" ∷ codes "tanh" ∷ codes "atanh"
    ∷ codes "pi" ∷ codes "for" ∷ codes "sum" ∷ codes "Minimize" ∷ codes "minimize" ∷ []

abbrev pub is_outside : List ℕ → Bool
is_outside name = list_any (bytes_eq name) outside

-- the word that a name is, or none where the text may declare it
abbrev pub word_in : List ℕ → Option Word
word_in name =
    if is_either name (codes "Constants") (codes "constants") then Some Constants
    else (if is_either name (codes "Variables") (codes "variables") then Some Variables
    else (if is_either name (codes "Constraints") (codes "constraints") then Some Constraints
    else (if is_either name (codes "Function") (codes "function") then Some Function
    else (if is_either name (codes "Return") (codes "return") then Some Return
    else (if is_either name (codes "End") (codes "end") then Some End
    else (if bytes_eq name (codes "in") then Some In
    else (if bytes_eq name (codes "oo") then Some Oo
    else (if bytes_eq name (codes "abs") then Some Abs
    else (if bytes_eq name (codes "sqr") then Some Sqr
    else (if bytes_eq name (codes "min") then Some Min
    else (if bytes_eq name (codes "max") then Some Max
    else (if is_outside name then Some Outside
    else None))))))))))))
