-- What a name stands for. In a text within the limits each name is known: none is undeclared or declared twice, and a function is called
-- with its step and as many arguments as it has parameters.
use Rattle.std.proofs.Common.{◌≡◌, ℕ, suc, nat_lt, Bool, true, false, List, [], ◌∷◌, Option, Some, None, Ok, refl, sym, subst}
use Rattle.pv_grammar.specs.declared.counts.Counts.{Counts}
use Rattle.pv_grammar.specs.declared.counts.Phase.{Phase}
use Rattle.pv_grammar.specs.declared.counts.Phase.TheVariants.{Between, Parameters, Body, Variables, Bounds, NextConstraint, Sides}
use Rattle.pv_grammar.specs.declared.symbol.Symbol.{Symbol}
use Rattle.pv_grammar.specs.declared.symbol.Symbol.TheVariants.{Declared, Parameter, Function as Call, Unknown}
use Rattle.pv_grammar.specs.Causes.{as_known}
use Rattle.pv_grammar.specs.Counting.{counted, declared, standing_of}
use Rattle.pv_grammar.proofs.Ready.{Gives, gives_if, reads}
use Rattle.pv_grammar.specs.TreeCodes.{AreKnown, IsKnown}
use Rattle.pv_tokens.specs.declared.keyword.Word.{Word}
use Rattle.pv_tokens.specs.declared.keyword.Word.TheVariants.{Abs as AbsWord}
use Rattle.pv_tokens.specs.declared.token.Kind.{Kind}
use Rattle.pv_tokens.specs.declared.token.Kind.TheVariants.{Name, Number as NumberKind}
use Rattle.pv_tokens.specs.Words.{word_in}
use Rattle.pv_parse.specs.declared.names.Meaning.{Meaning}
use Rattle.pv_parse.specs.declared.names.Meaning.TheVariants.{Constant as ConstantMeaning, Variable as VariableMeaning, Function as FunctionMeaning}
use Rattle.pv_parse.specs.Meanings.{Names, in_body, in_bounds, learnt, meaning, use_of}
use Rattle.pv_parse.specs.Sentences.{IsNumberSymbol, StandsFor, name_symbol, word_symbol}
use Rattle.pv_parse.proofs.Pieces.{Mean, Piece}

-- ---- What a name stands for

-- what holds of each word, and of a name that is not used as what it was declared as
pub record HoldsElse (Q : Symbol → Type 0) : Type 0 where
  pub word : (w : Word) → Q (word_symbol w)
  pub unknown : Q Unknown
  pub declared : (taken : Bool) → Q (Declared taken)
  pub parameter : (i : ℕ) → Q (Parameter i)

module _ (Q : Symbol → Type 0) (others : HoldsElse Q) where
  use_is : (b : Bool) (o : Option Meaning) → Q (use_of true o) → Q (use_of b o)
  use_is false (Some (VariableMeaning i)) h = others.unknown
  use_is false (Some (FunctionMeaning number (suc further))) h = h
  use_is b o h = h

  body_is : (i : Option ℕ) (o : Option Meaning) → Q (use_of true o) → Q (in_body i o)
  body_is (Some i) o h = others.parameter i
  body_is None o h = use_is false o h

  bounds_is : (o : Option Meaning) → Q (use_of true o) → Q (in_bounds o)
  bounds_is (Some (ConstantMeaning value)) h = h
  bounds_is o h = others.unknown

  meaning_is : (p : Phase) (n : Names) (name : List ℕ) → Q (use_of true (n.known name)) → Q (meaning p n name)
  meaning_is Between n name h = others.unknown
  meaning_is Body n name h = body_is (n.parameter name) (n.known name) h
  meaning_is Bounds n name h = bounds_is (n.known name) h
  meaning_is NextConstraint n name h = h
  meaning_is Sides n name h = h
  meaning_is p n name h = others.declared _

  -- what holds of a name that is used as what it was declared as, and of all else that it may be, holds of the token
  pub name_is : (p : Phase) (n : Names) (name : List ℕ) (w : Option Word) → Q (use_of true (n.known name)) → Q (name_symbol p n name w)
  name_is p n name (Some w) h = others.word w
  name_is p n name None h = meaning_is p n name h

-- ---- The limits forbid a name that is not declared, or is declared once more

pub not_unknown : (c d : Counts) → counted c Unknown ≡ Ok d → ⊥
not_unknown c d e = reads (λ x. ⊥) c d Unknown e (λ x l. tt)

never_taken : (p : Phase) (c : Counts) → Gives (λ x. ⊥) (declared p c true)
never_taken Variables c = gives_if _ (nat_lt c.variables 12) _ _ (λ t. tt) tt
never_taken Parameters c = gives_if _ (nat_lt c.parameters 12) _ _ (λ t. tt) tt
never_taken p c = tt

pub not_taken : (c d : Counts) → counted c (Declared true) ≡ Ok d → ⊥
not_taken c d e = reads (λ x. ⊥) c d (Declared true) e (λ x l. never_taken x.phase x)

counted_known : (s : Symbol) (c d : Counts) → counted c s ≡ Ok d → IsKnown (as_known s) → IsKnown s
counted_known Unknown c d e h = absurd (not_unknown c d e)
counted_known (Declared true) c d e h = absurd (not_taken c d e)
counted_known s c d e h = h

-- ---- A token is known, where its name counts as one

abbrev CountsAsKnown : Symbol → Type 0
CountsAsKnown s = IsKnown (as_known s)

word_known : (w : Word) → CountsAsKnown (word_symbol w)
word_known AbsWord = tt
word_known w = tt

used_known : (o : Option Meaning) → CountsAsKnown (use_of true o)
used_known (Some (FunctionMeaning number (suc further))) = refl
used_known o = tt

number_known : (bytes : List ℕ) (s : Symbol) → IsNumberSymbol bytes s → CountsAsKnown s
number_known bytes (Call op arity) h = absurd h
number_known bytes s h = tt

pub stands_known : (p : Phase) (n : Names) (bytes : List ℕ) (k : Kind) (s : Symbol) → StandsFor p n bytes k s → IsKnown (as_known s)
stands_known p n bytes Name s h =
    subst CountsAsKnown (sym h)
    (name_is CountsAsKnown (record { word = word_known; unknown = tt; declared = λ taken. tt; parameter = λ i. tt }) p n bytes (word_in bytes) (used_known (n.known bytes)))
stands_known p n bytes NumberKind s h = number_known bytes s h
stands_known p n bytes k s h = subst CountsAsKnown (sym h) tt

-- so it is, where it is counted
pub counts_known : (p : Phase) (n : Names) (bytes : List ℕ) (k : Kind) (s : Symbol) (c d : Counts) → StandsFor p n bytes k s → counted c s ≡ Ok d → IsKnown s
counts_known p n bytes k s c d stands one = counted_known s c d one (stands_known p n bytes k s stands)

pub mean_known : (n : Names) (c : Counts) (xs : List Piece) (ss : List Symbol) → Mean n c xs ss → AreKnown ss
mean_known n c [] [] h = tt
mean_known n c (x ∷ xs) (s ∷ ss) (d, is, stands, one, rest) =
    (counts_known c.phase n x.bytes x.kind s c d stands one, mean_known (learnt (standing_of c) s x.bytes n) d xs ss rest)
mean_known n c xs ss h = absurd h
