-- Where a text stops being the beginning of a program's text.
use Rattle.std.specs.Prelude.{◌≡◌, ℕ, ◌^◌, ◌<◌, ◌≤◌, ◌⊎◌, List, [], ◌∷◌, ◌++◌, length, Some}
use Rattle.pv_ctc.specs.declared.token.Word.{Word as Name}
use Rattle.pv_ctc.specs.declared.token.Token.{Token}
use Rattle.pv_ctc.specs.declared.token.Token.TheVariants.{Word}
use Rattle.pv_ctc.specs.Plans.{Plan, Plans, hc4, compose, union, qinter, fix, prop, no_plan, plan_and, IsFor}
use Rattle.pv_ctc.specs.Texts.{program_text}
use Rattle.pv_ctc.specs.Symbols.{Placed, tokens_at}
use Rattle.pv_ctc.specs.Refusals.{named_with, refused_at}
use Rattle.pv_ctc.specs.declared.program.TheConstants.{MOST_PROGRAM_TEXT, MOST_PROGRAMS}

-- no part wants more than 256 programs
abbrev mutual
  pub QuorumsFit : Plan → Type 0
  QuorumsFit (hc4 i) = Unit {0}
  QuorumsFit (compose ps) = AllQuorumsFit ps
  QuorumsFit (union ps) = AllQuorumsFit ps
  QuorumsFit (qinter q ps) = (q ≤ MOST_PROGRAMS) × AllQuorumsFit ps
  QuorumsFit (fix n p) = QuorumsFit p
  QuorumsFit (prop n) = Unit {0}

  pub AllQuorumsFit : Plans → Type 0
  AllQuorumsFit no_plan = Unit {0}
  AllQuorumsFit (plan_and p ps) = QuorumsFit p × AllQuorumsFit ps

abbrev pub tokens_in : List Placed → List Token
tokens_in [] = []
tokens_in (p ∷ ps) = p.token ∷ tokens_in ps

-- how many programs tokens name
abbrev pub named_in : List Token → ℕ
named_in [] = 0
named_in (t ∷ ts) = named_with t (named_in ts)

-- a program's text, of any number of programs, begins with these tokens
pub record Begins (count : ℕ) (ts : List Token) : Type 0 where
  pub plan : Plan
  pub rest : List Token
  pub fits : IsFor count plan
  pub quorums : QuorumsFit plan
  pub begins : tokens_in (tokens_at (program_text plan) 0) ≡ ts ++ rest

-- the token is the name of one more program, behind 256 others
pub record IsTooMany (before : List Token) (t : Token) : Type 0 where
  pub name : Name
  pub is_name : t ≡ Word name
  pub full : named_in before ≡ MOST_PROGRAMS

-- a program's text begins with the tokens before the one at this byte, which name at most 256 programs; with this one
-- none does, or it is one too many
pub record IsFirstWrong (count : ℕ) (ps : List Placed) (byte : ℕ) : Type 0 where
  pub before : List Placed
  pub here : Placed
  pub after : List Placed
  pub parted : ps ≡ before ++ here ∷ after
  pub place : here.place ≡ byte
  pub begins : Begins count (tokens_in before)
  pub few : named_in (tokens_in before) ≤ MOST_PROGRAMS
  pub wrong : (¬ Begins count (tokens_in before ++ here.token ∷ [])) ⊎ IsTooMany (tokens_in before) here.token

abbrev pub FirstWrong : Type 0
FirstWrong = (count : ℕ) (text : List ℕ) (byte : ℕ) → 1 ≤ count → count < 2 ^ 32 → length text ≤ MOST_PROGRAM_TEXT → refused_at count text ≡ Some byte → IsFirstWrong count (tokens_at text 0) byte
