-- Where a text is refused. A program is a list of items that are due. Each token is met by the first of them, and
-- `due_after` says what is then due in its place; where it says nothing, the token is refused.
use Rattle.std.specs.Prelude.{◌≡◌, ℕ, zero, ◌+◌, ◌-◌, ◌^◌, ◌<◌, ◌≤◌, List, [], ◌∷◌, ◌++◌, Bool, true, false, ◌&&◌, nat_lt, nat_le, length, Option, Some, None, MatchOption, if◌then◌else◌}
use Rattle.pv_ctc.specs.declared.token.Word.{Word as Name}
use Rattle.pv_ctc.specs.declared.token.Word.TheVariants.{Hc4, Compose, Union, QInter, Fix, Prop}
use Rattle.pv_ctc.specs.declared.token.Token.{Token}
use Rattle.pv_ctc.specs.declared.token.Token.TheVariants.{Word, Number, Open, Close, Comma, End}
use Rattle.pv_ctc.specs.declared.reading.ProgramRefused.{ProgramRefused}
use Rattle.pv_ctc.specs.declared.reading.ProgramRefused.TheVariants as refused
use Rattle.pv_ctc.specs.declared.reading.ProgramRefused.TheVariants.{Memory}
use Rattle.pv_ctc.specs.Plans.{Plan, IsFor, node_count}
use Rattle.pv_ctc.specs.Texts.{program_text}
use Rattle.pv_ctc.specs.Symbols.{Placed, tokens_at}
use Rattle.pv_ctc.specs.declared.program.TheConstants.{MOST_PROGRAM_TEXT, MOST_PROGRAMS, MOST_TURNS}

-- what stands behind a number: nothing more of its own, or a list of at least so many programs
pub data Counted : Type 0 where
  nothing : Counted
  programs : Counted

pub data Due : Type 0 where
  -- this token
  exactly : Token → Due
  -- a program
  a_program : Due
  -- a number from the first up to below the second, and what it counts
  a_number : ℕ → ℕ → Counted → Due
  -- the rest of a list of programs, at least so many, and its parenthesis
  more_programs : ℕ → Due

abbrev pub is_mark : Token → Token → Bool
is_mark Open Open = true
is_mark Close Close = true
is_mark Comma Comma = true
is_mark End End = true
is_mark t u = false

abbrev pub in_range : ℕ → ℕ → ℕ → Bool
in_range low limit n = nat_le low n && nat_lt n limit

-- what stands in the parentheses behind a word, and the parenthesis that closes them
abbrev pub arguments_due : ℕ → Name → List Due
arguments_due count Hc4 = a_number 0 count nothing ∷ exactly Close ∷ []
arguments_due count Compose = a_program ∷ more_programs 0 ∷ []
arguments_due count Union = a_program ∷ more_programs 0 ∷ []
arguments_due count QInter = a_number 1 (MOST_PROGRAMS + 1) programs ∷ []
arguments_due count Fix = a_number 1 (MOST_TURNS + 1) nothing ∷ exactly Comma ∷ a_program ∷ exactly Close ∷ []
arguments_due count Prop = a_number 1 (MOST_TURNS + 1) nothing ∷ exactly Close ∷ []

abbrev pub counted_due : Counted → ℕ → List Due
counted_due nothing n = []
counted_due programs n = exactly Comma ∷ a_program ∷ more_programs (n - 1) ∷ []

abbrev pub more_due : Token → ℕ → Option (List Due)
more_due Comma k = Some (a_program ∷ more_programs (k - 1) ∷ [])
more_due Close zero = Some []
more_due t k = None

-- what is due when a token has come where an item was due, behind so many programs
abbrev pub due_after : ℕ → ℕ → Due → Token → Option (List Due)
due_after count named (exactly u) t = if is_mark u t then Some [] else None
due_after count named a_program (Word w) = if nat_lt named MOST_PROGRAMS then Some (exactly Open ∷ arguments_due count w) else None
due_after count named a_program t = None
due_after count named (a_number low limit c) (Number n) = if in_range low limit n then Some (counted_due c n) else None
due_after count named (a_number low limit c) t = None
due_after count named (more_programs k) t = more_due t k

-- how many programs are named with one more token
abbrev pub named_with : Token → ℕ → ℕ
named_with (Word w) named = named + 1
named_with t named = named

abbrev pub in_front : Option (List Due) → List Due → Option (List Due)
in_front None ds = None
in_front (Some now) ds = Some (now ++ ds)

abbrev pub allowed : ℕ → ℕ → List Due → Token → Option (List Due)
allowed count named [] t = None
allowed count named (d ∷ ds) t = in_front (due_after count named d t) ds

abbrev pub met : Option (List Due) → ℕ → (List Due → Option ℕ) → Option ℕ
met None place go = Some place
met (Some due) place go = go due

-- the byte of the first token that is refused
abbrev pub refusal : List Placed → ℕ → ℕ → List Due → Option ℕ
refusal [] count named due = None
refusal (p ∷ ps) count named due = met (allowed count named due p.token) p.place (λ now. refusal ps count (named_with p.token named) now)

-- the byte at which a text is refused that is read for so many constraints; none where it is not
unfoldable pub refused_at : ℕ → List ℕ → Option ℕ
refused_at count text =
    if nat_lt MOST_PROGRAM_TEXT (length text) then Some MOST_PROGRAM_TEXT
    else refusal (tokens_at text 0) count 0 (a_program ∷ exactly End ∷ [])

-- the text is the spelling of a program for so many constraints, within the limits
pub record IsSpelling (count : ℕ) (text : List ℕ) (p : Plan) : Type 0 where
  pub fits : IsFor count p
  pub few : node_count p ≤ MOST_PROGRAMS
  pub short : length text ≤ MOST_PROGRAM_TEXT
  pub spelled : text ≡ program_text p

-- a refusal is want of memory, or right: the text is no program's, and is refused at this byte
abbrev pub IsRefusal : ℕ → List ℕ → ProgramRefused → Type 0
IsRefusal count text Memory = Unit {0}
IsRefusal count text (refused.Bad byte) = (refused_at count text ≡ Some byte) × ((p : Plan) → ¬ IsSpelling count text p)

-- a text that is refused nowhere is a spelling, and one that is refused is none
abbrev pub OneAnswer : Type 0
OneAnswer = (count : ℕ) (text : List ℕ) → count < 2 ^ 32 → MatchOption (refused_at count text) ((p : Plan) × IsSpelling count text p) (λ byte. (p : Plan) → ¬ IsSpelling count text p)

-- no text is the spelling of two programs
abbrev pub OneSpelling : Type 0
OneSpelling = (count : ℕ) (text : List ℕ) (p q : Plan) → count < 2 ^ 32 → IsSpelling count text p → IsSpelling count text q → p ≡ q
