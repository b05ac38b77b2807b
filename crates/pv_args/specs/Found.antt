-- What clap found for the words, as the reader of requests sees it on its way.
use Rattle.std.specs.Prelude.{◌≡◌, ◌≢◌, ◌⊎◌, ◌++◌, List, [], ◌∷◌, Option, Some, None}
use Rattle.clap.specs.Words.{Row, Text, found_of, rows_of}
use Rattle.clap.specs.declared.parser.matches.ArgMatches.{ArgMatches}
use Rattle.pv_num.specs.Extended.{Extended}
use Rattle.pv_request.specs.Requests.{Command, name_of, IsLevel, HasBadValue}
use Rattle.pv_request.specs.declared.refusal.Refusal.{Refusal}
use Rattle.pv_request.specs.declared.refusal.Refusal.TheVariants.{Usage, Memory}

abbrev pub rows_in : ArgMatches → List Row
rows_in m = rows_of (found_of m)

-- this is said of values that are refused, or memory was wanting
abbrev pub RefusesValues : Type 0 → Refusal → Type 0
RefusesValues bad Usage = bad
RefusesValues bad Memory = Unit {0}
RefusesValues bad _ = ⊥

abbrev pub IsNoCommand : Text → Type 0
IsNoCommand name = (c : Command) → name ≢ name_of c

abbrev pub RefusesCommand : Text → List Row → Refusal → Type 0
RefusesCommand name rows Usage = IsNoCommand name ⊎ HasBadValue name rows
RefusesCommand name rows Memory = Unit {0}
RefusesCommand name rows _ = ⊥

abbrev pub RefusesFound : Option (Text × List Row) → Refusal → Type 0
RefusesFound None Usage = Unit {0}
RefusesFound None _ = ⊥
RefusesFound (Some p) r = RefusesCommand p.0 p.1 r

-- the number of a word was added behind others
pub record EndsWithLevel (word : Text) (before after : List Extended) : Type 0 where
  pub number : Extended
  pub is : IsLevel word number
  pub added : after ≡ before ++ number ∷ []
