-- What the words ask for, by what clap answers.
use Rattle.std.proofs.Common.{◌≡◌, ◌⊎◌, inl, inr, true, List, [], ◌∷◌, refl, sym, ◌∙◌, ap, subst}
use Rattle.std.specs.Prelude.{Option, Some, None, Result, Ok, Err, MatchResult, ◌≢◌}
use Rattle.clap.proofs.OnLiterals.{clap_on_literals}
use Rattle.clap.specs.Words.{App, Row, Text, Kinds, HasKind, IsAmong, fault_of, is_simple, is_simple_and_free, subcommand_of, kind_of}
use Rattle.clap.specs.declared.error.Error.{Error}
use Rattle.clap.specs.declared.error.kind.ErrorKind.{ErrorKind}
use Rattle.clap.specs.declared.error.kind.ErrorKind.TheVariants.{OutOfMemory}
use Rattle.pv_words.specs.Commands.{paver_app}
use Rattle.pv_request.specs.Requests.{Command, name_of, IsAskedBy, IsAsked, Asks, HasBadValueFor, HasBadValue, HasBadValueIn, AreRefused, RefusesWords}
use Rattle.pv_args.specs.Found.{IsNoCommand, RefusesValues, RefusesCommand, RefusesFound}
use Rattle.pv_request.specs.declared.request.Request.{Request}
use Rattle.pv_request.specs.declared.refusal.Refusal.{Refusal}
use Rattle.pv_request.specs.declared.refusal.Refusal.TheVariants.{Usage, System, Contract, Objective, NoFile, ReadFault, Paving, NotStored, KeeperFault, NotPrinted, Memory, TreeLimit, Disagree, Differs}
use Rattle.pv_args.proofs.Known.{IsACommand, IsKnown, known}

paver_free : is_simple_and_free paver_app ≡ true
unfolding clap_on_literals paver_app
paver_free = refl

paver_simple : is_simple paver_app ≡ true
unfolding clap_on_literals paver_app
paver_simple = refl

-- clap gives the command's matches, and fails by its rules
pub is_simple_app : (a : App) → a ≡ paver_app → is_simple a ≡ true
is_simple_app a e = ap is_simple e ∙ paver_simple

pub is_free_app : (a : App) → a ≡ paver_app → is_simple_and_free a ≡ true
is_free_app a e = ap is_simple_and_free e ∙ paver_free

no_kind : (k : ErrorKind) (kinds : Kinds) → IsAmong k kinds → kinds ≢ []
no_kind k [] h e = h
no_kind k (x ∷ xs) h e = cc

-- clap takes the words, and they ask for this
asks_of : (a : App) (words : List Text) (found : Option (Text × List Row)) (q : Request) → a ≡ paver_app → fault_of a words ≡ [] → found ≡ subcommand_of a words
    → IsAsked found q → Asks words q
asks_of a words found q e none met asked = (
  ap (λ (b : App). fault_of b words) (sym e) ∙ none,
  subst (λ (o : Option (Text × List Row)). IsAsked o q) (met ∙ ap (λ (b : App). subcommand_of b words) e) asked,
)

-- clap fails, and not for want of memory
fails : (a : App) (words : List Text) (e : Error) → a ≡ paver_app → HasKind (fault_of a words) e → (kind_of e ≡ OutOfMemory → ⊥) → AreRefused words
fails a words e is (inl memory) other = absurd (other memory)
fails a words e is (inr among) other =
    inl (no_kind (kind_of e) (fault_of paver_app words) (subst (λ (b : App). IsAmong (kind_of e) (fault_of b words)) is among))

pub error_refuses : (a : App) (words : List Text) (e : Error) (k : ErrorKind) (r : Refusal) → a ≡ paver_app → HasKind (fault_of a words) e → k ≡ kind_of e
    → (r ≡ Memory) ⊎ ((r ≡ Usage) × (k ≡ OutOfMemory → ⊥)) → RefusesWords words r
error_refuses a words e k r is kinds same (inl memory) = subst (RefusesWords words) (sym memory) tt
error_refuses a words e k r is kinds same (inr usage) = subst (RefusesWords words) (sym usage.0) (fails a words e is kinds (λ m. usage.1 (same ∙ m)))

-- no command but these is met where clap takes the words
bad_value : (name : Text) (rows : List Row) → IsACommand name → IsNoCommand name ⊎ HasBadValue name rows → HasBadValue name rows
bad_value name rows is (inl none) = absurd (none is.command is.named)
bad_value name rows is (inr bad) = bad

-- a value that a command's reader refuses is one of the command's
pub refuses_value : (name : Text) (rows : List Row) (c : Command) (r : Refusal) → name ≡ name_of c → RefusesValues (HasBadValueFor c rows) r → RefusesCommand name rows r
refuses_value name rows c Usage e bad = inr (record { command = c; named = e; bad = bad })
refuses_value name rows c Memory e bad = tt
refuses_value name rows c (System line column byte cause) e bad = bad
refuses_value name rows c (Contract byte) e bad = bad
refuses_value name rows c (Objective byte cause) e bad = bad
refuses_value name rows c (NoFile n) e bad = bad
refuses_value name rows c (ReadFault n) e bad = bad
refuses_value name rows c (Paving n fault) e bad = bad
refuses_value name rows c (NotStored n) e bad = bad
refuses_value name rows c (KeeperFault n) e bad = bad
refuses_value name rows c NotPrinted e bad = bad
refuses_value name rows c (TreeLimit n) e bad = bad
refuses_value name rows c (Disagree path a b) e bad = bad
refuses_value name rows c (Differs path a b) e bad = bad

-- what a command's reader answers is what the command of its name is asked for, or why it is refused
pub read_as : (name : Text) (rows : List Row) (c : Command) (r : Result Request Refusal) → name ≡ name_of c
    → MatchResult r (IsAskedBy (name_of c) rows) (RefusesValues (HasBadValueFor c rows)) → MatchResult r (IsAskedBy name rows) (RefusesCommand name rows)
read_as name rows c (Ok q) e h = subst (λ (n : Text). IsAskedBy n rows q) (sym e) h
read_as name rows c (Err r) e h = refuses_value name rows c r e h

refuses_command : (words : List Text) (p : Text × List Row) (r : Refusal) → subcommand_of paver_app words ≡ Some p → IsACommand p.0 → RefusesCommand p.0 p.1 r → RefusesWords words r
refuses_command words p Usage e is h = inr (subst HasBadValueIn (sym e) (bad_value p.0 p.1 is h))
refuses_command words p Memory e is h = tt
refuses_command words p (System line column byte cause) e is h = h
refuses_command words p (Contract byte) e is h = h
refuses_command words p (Objective byte cause) e is h = h
refuses_command words p (NoFile n) e is h = h
refuses_command words p (ReadFault n) e is h = h
refuses_command words p (Paving n fault) e is h = h
refuses_command words p (NotStored n) e is h = h
refuses_command words p (KeeperFault n) e is h = h
refuses_command words p NotPrinted e is h = h
refuses_command words p (TreeLimit n) e is h = h
refuses_command words p (Disagree path a b) e is h = h
refuses_command words p (Differs path a b) e is h = h

refuses_found : (words : List Text) (found : Option (Text × List Row)) (r : Refusal) → found ≡ subcommand_of paver_app words → IsKnown found → RefusesFound found r → RefusesWords words r
refuses_found words None r e is h = absurd is
refuses_found words (Some p) r e is h = refuses_command words p r (sym e) is h

-- what clap found is what the words ask for, or why they are refused
pub found_is : (a : App) (words : List Text) (found : Option (Text × List Row)) (r : Result Request Refusal) → a ≡ paver_app → fault_of a words ≡ [] → found ≡ subcommand_of a words
    → MatchResult r (IsAsked found) (RefusesFound found) → MatchResult r (Asks words) (RefusesWords words)
found_is a words found (Ok q) e none met h = asks_of a words found q e none met h
found_is a words found (Err r) e none met h =
    let here : found ≡ subcommand_of paver_app words = met ∙ ap (λ (b : App). subcommand_of b words) e in
    let taken : fault_of paver_app words ≡ [] = ap (λ (b : App). fault_of b words) (sym e) ∙ none in
    refuses_found words found r here (subst IsKnown (sym here) (known words taken)) h
