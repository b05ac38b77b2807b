-- Where clap takes the words, they name one of the commands.
use Rattle.std.proofs.Common.{◌≡◌, ◌⊎◌, inl, inr, Bool, true, false, List, [], ◌∷◌, map, refl, subst, if◌then◌else◌}
use Rattle.std.specs.Prelude.{Option, Some, None, is_some, not, ◌&&◌, find, option_map}
use Rattle.clap.proofs.OnLiterals.{clap_on_literals}
use Rattle.clap.specs.Walk.{answers_to, walk, walk_from, nothing_held, settled, finished, Held, Names}
use Rattle.clap.specs.Words.{App, Row, Shape, Text, Kinds, fault_of, subcommand_of}
use Rattle.clap.specs.Simple.{built, argument_words, names_of, label_of, entered, rows_at}
use Rattle.clap.specs.Kinds.{or_else, check_kinds}
use Rattle.clap.specs.Faults.{built_fault, level_fault, walk_fault, settle_fault, defaults_fault, check_fault}
use Rattle.clap.specs.Facts.{explicit_source}
use Rattle.clap.specs.Takes.{is_given}
use Rattle.std.specs.List.{list_any}
use Rattle.pv_words.specs.Commands.{paver_app}
use Rattle.pv_slope.specs.declared.form.Form.TheVariants.{Plain, Centered}
use Rattle.pv_request.specs.Requests.{Command, checks, runs, resumes, merges, audits, draws, samples, seeks, keeps, name_of}

pub record IsACommand (name : Text) : Type 0 where
  pub command : Command
  pub named : name ≡ name_of command

abbrev pub IsKnown : Option (Text × List Row) → Type 0
IsKnown None = ⊥
IsKnown (Some p) = IsACommand p.0

-- ---- A command that is required was met

rest_is : (a b : Kinds) → or_else a b ≡ [] → b ≡ []
rest_is [] b e = e
rest_is (k ∷ ks) b e = absurd (cc)

-- where no subcommand was met, one is missed
missed : (help has argument : Bool) → check_kinds (not has && help) (not has && true) argument ≡ [] → has ≡ true
missed help true argument e = refl
missed true false argument e = absurd (cc)
missed false false argument e = absurd (cc)

-- ---- It is one of the command's

abbrev IsAmongNames : Text → List Text → Type 0
IsAmongNames name [] = ⊥
IsAmongNames name (x ∷ xs) = (name ≡ x) ⊎ IsAmongNames name xs

abbrev IsFoundIn : List Text → Option (Text × List Row) → Type 0
IsFoundIn names None = Unit {0}
IsFoundIn names (Some p) = IsAmongNames p.0 names

found_among : (f : Shape → Bool) (subs : List Shape) (words : List Text) → IsFoundIn (map (λ (s : Shape). s.name) subs) (option_map (λ (s : Shape). rows_at s words) (find f subs))
found_among f [] words = tt
found_among f (s ∷ subs) words =
    elim (f s) as (λ (t : Bool). IsFoundIn (s.name ∷ map (λ (s : Shape). s.name) subs) (option_map (λ (x : Shape). rows_at x words) (if t then Some s else find f subs))) [
      | true ↦ inl refl
      | false ↦ more (option_map (λ (x : Shape). rows_at x words) (find f subs)) (found_among f subs words)
    ]
  where
    more : (o : Option (Text × List Row)) → IsFoundIn (map (λ (s : Shape). s.name) subs) o → IsFoundIn (s.name ∷ map (λ (s : Shape). s.name) subs) o
    more None h = tt
    more (Some p) h = inr h

entered_among : (a : App) (stop : Option (Text × List Text)) → IsFoundIn (map (λ (s : Shape). s.name) a.subs) (entered a stop)
entered_among a None = tt
entered_among a (Some p) = found_among (λ s. answers_to p.0 (label_of s)) a.subs p.1

-- each command
abbrev commands : List Command
commands = checks ∷ runs Plain ∷ resumes ∷ merges ∷ audits Plain ∷ draws ∷ samples ∷ runs Centered ∷ audits Centered ∷ seeks ∷ keeps ∷ []

abbrev all_names : List Text
all_names = map name_of commands

names_are : map (λ (s : Shape). s.name) (built paver_app).subs ≡ all_names
unfolding clap_on_literals paver_app
names_are = refl

needs_one : (built paver_app).top.subcommand_required ≡ true
unfolding clap_on_literals paver_app
needs_one = refl

is_a_command : (name : Text) (cs : List Command) → IsAmongNames name (map name_of cs) → IsACommand name
is_a_command name [] none = absurd none
is_a_command name (c ∷ cs) (inl e) = record { command = c; named = e }
is_a_command name (c ∷ cs) (inr more) = is_a_command name cs more

is_known : (o : Option (Text × List Row)) → is_some o ≡ true → IsFoundIn all_names o → IsKnown o
is_known None e h = absurd (cc)
is_known (Some p) e h = is_a_command p.0 commands h

level_meets : (s : Shape) (names : Names) (h : Held) (words : List Text) (has : Bool) (below : Kinds) → s.subcommand_required ≡ true
    → level_fault s names h words has below ≡ [] → has ≡ true
level_meets s names h words has below needs none =
    let end = (walk s.rules names h words).held in
    let a = walk_fault s names (walk_from h) words in
    let c = settle_fault s.rules s.args_override_self end in
    let d = defaults_fault (settled s.rules end).rows s.rules in
    let help = s.arg_required_else_help && not (list_any (λ r. explicit_source r.source) (finished s.rules end)) in
    let argument = not (s.subcommand_negates_reqs && has) && list_any (λ x. x.required && not (is_given x.id (finished s.rules end))) s.rules in
    let e = check_fault s (finished s.rules end) has in
    let one : or_else below (or_else c (or_else d e)) ≡ [] = rest_is a (or_else below (or_else c (or_else d e))) none in
    let two : or_else c (or_else d e) ≡ [] = rest_is below (or_else c (or_else d e)) one in
    let three : or_else d e ≡ [] = rest_is c (or_else d e) two in
    let four : e ≡ [] = rest_is d e three in
    missed help has argument (subst (λ (n : Bool). check_kinds (not has && help) (not has && n) argument ≡ []) needs four)

-- a command that takes the words, and requires a subcommand, has met one
meets : (a : App) (words : List Text) → a.top.subcommand_required ≡ true → built_fault a nothing_held words ≡ []
    → is_some (entered a (walk a.top.rules (names_of a) nothing_held words).stopped) ≡ true
meets a words needs none = level_meets a.top (names_of a) nothing_held words _ _ needs none

pub known : (words : List Text) → fault_of paver_app words ≡ [] → IsKnown (subcommand_of paver_app words)
known words none =
    is_known (subcommand_of paver_app words) (meets (built paver_app) (argument_words paver_app words) needs_one none)
    (subst (λ (names : List Text). IsFoundIn names (subcommand_of paver_app words)) names_are (entered_among (built paver_app) _))
