-- What a command reads of its system.
use Rattle.std.specs.Prelude.{◌≡◌, ◌<◌, ◌≤◌, ◌↔◌, ℕ, Some, List, [], ◌∷◌, length, map, take}
use Rattle.pv_expr.specs.Systems.{Parts}
use Rattle.pv_expr.specs.Searches.{search_bounds}
use Rattle.pv_interval.specs.Bounds.{Bounds}
use Rattle.pv_expr.specs.Terms.{Holds}
use Rattle.pv_expr.specs.declared.constraint.Constraint.{Constraint}
use Rattle.pv_hc4.specs.Graphs.{sides_named}
use Rattle.pv_ctc.specs.Contracting.{sides_in}
use Rattle.pv_ctc.specs.Members.{IsMember}
use Rattle.pv_ctc.specs.Plans.{Plan, prop, plan_of}
use Rattle.pv_ctc.specs.Refusals.{refused_at, IsSpelling}
use Rattle.pv_slope.specs.Methods.{Method, is_member}
use Rattle.pv_interval.specs.Points.{Point}
use Rattle.pv_parse.specs.Declarations.{IsMeaning}
use Rattle.pv_parse.specs.Faults.{IsPlaced, IsRefusal, SaysTooLong}
use Rattle.pv_parse.specs.declared.refused.ParseRefused.{ParseRefused}
use Rattle.pv_parse.specs.declared.refused.ParseRefused.TheVariants.{Fault}
use Rattle.pv_io.specs.Outside.{Rose, Content, untold, absent, holds, MayBeAbsent}
use Rattle.pv_request.specs.declared.request.Settings.{Settings}
use Rattle.pv_request.specs.declared.refusal.Refusal.{Refusal}
use Rattle.pv_request.specs.declared.refusal.Refusal.TheVariants.{System, Contract, NoFile, ReadFault, Memory}
use Rattle.pv_parse.specs.declared.reader.TheConstants.{MOST_TEXT}

-- what a folder tells: what each name holds, and how often a fetch and a store have failed
pub record Files : Type 0 where
  pub content : List ℕ → Content
  pub fetch_faults : ℕ
  pub store_faults : ℕ

abbrev pub files : (List ℕ → Content) → ℕ → ℕ → Files
files content fetch_faults store_faults =
    record { content = content; fetch_faults = fetch_faults; store_faults = store_faults }

-- no file was changed
pub record AreOnlyRead (before after : Files) : Type 0 where
  pub content : (name : List ℕ) → after.content name ≡ before.content name
  pub fetch_faults : before.fetch_faults ≤ after.fetch_faults
  pub store_faults : after.store_faults ≡ before.store_faults

-- the text, or the first 65,537 bytes of a longer one
abbrev pub IsFetched : Content → List ℕ → Type 0
IsFetched untold text = length text ≤ 65537
IsFetched absent text = ⊥
IsFetched (holds whole) text = text ≡ take 65537 whole

-- the file of this name holds the text of a system, within all limits, that means this
pub record HasSystem (before : Files) (name : List ℕ) (s : Parts) : Type 0 where
  pub text : List ℕ
  pub fetched : IsFetched (before.content name) text
  pub means : IsMeaning text s

-- a text of a system has this fault, at this place
pub record IsFaultOf (text : List ℕ) (e : ParseRefused) : Type 0 where
  pub placed : IsPlaced text e
  pub long : MOST_TEXT < length text → SaysTooLong e
  pub because : IsRefusal text e

-- the file's text has this fault
pub record HasFault (before : Files) (name : List ℕ) (e : ParseRefused) : Type 0 where
  pub text : List ℕ
  pub fetched : IsFetched (before.content name) text
  pub fault : IsFaultOf text e

-- why nothing is fetched of this name
abbrev pub RefusesFetch : Files → Files → List ℕ → Refusal → Type 0
RefusesFetch before after name (NoFile n) = (n.now ≡ name) × MayBeAbsent (before.content name)
RefusesFetch before after name (ReadFault n) = (n.now ≡ name) × Rose before.fetch_faults after.fetch_faults
RefusesFetch before after name Memory = Unit {0}
RefusesFetch before after name _ = ⊥

-- why the file of this name gives no system
abbrev pub RefusesSystem : Files → Files → List ℕ → Refusal → Type 0
RefusesSystem before after name (System line column byte cause) = HasFault before name (Fault byte line column cause)
RefusesSystem before after name r = RefusesFetch before after name r

-- the box that is paved: each variable's domain, rounded outward
abbrev pub search_box : Method → List Bounds
search_box rule = map search_bounds rule.parts.system.domains

-- every constraint holds at the point
abbrev pub EachHolds : List Constraint → Point → Type 0
EachHolds [] x = Unit {0}
EachHolds (c ∷ cs) x = Holds c x.places x.under × EachHolds cs x

-- The points that a program wants of constraints: of `hc4(i)` those at which constraint i holds, of `prop(n)` those at which
-- each one does, of parts those that all of them want, one of them, or so many.
abbrev pub Solves : List Constraint → Plan → Point → Type 0
Solves cs p = IsMember (map sides_named cs) p

-- the text of the settings' program is that of `prop(n)`
abbrev pub SpellsProp : Parts → Settings → ℕ → Type 0
SpellsProp system s n = IsSpelling (length system.constraints) s.contract.now (prop n)

-- The rule by which the settings have the boxes of a system settled: its program is the one that their text spells, and its
-- set is what that program wants of the constraints. By `prop(n)`, whatever n, each constraint holds at its points.
pub record IsRuleFor (system : Parts) (s : Settings) (rule : Method) : Type 0 where
  pub form : rule.form ≡ s.form
  pub system_is : rule.parts.system ≡ system
  pub sides : sides_in rule.parts.graphs ≡ map sides_named system.constraints
  pub program : IsSpelling (length system.constraints) s.contract.now (plan_of rule.parts.program)
  pub eps : rule.parts.eps ≡ s.eps
  pub depth : rule.parts.depth ≡ s.depth
  pub bisector : rule.parts.bisector ≡ s.bisector
  pub set : (x : Point) → is_member rule x ↔ Solves system.constraints (plan_of rule.parts.program) x
  pub by_prop : (n : ℕ) → SpellsProp system s n → (x : Point) → is_member rule x ↔ EachHolds system.constraints x

-- the file of this name holds a system, and this is its rule
pub record HasRule (before : Files) (name : List ℕ) (s : Settings) (rule : Method) : Type 0 where
  pub system : Parts
  pub read : HasSystem before name system
  pub is : IsRuleFor system s rule

-- why the settings give no rule
abbrev pub RefusesSettings : Parts → Settings → Refusal → Type 0
RefusesSettings system s (Contract byte) = refused_at (length system.constraints) s.contract.now ≡ Some byte
RefusesSettings system s Memory = Unit {0}
RefusesSettings system s _ = ⊥

-- the file of this name holds a system for which the settings give no rule
pub record HasNoRule (before : Files) (name : List ℕ) (s : Settings) (r : Refusal) : Type 0 where
  pub system : Parts
  pub read : HasSystem before name system
  pub refused : RefusesSettings system s r

-- why there is no such rule
abbrev pub RefusesRule : Files → Files → List ℕ → Settings → Refusal → Type 0
RefusesRule before after name s (Contract byte) = HasNoRule before name s (Contract byte)
RefusesRule before after name s r = RefusesSystem before after name r
