-- How large the constraints of a code are, with all calls expanded; and which one is too large.
use Rattle.std.specs.Prelude.{◌≡◌, ℕ, zero, suc, ◌+◌, ◌-◌, ◌*◌, ◌^◌, ◌<◌, ◌≤◌, List, [], ◌∷◌, All, Option, Some, None, sum_by, length, take, min, max, get_or}
use Rattle.pv_expr.specs.Terms.{Term, node_count, depth_of}
use Rattle.pv_code.specs.declared.code.Op.{Op}
use Rattle.pv_code.specs.declared.code.Op.TheVariants.{Call}
use Rattle.pv_code.specs.declared.expand.Function.{Function}
use Rattle.pv_code.specs.declared.measure.Measure.{Measure}
use Rattle.pv_code.specs.declared.measure.Place.{Place}
use Rattle.pv_code.specs.Expansion.{Meaning, Sides, argument}
use Rattle.pv_code.specs.declared.measure.TheConstants.{MOST_PARAMETERS}
use Rattle.pv_expr.specs.declared.system.TheConstants.{MOST_TERM_DEPTH, MOST_TERM_NODES}

-- ---- The limits

-- the nodes of both sides of a constraint
abbrev pub nodes_of : Sides → ℕ
nodes_of s = node_count s.left + node_count s.right

-- no way down from a side's root has more than 2,000 nodes
pub record IsShallow (s : Sides) : Type 0 where
  pub left : depth_of s.left ≤ MOST_TERM_DEPTH
  pub right : depth_of s.right ≤ MOST_TERM_DEPTH

-- the sides of all constraints have at most 65,536 nodes together, and each is shallow
pub record AreWithin (cs : List Sides) : Type 0 where
  pub few_nodes : sum_by nodes_of cs ≤ MOST_TERM_NODES
  pub shallow : All IsShallow cs

-- the constraints before this one are within the limits, and with it they are not
pub record IsFirstLarge (cs : List Sides) (i : ℕ) : Type 0 where
  pub present : i < length cs
  pub before : AreWithin (take i cs)
  pub with_it : ¬ AreWithin (take (i + 1) cs)

-- the nodes up to and with a constraint behind constraints with so many, or none where it is too large there
abbrev pub IsRoom : ℕ → Sides → Option ℕ → Type 0
IsRoom before s None = ¬ (IsShallow s × (before + nodes_of s ≤ MOST_TERM_NODES))
IsRoom before s (Some nodes) = IsShallow s × (nodes ≡ before + nodes_of s) × (nodes ≤ MOST_TERM_NODES)

-- ---- Sizes of an expression whose parameters are left open

-- a count that stops at 2^64 - 1
abbrev pub cut : ℕ → ℕ
cut n = min n (2 ^ 64 - 1)

-- what f makes of the first so many
unfoldable pub total : (ℕ → ℕ → ℕ) → (ℕ → ℕ) → ℕ → ℕ
total f g zero = 0
total f g (suc n) = f (total f g n) (g n)

abbrev pub nowhere : Place
nowhere = record { uses = 0; reach = 0 }

-- the nodes of the first so many arguments, each as many times as it is used
abbrev pub nodes_in : ℕ → List Place → List Term → ℕ
nodes_in n places args = total (λ a b. a + b) (λ k. (get_or places k nowhere).uses * node_count (argument args k)) n

-- where a part of this depth ends, if its root is at this place on a way down: 0 for no place
abbrev pub end_of : ℕ → ℕ → ℕ
end_of zero depth = 0
end_of (suc above) depth = above + depth

-- where the deepest of the first so many arguments ends
abbrev pub depth_in : ℕ → List Place → List Term → ℕ
depth_in n places args = total (λ a b. max a b) (λ k. end_of (get_or places k nowhere).reach (depth_of (argument args k))) n

-- of the same part in two expressions side by side
abbrev pub beside : Place → Place → Place
beside a b = record { uses = cut (a.uses + b.uses); reach = max a.reach b.reach }

-- a place within something that is at a place
abbrev pub moved : ℕ → ℕ → ℕ
moved zero place = 0
moved (suc above) zero = 0
moved (suc above) (suc place) = cut (suc place + above)

abbrev pub within : Place → Place → Place
within a whole = record { uses = cut (a.uses * whole.uses); reach = moved whole.reach a.reach }

-- what has so many nodes and this depth over these arguments has the size that the measure says, up to 2^64 - 1. No function has
-- the last parameter of a measure: it stands for nodes of its own
pub record IsSizeOf (m : Measure) (args : List Term) (nodes depth : ℕ) : Type 0 where
  pub nodes_are : cut nodes ≡ cut (nodes_in 13 m.places args)
  pub depth_is : cut depth ≡ cut (depth_in 13 m.places args)

abbrev pub IsSize : Measure → List Term → Term → Type 0
IsSize m args t = IsSizeOf m args (node_count t) (depth_of t)

-- the measure of a function, at all arguments that it may have
abbrev pub IsMeasured : Measure → Meaning → Type 0
IsMeasured m f = (args : List Term) → length args ≤ MOST_PARAMETERS → IsSize m args (f args)

-- the same of all functions
abbrev pub AreMeasured : List Function → List Meaning → Type 0
AreMeasured [] [] = Unit {0}
AreMeasured (f ∷ fs) (m ∷ ms) = IsMeasured f.measure m × AreMeasured fs ms
AreMeasured fs ms = ⊥

-- a call has no more arguments than a function may have parameters
abbrev pub IsShortCall : Op → Type 0
IsShortCall (Call k n) = n ≤ MOST_PARAMETERS
IsShortCall o = Unit {0}
