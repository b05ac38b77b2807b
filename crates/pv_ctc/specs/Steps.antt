-- What a contraction answers.
use Rattle.std.specs.Prelude.{◌≡◌, ◌≢◌, List, Option, Some, None}
use Rattle.pv_interval.specs.Bounds.{Bounds}
use Rattle.pv_hc4.specs.declared.revised.Revised.{Revised}
use Rattle.pv_hc4.specs.declared.revised.Revised.TheVariants.{Kept, Changed, Empty}

-- what a step answers that is to leave o of a box: Kept exactly where that is the box
abbrev pub IsStep : Option (List Bounds) → Revised → List Bounds → List Bounds → Type 0
IsStep None Kept old new = ⊥
IsStep None Changed old new = ⊥
IsStep None Empty old new = Unit {0}
IsStep (Some b) Kept old new = (b ≡ old) × (new ≡ old)
IsStep (Some b) Changed old new = (new ≡ b) × (b ≢ old)
IsStep (Some b) Empty old new = ⊥

-- what an answer so far says of the box: Kept exactly where it is the one at the start
abbrev pub IsSoFar : Revised → List Bounds → List Bounds → Type 0
IsSoFar Kept start now = now ≡ start
IsSoFar Changed start now = now ≢ start
IsSoFar Empty start now = ⊥
