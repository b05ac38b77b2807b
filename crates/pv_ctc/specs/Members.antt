-- The set of points that a program speaks of.
use Rattle.std.specs.Prelude.{◌≡◌, ℕ, zero, suc, ◌⊎◌, IsTrue, Option, Some, List, [], ◌∷◌, length}
use Rattle.pv_interval.specs.Bounds.{Bounds}
use Rattle.pv_interval.specs.Points.{Point}
use Rattle.pv_box.specs.Boxes.{IsBox, PointIn}
use Rattle.pv_box.specs.Members.{PointInSome}
use Rattle.pv_hc4.specs.Revise.{Sides}
use Rattle.pv_hc4.specs.Members.{HoldsAt, AreOver, AreWithin}
use Rattle.pv_ctc.specs.Contracting.{side_at, contract_of}
use Rattle.pv_ctc.specs.Sureness.{program_sure}
use Rattle.pv_ctc.specs.Plans.{Plan, Plans, hc4, compose, union, qinter, fix, prop, no_plan, plan_and, IsFor}

-- the constraints are over n variables
abbrev pub AllOver : ℕ → List Sides → Type 0
AllOver n [] = Unit {0}
AllOver n (s ∷ ss) = AreOver n s × AllOver n ss

-- every constraint holds at the point
abbrev pub AllHold : List Sides → Point → Type 0
AllHold [] x = Unit {0}
AllHold (s ∷ ss) x = HoldsAt s x × AllHold ss x

abbrev mutual
  pub IsMember : List Sides → Plan → Point → Type 0
  IsMember ss (hc4 i) x = HoldsAt (side_at ss i) x
  IsMember ss (compose ps) x = IsInAll ss ps x
  IsMember ss (union ps) x = IsInSoMany ss ps x 1
  IsMember ss (qinter q ps) x = IsInSoMany ss ps x q
  IsMember ss (fix n p) x = IsMember ss p x
  IsMember ss (prop n) x = AllHold ss x

  -- the point is a member of all parts
  pub IsInAll : List Sides → Plans → Point → Type 0
  IsInAll ss no_plan x = Unit {0}
  IsInAll ss (plan_and p ps) x = IsMember ss p x × IsInAll ss ps x

  -- the point is a member of at least so many parts
  pub IsInSoMany : List Sides → Plans → Point → ℕ → Type 0
  IsInSoMany ss no_plan x zero = Unit {0}
  IsInSoMany ss no_plan x (suc q) = ⊥
  IsInSoMany ss (plan_and p ps) x zero = Unit {0}
  IsInSoMany ss (plan_and p ps) x (suc q) = (IsMember ss p x × IsInSoMany ss ps x q) ⊎ IsInSoMany ss ps x (suc q)

-- each member in the box lies in what is left of it
abbrev pub MembersStay : List Sides → Plan → List Bounds → Option (List Bounds) → Type 0
MembersStay ss p b left = (x : Point) → PointIn x b → IsMember ss p x → PointInSome x left

-- each point of the box is a member
abbrev pub AreMembers : List Sides → Plan → List Bounds → Type 0
AreMembers ss p b = (x : Point) → PointIn x b → IsMember ss p x

-- a member in a box lies in what contraction leaves of it
abbrev pub KeepsMembers : Type 0
KeepsMembers =
    (n : ℕ) (ss : List Sides) (p : Plan) (b : List Bounds) (x : Point) → AllOver n ss → IsFor (length ss) p → IsBox b → PointIn x b
    → IsMember ss p x → PointInSome x (contract_of ss p b)

-- what contraction leaves of a box is a box in it
abbrev pub StaysWithin : Type 0
StaysWithin =
    (n : ℕ) (ss : List Sides) (p : Plan) (b c : List Bounds) → AllOver n ss → IsFor (length ss) p → IsBox b
    → contract_of ss p b ≡ Some c → AreWithin c b × IsBox c

-- where a program is sure on a box, each point of the box is a member
abbrev pub SureOfMembers : Type 0
SureOfMembers =
    (ss : List Sides) (p : Plan) (b : List Bounds) (x : Point) → AllOver (length b) ss → IsFor (length ss) p → PointIn x b
    → IsTrue (program_sure ss p b) → IsMember ss p x
