-- Points at which a constraint holds, and boxes that lie in one another.
use Rattle.std.specs.Prelude.{ℕ, ◌≡◌, Some, IsTrue, List, length}
use Rattle.pv_interval.specs.Bounds.{Bounds}
use Rattle.pv_interval.specs.Points.{Point}
use Rattle.pv_box.specs.Boxes.{IsBox, PointIn}
pub use Rattle.pv_box.specs.Boxes.{IsWithin as AreWithin}
use Rattle.pv_box.specs.Members.{PointInSome}
use Rattle.pv_expr.specs.Systems.{IsOver}
use Rattle.pv_expr.specs.Terms.{HoldsBetween}
use Rattle.pv_hc4.specs.Revise.{Sides, revised}
use Rattle.pv_hc4.specs.Totality.{sure_of}
use Rattle.pv_hc4.specs.declared.revised.Revised.{Revised}
use Rattle.pv_hc4.specs.declared.revised.Revised.TheVariants.{Kept, Changed, Empty}

-- both sides are defined at the point, and stand in the relation there
abbrev pub HoldsAt : Sides → Point → Type 0
HoldsAt s x = HoldsBetween s.left s.relation s.right x.places x.under

-- the constraint holds at each point of the box
abbrev pub HoldsOn : Sides → List Bounds → Type 0
HoldsOn s b = (x : Point) → PointIn x b → HoldsAt s x

-- a revision that left the box new did not lose the point
abbrev pub Stays : Point → Revised → List Bounds → Type 0
Stays x Kept new = PointIn x new
Stays x Changed new = PointIn x new
Stays x Empty new = ⊥

-- a revision lost no point of the old box at which the constraint holds
abbrev pub LosesNoPoint : Sides → Revised → List Bounds → List Bounds → Type 0
LosesNoPoint s r old new = (x : Point) → PointIn x old → HoldsAt s x → Stays x r new

-- both sides are over n variables
abbrev pub AreOver : ℕ → Sides → Type 0
AreOver n s = IsOver n s.left × IsOver n s.right

-- each point of a box at which the constraint holds lies in what a revision leaves
abbrev pub KeepsPoints : Type 0
KeepsPoints =
    (s : Sides) (n : ℕ) (b : List Bounds) (x : Point) → AreOver n s → PointIn x b → HoldsAt s x → PointInSome x (revised s b)

-- where a constraint is sure on a box, it holds at each of its points
abbrev pub SureHolds : Type 0
SureHolds = (s : Sides) (b : List Bounds) (x : Point) → AreOver (length b) s → PointIn x b → IsTrue (sure_of s b) → HoldsAt s x

-- what a revision leaves lies in the box
abbrev pub LeavesWithin : Type 0
LeavesWithin = (s : Sides) (b c : List Bounds) → revised s b ≡ Some c → AreWithin c b

-- what a revision leaves of a box is a box
abbrev pub LeavesBox : Type 0
LeavesBox = (s : Sides) (n : ℕ) (b c : List Bounds) → AreOver n s → IsBox b → revised s b ≡ Some c → IsBox c

-- a constraint that is sure on a box leaves it as it is
abbrev pub SureLeaves : Type 0
SureLeaves = (s : Sides) (n : ℕ) (b : List Bounds) → AreOver n s → IsBox b → IsTrue (sure_of s b) → revised s b ≡ Some b
