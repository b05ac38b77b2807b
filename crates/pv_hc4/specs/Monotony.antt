-- What holds of a box and of its parts: forward intervals, totality and the sure test are inclusion monotone.
use Rattle.std.specs.Prelude.{ℕ, IsTrue, List}
use Rattle.pv_interval.specs.Bounds.{Bounds}
use Rattle.pv_interval.specs.Subsets.{IsSubsetSome}
use Rattle.pv_box.specs.Boxes.{IsBox}
use Rattle.pv_expr.specs.Systems.{IsOver}
use Rattle.pv_expr.specs.Terms.{Term}
use Rattle.pv_hc4.specs.Forward.{forward_of}
use Rattle.pv_hc4.specs.Members.{AreOver, AreWithin}
use Rattle.pv_hc4.specs.Revise.{Sides}
use Rattle.pv_hc4.specs.Totality.{total_of, sure_of}

-- a term's interval on a part b of c lies in the one on c; nothing is asked of c
abbrev pub KeepsForward : Type 0
KeepsForward =
    (n : ℕ) (t : Term) (b c : List Bounds) → IsOver n t → IsBox b → AreWithin b c
    → IsSubsetSome (forward_of b t) (forward_of c t)

-- where no divisor contains 0 on c, none does on a part of it
abbrev pub KeepsTotal : Type 0
KeepsTotal =
    (n : ℕ) (t : Term) (b c : List Bounds) → IsOver n t → IsBox b → AreWithin b c
    → IsTrue (total_of c t) → IsTrue (total_of b t)

-- a constraint that is sure on a box is sure on each part of it
abbrev pub KeepsSure : Type 0
KeepsSure =
    (n : ℕ) (s : Sides) (b c : List Bounds) → AreOver n s → IsBox b → AreWithin b c
    → IsTrue (sure_of s c) → IsTrue (sure_of s b)
