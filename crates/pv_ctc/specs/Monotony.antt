-- The sure test of programs is inclusion monotone.
use Rattle.std.specs.Prelude.{ℕ, IsTrue, List, length}
use Rattle.pv_interval.specs.Bounds.{Bounds}
use Rattle.pv_box.specs.Boxes.{IsBox}
use Rattle.pv_hc4.specs.Revise.{Sides}
use Rattle.pv_hc4.specs.Members.{AreWithin}
use Rattle.pv_ctc.specs.Members.{AllOver}
use Rattle.pv_ctc.specs.Plans.{Plan, IsFor}
use Rattle.pv_ctc.specs.Sureness.{program_sure}

-- a program that is sure on a box is sure on each part of it
abbrev pub KeepsSurePrograms : Type 0
KeepsSurePrograms =
    (n : ℕ) (ss : List Sides) (p : Plan) (b c : List Bounds) → AllOver n ss → IsFor (length ss) p → IsBox b → AreWithin b c
    → IsTrue (program_sure ss p c) → IsTrue (program_sure ss p b)
