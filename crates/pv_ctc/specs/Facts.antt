-- What is known of the constraints on a box.
use Rattle.std.specs.Prelude.{◌≡◌, ◌≢◌, ℕ, ◌<◌, Bool, true, false, ◌||◌, List, length, Some}
use Rattle.pv_interval.specs.Bounds.{Bounds}
use Rattle.pv_box.specs.Boxes.{IsBox}
use Rattle.pv_hc4.specs.Chain.{at}
use Rattle.pv_hc4.specs.Judging.{revised_by, is_sure_by, MarksChanged}
use Rattle.pv_hc4.specs.declared.judge.Judged.{Judged}
use Rattle.pv_hc4.specs.MarkSets.{is_marked}
use Rattle.pv_hc4.specs.Members.{AreWithin}
use Rattle.pv_hc4.specs.Revise.{Sides, revised}
use Rattle.pv_hc4.specs.Totality.{sure_of}
use Rattle.pv_ctc.specs.Contracting.{side_at}
use Rattle.pv_ctc.specs.Steps.{IsStep}
use Rattle.pv_ctc.specs.declared.known.Known.{Known}

-- a revision would keep the box, and the constraint is not sure on it
pub record IsClean (s : Sides) (b : List Bounds) : Type 0 where
  pub kept : revised s b ≡ Some b
  pub unsure : sure_of s b ≡ false

-- what is said to be known is true of the box
pub record Knows (ss : List Sides) (known : Known) (b : List Bounds) : Type 0 where
  pub sure : (k : ℕ) → k < length ss → is_marked known.sure k ≡ true → sure_of (side_at ss k) b ≡ true
  pub clean : (k : ℕ) → k < length ss → is_marked known.clean k ≡ true → IsClean (side_at ss k) b

-- c is a box in b, with the same intervals but for that of variable v
pub record IsPartAt (v : ℕ) (b c : List Bounds) : Type 0 where
  pub within : AreWithin c b
  pub box : IsBox c
  pub same : (i : ℕ) → i ≢ v → at b i ≡ at c i

-- a constraint is known to leave the box as it is
abbrev pub IsSettled : Known → ℕ → Bool → Type 0
IsSettled known k t = t ≡ (is_marked known.sure k || is_marked known.clean k)

-- what a revision by the constraint that left d of b was judged to be
pub record IsNoted (s : Sides) (judged : Judged) (b d : List Bounds) : Type 0 where
  pub step : IsStep (revised s b) (revised_by judged) b d
  pub sure : is_sure_by judged ≡ sure_of s b
  pub changed : MarksChanged judged b d
