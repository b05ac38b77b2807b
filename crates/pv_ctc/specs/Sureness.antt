-- When every point of a box is in a program's set, as the intervals show.
use Rattle.std.specs.Prelude.{ℕ, ◌+◌, Bool, true, ◌&&◌, nat_le, List, [], ◌∷◌, if◌then◌else◌}
use Rattle.pv_interval.specs.Bounds.{Bounds}
use Rattle.pv_hc4.specs.Revise.{Sides}
use Rattle.pv_hc4.specs.Totality.{sure_of}
use Rattle.pv_ctc.specs.Contracting.{side_at}
use Rattle.pv_ctc.specs.Plans.{Plan, Plans, hc4, compose, union, qinter, fix, prop, no_plan, plan_and}

abbrev pub all_true : List Bool → Bool
all_true [] = true
all_true (t ∷ ts) = t && all_true ts

abbrev pub count_true : List Bool → ℕ
count_true [] = 0
count_true (t ∷ ts) = (if t then 1 else 0) + count_true ts

-- whether each constraint is sure
abbrev pub constraints_sure : List Sides → List Bounds → List Bool
constraints_sure [] b = []
constraints_sure (s ∷ ss) b = sure_of s b ∷ constraints_sure ss b

abbrev mutual
  pub program_sure : List Sides → Plan → List Bounds → Bool
  program_sure ss (hc4 i) b = sure_of (side_at ss i) b
  program_sure ss (compose ps) b = all_true (parts_sure ss ps b)
  program_sure ss (union ps) b = nat_le 1 (count_true (parts_sure ss ps b))
  program_sure ss (qinter q ps) b = nat_le q (count_true (parts_sure ss ps b))
  program_sure ss (fix n p) b = program_sure ss p b
  program_sure ss (prop n) b = all_true (constraints_sure ss b)

  -- whether each part is sure
  pub parts_sure : List Sides → Plans → List Bounds → List Bool
  parts_sure ss no_plan b = []
  parts_sure ss (plan_and p ps) b = program_sure ss p b ∷ parts_sure ss ps b
