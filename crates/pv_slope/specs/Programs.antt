-- What tests of the constraints say of a contractor program: that no point of a box is a member of its set, or that each one is.
use Rattle.std.specs.Prelude.{ℕ, ◌-◌, Bool, false, nat_le, nat_lt, List, [], ◌∷◌, map, slice_index_or}
use Rattle.pv_interval.specs.Bounds.{Bounds}
use Rattle.pv_hc4.specs.Revise.{Sides}
use Rattle.pv_ctc.specs.Plans.{Plan, Plans, hc4, compose, union, qinter, fix, prop, no_plan, plan_and, plan_count}
use Rattle.pv_ctc.specs.Sureness.{all_true, count_true}
use Rattle.pv_slope.specs.Tests.{centered_none, counts_as_sure}

abbrev pub test_at : List Bool → ℕ → Bool
test_at ts i = slice_index_or ts i false

-- no point is a member, where ts says so of each constraint
abbrev mutual
  pub none_by : List Bool → Plan → Bool
  none_by ts (hc4 i) = test_at ts i
  none_by ts (compose ps) = nat_le 1 (count_true (none_by_each ts ps))
  none_by ts (union ps) = all_true (none_by_each ts ps)
  none_by ts (qinter q ps) = nat_lt (plan_count ps - q) (count_true (none_by_each ts ps))
  none_by ts (fix n p) = none_by ts p
  none_by ts (prop n) = nat_le 1 (count_true ts)

  pub none_by_each : List Bool → Plans → List Bool
  none_by_each ts no_plan = []
  none_by_each ts (plan_and p ps) = none_by ts p ∷ none_by_each ts ps

-- each point is a member, where ts says so of each constraint
abbrev mutual
  pub sure_by : List Bool → Plan → Bool
  sure_by ts (hc4 i) = test_at ts i
  sure_by ts (compose ps) = all_true (sure_by_each ts ps)
  sure_by ts (union ps) = nat_le 1 (count_true (sure_by_each ts ps))
  sure_by ts (qinter q ps) = nat_le q (count_true (sure_by_each ts ps))
  sure_by ts (fix n p) = sure_by ts p
  sure_by ts (prop n) = all_true ts

  pub sure_by_each : List Bool → Plans → List Bool
  sure_by_each ts no_plan = []
  sure_by_each ts (plan_and p ps) = sure_by ts p ∷ sure_by_each ts ps

-- whether each constraint is centered-none
abbrev pub none_tests : List Sides → List Bounds → List Bool
none_tests ss b = map (λ s. centered_none s b) ss

-- whether each constraint is sure, or centered-sure
abbrev pub sure_tests : List Sides → List Bounds → List Bool
sure_tests ss b = map (λ s. counts_as_sure s b) ss

-- no point of the box is a member of the program's set
abbrev pub program_none : List Sides → Plan → List Bounds → Bool
program_none ss p b = none_by (none_tests ss b) p

-- each point of the box is a member of the program's set
abbrev pub program_sure : List Sides → Plan → List Bounds → Bool
program_sure ss p b = sure_by (sure_tests ss b) p
