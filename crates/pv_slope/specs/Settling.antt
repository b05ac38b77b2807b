-- One step of the algorithm SIVIA with a contractor and centered forms.
use Rattle.std.specs.Prelude.{ℕ, Option, Some, None, List, if◌then◌else◌}
use Rattle.pv_interval.specs.Bounds.{Bounds}
use Rattle.pv_ctc.specs.Contracting.{sides_in, contract_of}
use Rattle.pv_ctc.specs.Plans.{plan_of}
use Rattle.pv_tree.specs.declared.outcome.Outcome.{Outcome}
use Rattle.pv_tree.specs.declared.outcome.Outcome.TheVariants.{Removed, Inner}
use Rattle.pv_settle.specs.Rules.{SettlerParts}
use Rattle.pv_settle.specs.Settling.{settle_unsure}
use Rattle.pv_slope.specs.Programs.{program_none, program_sure}

-- the tests that follow contraction, in their order: no point, every point, small, cut
abbrev pub settle_left : SettlerParts → List Bounds → ℕ → ℕ → Outcome
settle_left r to d k =
    if program_none (sides_in r.graphs) (plan_of r.program) to then Removed
    else if program_sure (sides_in r.graphs) (plan_of r.program) to then Inner to
    else settle_unsure r to d k

abbrev pub settle_contracted : SettlerParts → Option (List Bounds) → ℕ → ℕ → Outcome
settle_contracted r None d k = Removed
settle_contracted r (Some to) d k = settle_left r to d k

-- the outcome for a box, where d more cuts are allowed and the box's path has k steps
unfoldable pub settle_centered : SettlerParts → List Bounds → ℕ → ℕ → Outcome
settle_centered r b d k = settle_contracted r (contract_of (sides_in r.graphs) (plan_of r.program) b) d k
