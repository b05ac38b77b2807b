-- One step of the algorithm SIVIA with a contractor.
use Rattle.std.specs.Prelude.{ℕ, Option, Some, None, List, nat_eq, ◌||◌, if◌then◌else◌}
use Rattle.pv_num.specs.Extended.{Extended}
use Rattle.pv_interval.specs.Bounds.{Bounds}
use Rattle.pv_interval.specs.Points.{Point}
use Rattle.pv_box.specs.Choice.{choose_of, is_small_of}
use Rattle.pv_ctc.specs.Contracting.{sides_in, contract_of}
use Rattle.pv_ctc.specs.Members.{IsMember}
use Rattle.pv_ctc.specs.Plans.{plan_of}
use Rattle.pv_ctc.specs.Sureness.{program_sure}
use Rattle.pv_tree.specs.declared.outcome.Outcome.{Outcome}
use Rattle.pv_tree.specs.declared.outcome.Outcome.TheVariants.{Removed, Inner, Small, Cut}
use Rattle.pv_settle.specs.Rules.{SettlerParts}

-- cut where a place can be cut, and else small
abbrev pub cut_or_small : List Bounds → Option (ℕ × Extended) → Outcome
cut_or_small to None = Small to
cut_or_small to (Some c) = Cut to c.0 c.1

-- the last two tests: small, cut
abbrev pub settle_unsure : SettlerParts → List Bounds → ℕ → ℕ → Outcome
settle_unsure r to d k = if nat_eq d 0 || is_small_of r.eps to then Small to else cut_or_small to (choose_of r.bisector k to)

-- the tests that follow contraction, in their order: inner, small, cut
abbrev pub settle_left : SettlerParts → List Bounds → ℕ → ℕ → Outcome
settle_left r to d k =
    if program_sure (sides_in r.graphs) (plan_of r.program) to then Inner to else settle_unsure r to d k

abbrev pub settle_contracted : SettlerParts → Option (List Bounds) → ℕ → ℕ → Outcome
settle_contracted r None d k = Removed
settle_contracted r (Some to) d k = settle_left r to d k

-- the outcome for a box, where d more cuts are allowed and the box's path has k steps
unfoldable pub settle_by : SettlerParts → List Bounds → ℕ → ℕ → Outcome
settle_by r b d k = settle_contracted r (contract_of (sides_in r.graphs) (plan_of r.program) b) d k

-- the points that the rule's program speaks of
abbrev pub is_member : SettlerParts → Point → Type 0
is_member r x = IsMember (sides_in r.graphs) (plan_of r.program) x
