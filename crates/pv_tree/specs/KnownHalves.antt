-- What is known of the halves of a cut.
use Rattle.std.specs.Prelude.{List}
use Rattle.pv_interval.specs.Bounds.{Bounds}
use Rattle.pv_box.specs.Boxes.{lower_half, upper_half}
use Rattle.pv_tree.specs.declared.outcome.Outcome.{Outcome}
use Rattle.pv_tree.specs.declared.outcome.Outcome.TheVariants.{Removed, Inner, Small, Cut}

-- a fact is true of both halves, where the outcome is a cut
abbrev pub HoldsOfHalves : (List Bounds → Type 0) → Outcome → Type 0
HoldsOfHalves holds Removed = Unit {0}
HoldsOfHalves holds (Inner to) = Unit {0}
HoldsOfHalves holds (Small to) = Unit {0}
HoldsOfHalves holds (Cut to var at) = holds (lower_half to var at) × holds (upper_half to var at)

abbrev pub nothing_holds : {A : Type 0} → A → List Bounds → Type 0
nothing_holds a b = Unit {0}
