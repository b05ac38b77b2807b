-- The lines of nodes by their shapes.
use Rattle.std.specs.Prelude.{◌≡◌, ℕ, Bool, true, false, Option, Some, None, List, ◌++◌}
use Rattle.pv_interval.specs.Bounds.{Bounds}
use Rattle.pv_tree.specs.Trees.{Tree}
use Rattle.pv_tree.specs.declared.outcome.Outcome.{Outcome}
use Rattle.pv_tree.specs.declared.outcome.Outcome.TheVariants as outcome
use Rattle.pv_tree.specs.declared.outcome.Shape.{Shape}
use Rattle.pv_tree.specs.declared.outcome.Shape.TheVariants.{Absent, OpenLeaf, Removed, Inner, Small, Cut}
use Rattle.pv_file.specs.declared.version.Version.{Version}
use Rattle.pv_file.specs.Lines.{kept_text, node_line, node_line_with}

-- the outcome of a node of a shape that kept a box
abbrev pub outcome_of : Shape → List Bounds → Option Outcome
outcome_of Absent to = None
outcome_of OpenLeaf to = None
outcome_of Removed to = Some outcome.Removed
outcome_of Inner to = Some (outcome.Inner to)
outcome_of Small to = Some (outcome.Small to)
outcome_of (Cut var at) to = Some (outcome.Cut to var at)

abbrev pub shape_line : Version → List Bounds → Shape → List Bounds → List ℕ
shape_line v b shape to = node_line_with (kept_text v b) (outcome_of shape to)

abbrev pub keeps_of : Shape → Bool
keeps_of Absent = false
keeps_of OpenLeaf = false
keeps_of Removed = false
keeps_of Inner = true
keeps_of Small = true
keeps_of (Cut var at) = true

-- the text got the line of a node that is there
abbrev pub AppendsNodeLine : List ℕ → List ℕ → Option Tree → Type 0
AppendsNodeLine before after None = ⊥
AppendsNodeLine before after (Some t) = after ≡ before ++ node_line t
