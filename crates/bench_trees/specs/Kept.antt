-- Which nodes kept something of their boxes.
use Rattle.std.specs.Prelude.{Bool, true, false}
use Rattle.pv_tree.specs.declared.outcome.Shape.{Shape}
use Rattle.pv_tree.specs.declared.outcome.Shape.TheVariants.{Absent, OpenLeaf, Removed, Inner, Small, Cut}

abbrev pub keeps_shape : Shape → Bool
keeps_shape Absent = false
keeps_shape OpenLeaf = false
keeps_shape Removed = false
keeps_shape Inner = true
keeps_shape Small = true
keeps_shape (Cut var at) = true
