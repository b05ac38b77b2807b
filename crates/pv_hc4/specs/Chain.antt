-- Steps that may come out empty, one after another.
use Rattle.std.specs.Prelude.{◌≡◌, ℕ, Bool, true, false, List, Option, Some, None, slice_index_or}
use Rattle.pv_interval.specs.Bounds.{Bounds, everything}
pub use Rattle.pv_project.specs.Projections.{chain}

-- the interval of a place
abbrev pub at : List Bounds → ℕ → Bounds
at b i = slice_index_or b i everything

-- whether a step that left new came out as o
abbrev pub Gives : {A : Type 0} → Bool → A → Option A → Type 0
Gives true new o = o ≡ Some new
Gives false new o = o ≡ None
