-- The counts of the workers of a paving.
use Rattle.std.specs.Prelude.{ℕ, ◌+◌, ◌*◌, ◌^◌, ◌<◌, List, [], ◌∷◌}
use Rattle.pv_board.specs.Tallies.{Tally}
use Rattle.pv_pool.specs.Counting.{Numbers, AreBelow}

-- The numbers that a pool's contracts speak of.
abbrev pub numbers_of : Tally → Numbers
numbers_of t = record { given = t.given; back = t.spent; looks = t.looks; ends = t.ended; parts = t.parts }

-- The parts of all workers together.
abbrev pub parts_in : List Tally → ℕ
parts_in [] = 0
parts_in (t ∷ ts) = t.parts + parts_in ts

-- Each worker's counts of tickets and looks are below a bound.
abbrev pub AllBelow : ℕ → List Tally → Type 0
AllBelow bound [] = Unit {0}
AllBelow bound (t ∷ ts) = AreBelow bound (numbers_of t) × AllBelow bound ts

-- So many further counts below 2 ^ 71 can be added to a worker's counts of tickets and looks.
pub record HasRoom (further : ℕ) (t : Tally) : Type 0 where
  pub given : t.given + 2 ^ 71 * further < 2 ^ 75
  pub spent : t.spent + 2 ^ 71 * further < 2 ^ 75
  pub looks : t.looks + 2 ^ 71 * further < 2 ^ 75
