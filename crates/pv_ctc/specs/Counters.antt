-- What a counter tells.
use Rattle.std.specs.Prelude.{◌≡◌, ℕ, ◌+◌, ◌≤◌, Option, Some, None}

-- a number that rose by n, where it is told
abbrev pub raised : Option ℕ → ℕ → Option ℕ
raised None n = None
raised (Some m) n = Some (m + n)

-- it rose by at most n
pub record RoseAtMost (n : ℕ) (old new : Option ℕ) : Type 0 where
  pub by : ℕ
  pub few : by ≤ n
  pub is : new ≡ raised old by
