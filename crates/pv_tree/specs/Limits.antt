-- The most settled nodes that a tree may have, and how far workers count.
use Rattle.std.specs.Prelude.{ℕ, ◌^◌, ◌≤◌}
use Rattle.pv_tree.specs.declared.limit.TheConstants.{LEAST_LIMIT, MOST_SETTLED}

-- A limit that a caller may set.
abbrev pub IsLimit : ℕ → Type 0
IsLimit n = (LEAST_LIMIT ≤ n) × (n ≤ MOST_SETTLED)

-- What a worker counts of jobs, tickets and looks stays below it, far from the end of 128 bits.
abbrev pub told_room : ℕ
told_room = 2 ^ 100
