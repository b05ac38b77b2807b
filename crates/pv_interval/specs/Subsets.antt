-- Intervals that lie in one another, and what operations make of them.
use Rattle.std.specs.Prelude.{ℕ, IsTrue, Option, Some, None}
use Rattle.pv_num.specs.Order.{le}
use Rattle.pv_interval.specs.Bounds.{Bounds, IsInterval}
use Rattle.pv_interval.specs.Tables.{quotient_of, power_of, meet_of}

-- each number of x is a number of w
pub record IsSubset (x w : Bounds) : Type 0 where
  pub low : IsTrue (le w.lo x.lo)
  pub high : IsTrue (le x.hi w.hi)

-- the same of results that may be empty: what is empty lies in anything
abbrev pub IsSubsetSome : Option Bounds → Option Bounds → Type 0
IsSubsetSome None o = Unit {0}
IsSubsetSome (Some x) None = ⊥
IsSubsetSome (Some x) (Some w) = IsSubset x w

-- the result for parts of two intervals lies in the result for the whole; nothing is asked of the whole
abbrev pub KeepsPairs : (Bounds → Bounds → Bounds) → Type 0
KeepsPairs table =
    (x y v w : Bounds) → IsInterval x → IsInterval y → IsSubset x v → IsSubset y w → IsSubset (table x y) (table v w)

abbrev pub KeepsEach : (Bounds → Bounds) → Type 0
KeepsEach table = (x v : Bounds) → IsInterval x → IsSubset x v → IsSubset (table x) (table v)

abbrev pub KeepsPowers : Type 0
KeepsPowers = (x v : Bounds) (n : ℕ) → IsInterval x → IsSubset x v → IsSubset (power_of x n) (power_of v n)

-- where the whole's quotient is empty, so is the part's
abbrev pub KeepsQuotients : Type 0
KeepsQuotients =
    (x y v w : Bounds) → IsInterval x → IsInterval y → IsSubset x v → IsSubset y w
    → IsSubsetSome (quotient_of x y) (quotient_of v w)

abbrev pub KeepsMeets : Type 0
KeepsMeets = (x y v w : Bounds) → IsSubset x v → IsSubset y w → IsSubsetSome (meet_of x y) (meet_of v w)
