-- Rational points and when they lie in an interval.
use Rattle.std.specs.Prelude.{ℕ, ◌<◌, ℤ, pos, ◌*ℤ◌, ◌≤ℤ◌, List, Option, Some, None}
use Rattle.pv_num.specs.Extended.{Extended, NegInf, Fin, PosInf}
use Rattle.pv_num.specs.Grid.{unit}
use Rattle.pv_interval.specs.Bounds.{Bounds}
use Rattle.pv_interval.specs.Fractions.{Fraction}

-- the end e is at most n / d; a finite end e is the number e · 2^-512
abbrev pub IsBelow : Extended → ℤ → ℕ → Type 0
IsBelow NegInf n d = Unit {0}
IsBelow (Fin e) n d = (e *ℤ pos d) ≤ℤ (n *ℤ pos unit)
IsBelow PosInf n d = ⊥

-- the end e is at least n / d
abbrev pub IsAbove : Extended → ℤ → ℕ → Type 0
IsAbove NegInf n d = ⊥
IsAbove (Fin e) n d = (n *ℤ pos unit) ≤ℤ (e *ℤ pos d)
IsAbove PosInf n d = Unit {0}

-- the rational n / d lies in the bounds x
pub record Lies (n : ℤ) (d : ℕ) (x : Bounds) : Type 0 where
  pub some : 0 < d
  pub low : IsBelow x.lo n d
  pub high : IsAbove x.hi n d

abbrev pub LiesIn : Fraction → Bounds → Type 0
LiesIn f x = Lies f.top f.under x

-- n / d lies in the bounds of an answer that is there
abbrev pub LiesInSome : ℤ → ℕ → Option Bounds → Type 0
LiesInSome n d None = ⊥
LiesInSome n d (Some x) = Lies n d x

-- a point: a numerator for each place, over one denominator
pub record Point : Type 0 where
  pub places : List ℤ
  pub under : ℕ
