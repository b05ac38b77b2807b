-- An interval by its two ends.
use Rattle.std.specs.Prelude.{◌≢◌, IsTrue, ◌&&◌, Option, Some, None, if◌then◌else◌}
use Rattle.pv_num.specs.Extended.{Extended, NegInf, PosInf}
use Rattle.pv_num.specs.Order.{le, lt}

pub record Bounds : Type 0 where
  pub lo : Extended
  pub hi : Extended

-- the lower end is at most the upper one, and each end leaves room for a number
pub record IsInterval (x : Bounds) : Type 0 where
  pub ordered : IsTrue (le x.lo x.hi)
  pub lo_open : x.lo ≢ PosInf
  pub hi_open : x.hi ≢ NegInf

abbrev pub everything : Bounds
everything = record { lo = NegInf; hi = PosInf }

abbrev pub between : Extended → Extended → Bounds
between lo hi = record { lo = lo; hi = hi }

-- the interval between two ends; None where there is none
abbrev pub interval_from : Extended → Extended → Option Bounds
interval_from lo hi = if le lo hi && (lt lo PosInf && lt NegInf hi) then Some (between lo hi) else None
