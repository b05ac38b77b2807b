-- Ends and the rational numbers on their sides.
use Rattle.std.proofs.Common.{◌≢◌, ℕ, ◌<◌, refl, rules}
use Rattle.std.specs.Prelude.{IsTrue, ℤ, pos, ◌*ℤ◌}
use Rattle.pv_num.specs.Extended.{Extended, NegInf, Fin, PosInf}
use Rattle.pv_num.specs.Grid.{unit}
use Rattle.pv_num.specs.Order.{le}
use Rattle.pv_num.specs.Rounding.{IsDown, IsUp, rounded}
use Rattle.pv_num.specs.declared.num.End.TheVariants.{Down, Up}
use Rattle.pv_interval.specs.Bounds.{Bounds, IsInterval}
use Rattle.pv_interval.specs.Points.{IsBelow, IsAbove, Lies}
use Rattle.pv_interval.proofs.Products.{times_pos, cancel_pos, trans}
use Rattle.pv_interval.proofs.Ends.{le_fin, fin_le}
use Rattle.pv_interval.proofs.Rounds.{below_more, above_more, AtMost}
use Rattle.pv_num.proofs.Rounding.{rounded-is}

pub below_le : (e f : Extended) (n : ℤ) (d : ℕ) → IsTrue (le e f) → IsBelow f n d → IsBelow e n d
below_le NegInf f n d h k = tt
below_le (Fin e) NegInf n d h k = absurd (search rules)
below_le (Fin e) (Fin f) n d h k = trans _ _ _ (times_pos d e f (fin_le e f h)) k
below_le (Fin e) PosInf n d h k = absurd k
below_le PosInf NegInf n d h k = absurd (search rules)
below_le PosInf (Fin f) n d h k = absurd (search rules)
below_le PosInf PosInf n d h k = absurd k

pub above_le : (e f : Extended) (n : ℤ) (d : ℕ) → IsTrue (le e f) → IsAbove e n d → IsAbove f n d
above_le e PosInf n d h k = tt
above_le (Fin e) NegInf n d h k = absurd (search rules)
above_le (Fin e) (Fin f) n d h k = trans _ _ _ k (times_pos d e f (fin_le e f h))
above_le NegInf NegInf n d h k = absurd k
above_le NegInf (Fin f) n d h k = absurd k
above_le PosInf NegInf n d h k = absurd (search rules)
above_le PosInf (Fin f) n d h k = absurd (search rules)

-- an end below a number is at most an end above it
pub across : (e f : Extended) (n : ℤ) (d : ℕ) → 0 < d → IsBelow e n d → IsAbove f n d → IsTrue (le e f)
across NegInf NegInf n d p h k = refl
across NegInf (Fin f) n d p h k = refl
across NegInf PosInf n d p h k = refl
across (Fin e) NegInf n d p h k = absurd k
across (Fin e) (Fin f) n d p h k = le_fin e f (cancel_pos d e f p (trans _ _ _ h k))
across (Fin e) PosInf n d p h k = refl
across PosInf f n d p h k = absurd h

below_open : (e : Extended) (n : ℤ) (d : ℕ) → IsBelow e n d → e ≢ PosInf
below_open NegInf n d h k = cc
below_open (Fin e) n d h k = cc
below_open PosInf n d h k = h

above_open : (e : Extended) (n : ℤ) (d : ℕ) → IsAbove e n d → e ≢ NegInf
above_open NegInf n d h k = h
above_open (Fin e) n d h k = cc
above_open PosInf n d h k = cc

-- bounds in which some number lies are those of an interval
pub interval_of : (n : ℤ) (d : ℕ) (x : Bounds) → Lies n d x → IsInterval x
interval_of n d x h = record {
  ordered = across x.lo x.hi n d h.some h.low h.high;
  lo_open = below_open x.lo n d h.low;
  hi_open = above_open x.hi n d h.high;
}

from_down : (p n : ℤ) (q d : ℕ) (r : Extended) → 0 < q → AtMost p q (n *ℤ pos unit) d → IsDown p q r → IsBelow r n d
from_down p n q d NegInf h m k = tt
from_down p n q d (Fin r) h m k = below_more r p (n *ℤ pos unit) q d h k.below m
from_down p n q d PosInf h m k = absurd k

-- p / q rounded down is below each number that is not below p / q
pub below_rounded : (p n : ℤ) (q d : ℕ) → 0 < q → AtMost p q (n *ℤ pos unit) d → IsBelow (rounded Down p q) n d
below_rounded p n q d h m = from_down p n q d (rounded Down p q) h m (rounded-is Down p q h)

from_up : (p n : ℤ) (q d : ℕ) (r : Extended) → 0 < q → AtMost (n *ℤ pos unit) d p q → IsUp p q r → IsAbove r n d
from_up p n q d NegInf h m k = absurd k
from_up p n q d (Fin r) h m k = above_more r p (n *ℤ pos unit) q d h k.above m
from_up p n q d PosInf h m k = tt

pub above_rounded : (p n : ℤ) (q d : ℕ) → 0 < q → AtMost (n *ℤ pos unit) d p q → IsAbove (rounded Up p q) n d
above_rounded p n q d h m = from_up p n q d (rounded Up p q) h m (rounded-is Up p q h)
