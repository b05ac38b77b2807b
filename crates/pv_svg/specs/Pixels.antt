-- Where numbers and intervals lie on an axis of 1000 pixels.
use Rattle.std.specs.Prelude.{◌≡◌, ◌≢◌, ℕ, suc, ◌+◌, ◌-◌, ◌*◌, min, max, nat_lt, nat_le, pos, Bool, false, ◌&&◌, IsTrue, if◌then◌else◌}
use Rattle.std.specs.Ordering.{eq_by_cmp}
use Rattle.pv_num.specs.Extended.{Extended, NegInf, Fin, PosInf}
use Rattle.pv_num.specs.Grid.{unit}
use Rattle.pv_num.specs.Order.{order_of}
use Rattle.pv_num.specs.Arithmetic.{neg_of, sub_of, div_of, mul_of, floor_of}
use Rattle.pv_num.specs.declared.num.End.TheVariants.{Down}
use Rattle.pv_interval.specs.Bounds.{Bounds}
use Rattle.pv_interval.specs.Tables.{holds, width_of, negated}
use Rattle.pv_svg.specs.declared.rectangle.Class.{Class}
use Rattle.pv_svg.specs.declared.rectangle.Class.TheVariants.{Removed, Inner, Small, OpenLeaf}
use Rattle.pv_svg.specs.declared.side.Side.{Side}
use Rattle.pv_svg.specs.declared.pixel.TheConstants.{PIXELS}

-- An interval without an infinite end.
pub record IsFinite (axis : Bounds) : Type 0 where
  pub lo : axis.lo ≢ NegInf
  pub hi : axis.hi ≢ PosInf

-- An interval has one number alone.
abbrev pub is_flat : Bounds → Bool
is_flat axis = eq_by_cmp order_of axis.lo axis.hi

-- A number of a finite axis with a length.
pub record IsOn (axis : Bounds) (v : Extended) : Type 0 where
  pub finite : IsFinite axis
  pub long : is_flat axis ≡ false
  pub there : IsTrue (holds axis v)

-- The share of an axis that lies below a number: over the length, which is rounded up, and itself rounded down.
abbrev pub share_of : Bounds → Extended → Extended
share_of axis v = div_of Down (sub_of Down v axis.lo) (width_of axis)

abbrev pub thousand : Extended
thousand = Fin (pos (PIXELS * unit))

-- The pixels that end at or below a number of an axis, counted from the lower end: all of them at the upper end, and
-- else the whole part of 1000 times that share, rounded down. So it is never too high.
unfoldable pub lower_pixel : Bounds → Extended → ℕ
lower_pixel axis v = if eq_by_cmp order_of v axis.hi then PIXELS else floor_of (mul_of Down (share_of axis v) thousand)

-- The pixels that begin below a number: all but those that are counted from the upper end down. So it is never too low.
abbrev pub upper_pixel : Bounds → Extended → ℕ
upper_pixel axis v = PIXELS - lower_pixel (negated axis) (neg_of v)

-- A pixel is one of those of a side.
abbrev pub has : Side → ℕ → Bool
has side k = nat_lt k side.past && nat_lt side.first (suc k)

abbrev pub is_empty : Side → Bool
is_empty side = nat_le side.past side.first

-- All of an axis without length is the first pixel.
abbrev pub first_pixel : Side
first_pixel = record { first = 0; past = 1 }

-- From one pixel to another one, and at least one.
abbrev pub some_from : ℕ → ℕ → Side
some_from first past = record { first = first; past = max past (first + 1) }

-- The pixels of an axis with a length that a part of it touches, and at least one.
abbrev pub touched : Bounds → Bounds → Side
touched axis part = some_from (min (lower_pixel axis part.lo) (PIXELS - 1)) (upper_pixel axis part.hi)

-- The pixels of an axis with a length that lie within a part of it.
abbrev pub filled : Bounds → Bounds → Side
filled axis part = record { first = upper_pixel axis part.lo; past = lower_pixel axis part.hi }

-- A class that says something of every point has the pixels that lie within, and another one all that are touched.
abbrev pub long_side : Class → Bounds → Bounds → Side
long_side Removed axis part = filled axis part
long_side Inner axis part = filled axis part
long_side Small axis part = touched axis part
long_side OpenLeaf axis part = touched axis part

unfoldable pub side_of : Class → Bounds → Bounds → Side
side_of class axis part = if is_flat axis then first_pixel else long_side class axis part
