-- Points as lists of finite numbers, and as rational points.
use Rattle.std.specs.Prelude.{◌<◌, ◌≤◌, ℤ, pos, List, [], ◌∷◌, length, map}
use Rattle.pv_num.specs.Extended.{Extended, NegInf, Fin, PosInf}
use Rattle.pv_num.specs.Grid.{unit}
use Rattle.pv_interval.specs.Bounds.{Bounds, between}
use Rattle.pv_interval.specs.Points.{Point}
use Rattle.pv_box.specs.declared.boxes.TheConstants.{MOST_PLACES}

abbrev pub IsFinite : Extended → Type 0
IsFinite NegInf = ⊥
IsFinite (Fin n) = Unit {0}
IsFinite PosInf = ⊥

abbrev pub AreFinite : List Extended → Type 0
AreFinite [] = Unit {0}
AreFinite (x ∷ xs) = IsFinite x × AreFinite xs

-- 1 to 12 finite numbers
pub record IsFinitePoint (p : List Extended) : Type 0 where
  pub some : 0 < length p
  pub few : length p ≤ MOST_PLACES
  pub finite : AreFinite p

-- the box that has a point alone
abbrev pub exact_box : List Extended → List Bounds
exact_box p = map (λ n. between n n) p

abbrev pub lows_of : List Bounds → List Extended
lows_of b = map (λ x. x.lo) b

-- a finite number in units of 2^-512
abbrev pub units_of : Extended → ℤ
units_of NegInf = pos 0
units_of (Fin n) = n
units_of PosInf = pos 0

-- the rational point of a list of finite numbers
abbrev pub rational : List Extended → Point
rational p = record { places = map units_of p; under = unit }
