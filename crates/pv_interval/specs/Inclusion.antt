-- The inclusion property: an operation on intervals holds each result of the operation on their rational numbers.
use Rattle.std.specs.Prelude.{◌≡◌, ℕ, Option, Some}
use Rattle.pv_interval.specs.Bounds.{Bounds}
use Rattle.pv_interval.specs.Fractions.{Fraction, over, power}
use Rattle.pv_interval.specs.Points.{LiesIn, LiesInSome}
use Rattle.pv_interval.specs.Tables.{quotient_of, power_of, meet_of, hull_of}

-- of each number of x and each of y the operation's result lies in r
abbrev pub HoldsPair : (Fraction → Fraction → Fraction) → Bounds → Bounds → Bounds → Type 0
HoldsPair op x y r = (f g : Fraction) → LiesIn f x → LiesIn g y → LiesIn (op f g) r

abbrev pub HoldsOne : (Fraction → Fraction) → Bounds → Bounds → Type 0
HoldsOne op x r = (f : Fraction) → LiesIn f x → LiesIn (op f) r

abbrev pub HoldsPower : ℕ → Bounds → Bounds → Type 0
HoldsPower n x r = (f : Fraction) → LiesIn f x → LiesIn (power f n) r

-- where f / g is defined
abbrev pub HoldsQuotient : Bounds → Bounds → Option Bounds → Type 0
HoldsQuotient x y r = (f g h : Fraction) → over f g ≡ Some h → LiesIn f x → LiesIn g y → LiesInSome h.top h.under r

-- each number of x lies in r
abbrev pub Covers : Bounds → Bounds → Type 0
Covers x r = (f : Fraction) → LiesIn f x → LiesIn f r

-- each number of both x and y lies in r
abbrev pub HoldsBoth : Bounds → Bounds → Option Bounds → Type 0
HoldsBoth x y r = (f : Fraction) → LiesIn f x → LiesIn f y → LiesInSome f.top f.under r

-- of each pair of numbers the operation lies in the table's interval
abbrev pub HoldsPairs : (Fraction → Fraction → Fraction) → (Bounds → Bounds → Bounds) → Type 0
HoldsPairs op table = (f g : Fraction) (x y : Bounds) → LiesIn f x → LiesIn g y → LiesIn (op f g) (table x y)

abbrev pub HoldsEach : (Fraction → Fraction) → (Bounds → Bounds) → Type 0
HoldsEach op table = (f : Fraction) (x : Bounds) → LiesIn f x → LiesIn (op f) (table x)

abbrev pub HoldsPowers : Type 0
HoldsPowers = (f : Fraction) (x : Bounds) (n : ℕ) → LiesIn f x → LiesIn (power f n) (power_of x n)

-- where f / g is defined
abbrev pub HoldsQuotients : Type 0
HoldsQuotients =
    (f g h : Fraction) (x y : Bounds) → over f g ≡ Some h → LiesIn f x → LiesIn g y → LiesInSome h.top h.under (quotient_of x y)

-- a number of one of two intervals lies in their hull
abbrev pub HoldsLeft : Type 0
HoldsLeft = (f : Fraction) (x y : Bounds) → LiesIn f x → LiesIn f (hull_of x y)

abbrev pub HoldsRight : Type 0
HoldsRight = (f : Fraction) (x y : Bounds) → LiesIn f y → LiesIn f (hull_of x y)

-- a number of both lies in what they have in common
abbrev pub HoldsCommon : Type 0
HoldsCommon = (f : Fraction) (x y : Bounds) → LiesIn f x → LiesIn f y → LiesInSome f.top f.under (meet_of x y)
