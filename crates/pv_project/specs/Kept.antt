-- No argument that a result in z allows is lost.
use Rattle.std.specs.Prelude.{◌≡◌, ℕ, Option, Some, None}
use Rattle.pv_interval.specs.Bounds.{Bounds}
use Rattle.pv_interval.specs.Fractions.{Fraction, over, power}
use Rattle.pv_interval.specs.Points.{LiesIn, LiesInSome}
use Rattle.pv_project.specs.Projections.{back_div_of, back_pow_of}

-- f and g lie in the two intervals of an answer that is there
abbrev pub PairIn : Fraction → Fraction → Option (Bounds × Bounds) → Type 0
PairIn f g None = ⊥
PairIn f g (Some p) = LiesIn f p.0 × LiesIn g p.1

-- each pair of arguments in x and y whose result lies in z lies in the answer r
abbrev pub KeepsPair : (Fraction → Fraction → Fraction) → Bounds → Bounds → Bounds → Option (Bounds × Bounds) → Type 0
KeepsPair op z x y r = (f g : Fraction) → LiesIn f x → LiesIn g y → LiesIn (op f g) z → PairIn f g r

-- where f / g is defined
abbrev pub KeepsQuotient : Bounds → Bounds → Bounds → Option (Bounds × Bounds) → Type 0
KeepsQuotient z x y r =
    (f g h : Fraction) → over f g ≡ Some h → LiesIn f x → LiesIn g y → LiesIn h z → PairIn f g r

-- each argument in x whose result lies in z lies in the answer r
abbrev pub KeepsOne : (Fraction → Fraction) → Bounds → Bounds → Option Bounds → Type 0
KeepsOne op z x r = (f : Fraction) → LiesIn f x → LiesIn (op f) z → LiesInSome f.top f.under r

abbrev pub KeepsPower : Bounds → Bounds → ℕ → Option Bounds → Type 0
KeepsPower z x n r = (f : Fraction) → LiesIn f x → LiesIn (power f n) z → LiesInSome f.top f.under r

-- each pair of arguments in x and y whose result lies in z lies in the answer
abbrev pub KeepsPairs : (Fraction → Fraction → Fraction) → (Bounds → Bounds → Bounds → Option (Bounds × Bounds)) → Type 0
KeepsPairs op table =
    (f g : Fraction) (z x y : Bounds) → LiesIn f x → LiesIn g y → LiesIn (op f g) z → PairIn f g (table z x y)

-- each argument in x whose result lies in z lies in the answer
abbrev pub KeepsEach : (Fraction → Fraction) → (Bounds → Bounds → Option Bounds) → Type 0
KeepsEach op table =
    (f : Fraction) (z x : Bounds) → LiesIn f x → LiesIn (op f) z → LiesInSome f.top f.under (table z x)

-- where f / g is defined
abbrev pub KeepsQuotients : Type 0
KeepsQuotients =
    (f g h : Fraction) (z x y : Bounds) → over f g ≡ Some h → LiesIn f x → LiesIn g y → LiesIn h z → PairIn f g (back_div_of z x y)

abbrev pub KeepsPowers : Type 0
KeepsPowers =
    (f : Fraction) (z x : Bounds) (n : ℕ) → LiesIn f x → LiesIn (power f n) z → LiesInSome f.top f.under (back_pow_of z x n)
