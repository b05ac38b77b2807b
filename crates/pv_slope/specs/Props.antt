-- That values lie in centered forms has one proof at most.
use Rattle.std.proofs.Common.{ℕ}
use Rattle.std.specs.Coded.{Π_prop, Unit-prop}
use Rattle.std.proofs.Props.{props}
use Rattle.std.specs.Prelude.{ℤ, Option, Some, None}
use Rattle.pv_num.specs.Extended.{Extended, NegInf, Fin, PosInf}
use Rattle.pv_interval.specs.Bounds.{Bounds}
use Rattle.pv_interval.specs.Points.{IsBelow, IsAbove, Lies, LiesInSome}
use Rattle.pv_slope.specs.Centered.{CenteredEncloses}

below-prop : (e : Extended) (n : ℤ) (d : ℕ) → IsProp (IsBelow e n d)
below-prop NegInf n d = Unit-prop
below-prop (Fin e) n d = hlevel props
below-prop PosInf n d = λ x. absurd x

above-prop : (e : Extended) (n : ℤ) (d : ℕ) → IsProp (IsAbove e n d)
above-prop NegInf n d = λ x. absurd x
above-prop (Fin e) n d = hlevel props
above-prop PosInf n d = Unit-prop

lies-prop : (n : ℤ) (d : ℕ) (x : Bounds) → IsProp (Lies n d x)
lies-prop n d x = let l = below-prop x.lo n d in let h = above-prop x.hi n d in hlevel (props, l, h)

some-prop : (n : ℤ) (d : ℕ) (o : Option Bounds) → IsProp (LiesInSome n d o)
some-prop n d None = λ x. absurd x
some-prop n d (Some x) = lies-prop n d x

pub CenteredEncloses-prop : IsProp CenteredEncloses
CenteredEncloses-prop = Π_prop (λ t. Π_prop (λ b. Π_prop (λ o. Π_prop (λ i. Π_prop (λ x. Π_prop (λ v. Π_prop (λ p. Π_prop (λ e. some-prop v.top v.under _))))))))
