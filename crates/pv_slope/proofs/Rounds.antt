-- Single steps of the functions that work out slopes.
use Rattle.std.proofs.Common.{◌≡◌, ℕ, zero, suc, ◌<◌, List, [], ◌∷◌, length, refl, ap, ◌∙◌, arith}
use Rattle.std.specs.Prelude.{IsTrue, pos, true, ◌&&◌}
use Rattle.std.proofs.lemmas.Int.{ints}
use lib.IntN.{neg_ℤ}
use Rattle.pv_num.specs.Extended.{Fin}
use Rattle.pv_num.specs.Grid.{unit}
use Rattle.pv_num.specs.Order.{le, greater}
use Rattle.pv_interval.specs.Bounds.{Bounds, between}
use Rattle.pv_interval.specs.Tables.{power_of, hull_of, negated}
use Rattle.pv_interval.proofs.Choices.{lesser_first, greater_second}
use Rattle.pv_interval.proofs.Ends.{le_fin}
use Rattle.pv_hc4.specs.Chain.{at}
use Rattle.pv_slope.specs.Centered.{is_finite, has_finite_ends}
use Rattle.pv_slope.specs.SlopeTable.{one_slope, either_slope}
use Rattle.pv_slope.proofs.Centring.{both_true}

pub one_power : (x : Bounds) → power_of x 0 ≡ one_slope
unfolding power_of
one_power x = refl

pub either_is : hull_of (negated one_slope) one_slope ≡ either_slope
unfolding hull_of negated
either_is =
    let h : IsTrue (le (Fin (neg_ℤ (pos unit))) (Fin (pos unit))) = le_fin (neg_ℤ (pos unit)) (pos unit) (omega (arith, ints)) in
    ap (λ e. between e (greater (Fin (neg_ℤ (pos unit))) (Fin (pos unit)))) (lesser_first (Fin (neg_ℤ (pos unit))) (Fin (pos unit)) h)
    ∙ ap (λ e. between (Fin (neg_ℤ (pos unit))) e) (greater_second (Fin (neg_ℤ (pos unit))) (Fin (pos unit)) h)

pub finite_at : (b : List Bounds) (i : ℕ) → has_finite_ends b ≡ true → i < length b → (is_finite (at b i).lo && is_finite (at b i).hi) ≡ true
finite_at [] i h l = absurd (omega arith)
finite_at (x ∷ b) zero h l = (both_true (is_finite x.lo && is_finite x.hi) (has_finite_ends b) h).0
finite_at (x ∷ b) (suc i) h l =
    let less : i < length b = omega arith in
    finite_at b i (both_true (is_finite x.lo && is_finite x.hi) (has_finite_ends b) h).1 less
