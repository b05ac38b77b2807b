-- A good domain, rounded outward, is an interval.
use Rattle.std.proofs.Common.{◌≡◌, ◌≢◌, ℕ, refl, arith, IsTrue, ℤ, pos, ◌*ℤ◌, ◌≤ℤ◌, Some}
use Rattle.pv_num.specs.Extended.{Extended, NegInf, Fin, PosInf}
use Rattle.pv_num.specs.Grid.{unit}
use Rattle.pv_num.specs.Order.{le}
use Rattle.pv_num.specs.Arithmetic.{ratio_of}
use Rattle.pv_num.specs.declared.num.End.TheVariants.{Down, Up}
use Rattle.pv_interval.specs.Bounds.{between, interval_from}
use Rattle.pv_interval.proofs.Integers.{swap_last}
use Rattle.pv_interval.proofs.Monotone.{neg_least, pos_greatest}
use Rattle.pv_interval.proofs.Products.{times_pos}
use Rattle.pv_interval.proofs.Rounds.{rounded_apart, rounded_down_open, rounded_up_open}
use Rattle.pv_expr.specs.Searches.{end_of, search_bounds}
use Rattle.pv_expr.specs.Systems.{IsFraction, IsBound, IsDomain, InOrder}
use Rattle.pv_expr.specs.declared.domain.Bound.{Bound}
use Rattle.pv_expr.specs.declared.domain.Bound.TheVariants.{MinusOo, Value, PlusOo}
use Rattle.pv_expr.specs.declared.domain.Domain.{Domain}

ratio_apart : (p r : ℤ) (q s : ℕ) → IsFraction p q → IsFraction r s → (p *ℤ pos s) ≤ℤ (r *ℤ pos q) → IsTrue (le (ratio_of Down p q) (ratio_of Up r s))
ratio_apart p r q s a b h =
    rounded_apart (p *ℤ pos unit) (r *ℤ pos unit) q s (omega (arith, a.under_above)) (omega (arith, b.under_above))
    (rw (swap_last p (pos unit) (pos s), swap_last r (pos unit) (pos q)) (times_pos unit _ _ h))

from_ends : (lo hi : Extended) → IsTrue (le lo hi) → lo ≢ PosInf → hi ≢ NegInf → interval_from lo hi ≡ Some (between lo hi)
from_ends NegInf NegInf h p q = absurd (q refl)
from_ends NegInf (Fin b) h p q = refl
from_ends NegInf PosInf h p q = refl
from_ends (Fin a) NegInf h p q = absurd (q refl)
from_ends (Fin a) (Fin b) h p q = rw h refl
from_ends (Fin a) PosInf h p q = refl
from_ends PosInf hi h p q = absurd (p refl)

by_bounds : (lo hi : Bound) → IsBound lo → IsBound hi → InOrder lo hi → interval_from (end_of Down lo) (end_of Up hi) ≡ Some (between (end_of Down lo) (end_of Up hi))
by_bounds PlusOo hi a b h = absurd h
by_bounds MinusOo MinusOo a b h = absurd h
by_bounds MinusOo (Value r s) a b h = from_ends NegInf (ratio_of Up r s) (neg_least (ratio_of Up r s)) (λ e. cc) (rounded_up_open _ _ (omega (arith, b.under_above)))
by_bounds MinusOo PlusOo a b h = refl
by_bounds (Value p q) MinusOo a b h = absurd h
by_bounds (Value p q) (Value r s) a b h =
    from_ends (ratio_of Down p q) (ratio_of Up r s) (ratio_apart p r q s a b h)
    (rounded_down_open _ _ (omega (arith, a.under_above))) (rounded_up_open _ _ (omega (arith, b.under_above)))
by_bounds (Value p q) PlusOo a b h = from_ends (ratio_of Down p q) PosInf (pos_greatest (ratio_of Down p q)) (rounded_down_open _ _ (omega (arith, a.under_above))) (λ e. cc)

pub interval_some : (d : Domain) → IsDomain d → interval_from (end_of Down d.lo) (end_of Up d.hi) ≡ Some (search_bounds d)
interval_some d h = by_bounds d.lo d.hi h.lower h.upper h.in_order
