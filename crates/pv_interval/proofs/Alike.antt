-- An interval is known by its ends.
use Rattle.std.proofs.Common.{◌≡◌, ap, sym, ◌∙◌}
use Rattle.std.specs.Prelude.{Bool, true, false, not, ◌&&◌}
use Rattle.std.specs.Ordering.{eq_by_cmp}
use Rattle.std.proofs.lemmas.Bool.{and_parts, not-false}
use Rattle.pv_num.specs.Order.{order_of}
use Rattle.pv_num.specs.Laws.{same-Decides}
use Rattle.pv_interval.specs.Bounds.{Bounds}

pub same_bounds : (x y : Bounds) → x.lo ≡ y.lo → x.hi ≡ y.hi → x ≡ y
same_bounds x y e f = ap (λ l. record { lo = l; hi = x.hi }) e ∙ ap (λ h. record { lo = y.lo; hi = h }) f

pub alike_same : (x y : Bounds) → (eq_by_cmp order_of x.lo y.lo && eq_by_cmp order_of x.hi y.hi) ≡ true → x ≡ y
alike_same x y e =
    let both = and_parts (eq_by_cmp order_of x.lo y.lo) (eq_by_cmp order_of x.hi y.hi) e in
    same_bounds x y ((same-Decides x.lo y.lo).0 both.0) ((same-Decides x.hi y.hi).0 both.1)

-- what the derived `!=` doesn't tell apart
pub not_apart : (x y : Bounds) (r : Bool) → r ≡ not (eq_by_cmp order_of x.lo y.lo && eq_by_cmp order_of x.hi y.hi) → r ≡ false → x ≡ y
not_apart x y r e f = alike_same x y (not-false (eq_by_cmp order_of x.lo y.lo && eq_by_cmp order_of x.hi y.hi) (sym e ∙ f))
