-- The new intervals of two sides.
use Rattle.std.proofs.Common.{◌≡◌, ap, sym, ◌∙◌}
use Rattle.std.specs.Prelude.{Option, Some, None, Bool, true, false, cond, ◌&&◌}
use Rattle.pv_num.specs.Extended.{Extended, NegInf, PosInf}
use Rattle.pv_num.specs.Order.{le, lt, lesser, greater}
use Rattle.pv_interval.specs.Bounds.{Bounds, between, interval_from}
use Rattle.pv_hc4.specs.Revise.{ordered_of}

chosen : (t : Bool) (x y : Bounds) → cond t (Some x) None ≡ Some y → y ≡ x
chosen true x y e = cc
chosen false x y e = cc

pub from_is : (lo hi : Extended) (x : Bounds) → interval_from lo hi ≡ Some x → x ≡ between lo hi
from_is lo hi x e = chosen (le lo hi && (lt lo PosInf && lt NegInf hi)) (between lo hi) x e

pub ordered_is : (l r x y : Bounds) (a b c d : Extended) (o p : Option Bounds) → a ≡ l.lo → b ≡ lesser l.hi r.hi → c ≡ greater r.lo l.lo → d ≡ r.hi → o ≡ interval_from a b → o ≡ Some x → p ≡ interval_from c d → p ≡ Some y → Some (x, y) ≡ Some (ordered_of l r)
ordered_is l r x y a b c d o p ea eb ec ed oe ox pe py =
    let fx : x ≡ between (l.lo) (lesser l.hi r.hi) = from_is a b x (sym oe ∙ ox) ∙ ap (λ z. between z b) ea ∙ ap (between l.lo) eb in
    let fy : y ≡ between (greater r.lo l.lo) r.hi = from_is c d y (sym pe ∙ py) ∙ ap (λ z. between z d) ec ∙ ap (between (greater r.lo l.lo)) ed in
    ap (λ z. Some (z, y)) fx ∙ ap (λ z. Some (between (l.lo) (lesser l.hi r.hi), z)) fy
