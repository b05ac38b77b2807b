-- A half of a box is the box with one place set.
use Rattle.std.proofs.Common.{◌≡◌, ℕ, zero, suc, ◌<◌, List, [], ◌∷◌, length, get_or, sym, ◌∙◌, ap, arith}
use Rattle.std.specs.Prelude.{slice_set}
use Rattle.pv_num.specs.Extended.{Extended}
use Rattle.pv_interval.specs.Bounds.{Bounds}
use Rattle.pv_box.specs.Boxes.{lower_half, upper_half}

pub lower_half-set : (b : List Bounds) (v : ℕ) (a : Extended) (x : Bounds) → v < length b → x ≡ get_or b v x → lower_half b v a ≡ slice_set b v (record { lo = x.lo; hi = a })
lower_half-set [] v a x h e = absurd (omega arith)
lower_half-set (y ∷ b) zero a x h e = ap (λ (l : Bounds). record { lo = l.lo; hi = a } ∷ b) (sym e)
lower_half-set (y ∷ b) (suc v) a x h e = ap (λ (l : List Bounds). y ∷ l) (lower_half-set b v a x (omega arith) e)

pub upper_half-set : (b : List Bounds) (v : ℕ) (a : Extended) (x : Bounds) → v < length b → x ≡ get_or b v x → upper_half b v a ≡ slice_set b v (record { lo = a; hi = x.hi })
upper_half-set [] v a x h e = absurd (omega arith)
upper_half-set (y ∷ b) zero a x h e = ap (λ (l : Bounds). record { lo = a; hi = l.hi } ∷ b) (sym e)
upper_half-set (y ∷ b) (suc v) a x h e = ap (λ (l : List Bounds). y ∷ l) (upper_half-set b v a x (omega arith) e)

-- a copy with one place set is a half
pub is_lower : (b copy new : List Bounds) (v : ℕ) (a : Extended) (x y : Bounds) → copy ≡ b → v < length b → x ≡ get_or b v x
    → y ≡ record { lo = x.lo; hi = a } → new ≡ slice_set copy v y → new ≡ lower_half b v a
is_lower b copy new v a x y same h e is made =
    made ∙ ap (λ (l : List Bounds). slice_set l v y) same ∙ ap (λ (z : Bounds). slice_set b v z) is ∙ sym (lower_half-set b v a x h e)

pub is_upper : (b copy new : List Bounds) (v : ℕ) (a : Extended) (x y : Bounds) → copy ≡ b → v < length b → x ≡ get_or b v x
    → y ≡ record { lo = a; hi = x.hi } → new ≡ slice_set copy v y → new ≡ upper_half b v a
is_upper b copy new v a x y same h e is made =
    made ∙ ap (λ (l : List Bounds). slice_set l v y) same ∙ ap (λ (z : Bounds). slice_set b v z) is ∙ sym (upper_half-set b v a x h e)
