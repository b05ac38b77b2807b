-- The middle of two numbers lies strictly between them.
use Rattle.std.proofs.Common.{◌≡◌, refl, rules, sym, ◌∙◌, ap, subst}
use Rattle.std.specs.Prelude.{IsTrue, Bool, true, false, Option, Some, None, IfSome, ◌&&◌, cond}
use Rattle.pv_num.specs.Extended.{Extended, NegInf, Fin, PosInf}
use Rattle.pv_num.specs.Order.{lt}
use Rattle.pv_num.specs.Arithmetic.{middle_of, between}
use Rattle.pv_interval.specs.Bounds.{Bounds}
use Rattle.pv_box.specs.Boxes.{IsInside}

both : (p q : Bool) → (p && q) ≡ true → IsTrue p × IsTrue q
both true true h = (search rules, search rules)
both true false h = absurd (search rules)
both false q h = absurd (search rules)

let_through : (test : Bool) (lo a hi : Extended) → (test ≡ true → IsInside a (record { lo = lo; hi = hi })) → IfSome (cond test (Some a) None) (λ at. IsInside at (record { lo = lo; hi = hi }))
let_through true lo a hi h = h refl
let_through false lo a hi h = tt

pub between_inside : (lo a hi : Extended) → IfSome (between lo hi a) (λ at. IsInside at (record { lo = lo; hi = hi }))
between_inside lo a hi = let_through (lt lo a && lt a hi) lo a hi (λ h. let t = both (lt lo a) (lt a hi) h in record { above = t.0; below = t.1 })

pub middle_inside : (lo hi : Extended) → IfSome (middle_of lo hi) (λ at. IsInside at (record { lo = lo; hi = hi }))
middle_inside (Fin a) (Fin b) = between_inside (Fin a) _ (Fin b)
middle_inside NegInf hi = tt
middle_inside PosInf hi = tt
middle_inside (Fin a) NegInf = tt
middle_inside (Fin a) PosInf = tt

pub inside_of : (r : Option Extended) (lo hi : Extended) (x : Bounds) → r ≡ middle_of lo hi → lo ≡ x.lo → hi ≡ x.hi → IfSome r (λ at. IsInside at x)
inside_of r lo hi x e a b =
    let same : r ≡ middle_of x.lo x.hi = e ∙ ap (λ (l : Extended). middle_of l hi) a ∙ ap (λ (h : Extended). middle_of x.lo h) b in
    subst (λ (s : Option Extended). IfSome s (λ at. IsInside at x)) (sym same) (middle_inside x.lo x.hi)
