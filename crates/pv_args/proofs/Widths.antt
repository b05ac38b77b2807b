-- A number that is read is not negative, and so is what it is rounded to, which is finite.
use Rattle.std.proofs.Common.{◌≡◌, ◌≢◌, ℕ, ℤ, pos, sym, subst, List}
use Rattle.std.specs.Prelude.{IsTrue}
use Rattle.pv_num.specs.Extended.{Extended, Fin, PosInf}
use Rattle.pv_num.specs.Order.{le}
use Rattle.pv_num.specs.Arithmetic.{ratio_of}
use Rattle.pv_num.specs.declared.num.End.TheVariants.{Down}
use Rattle.pv_num.proofs.Ratios.{ratio-from_zero, ratio-finite}
use Rattle.pv_expr.specs.Systems.{IsFraction}
use Rattle.pv_tokens.specs.Numbers.{IsRead}

pub width_from : (t : List ℕ) (v : ℤ × ℕ) (n : Extended) → IsRead t v → n ≡ ratio_of Down v.0 v.1 → IsTrue (le (Fin (pos 0)) n)
width_from t v n read is =
    let top : v.0 ≡ pos read.value.above = read.value.numerator in
    subst (λ (x : Extended). IsTrue (le (Fin (pos 0)) x)) (sym is)
    (subst (λ (p : ℤ). IsTrue (le (Fin (pos 0)) (ratio_of Down p v.1))) (sym top) (ratio-from_zero Down read.value.above v.1 read.value.not_zero))

pub width_finite : (v : ℤ × ℕ) (n : Extended) → IsFraction v.0 v.1 → n ≡ ratio_of Down v.0 v.1 → n ≢ PosInf
width_finite v n fraction is =
    subst (λ (x : Extended). x ≢ PosInf) (sym is) (ratio-finite Down v.0 v.1 fraction.top_below fraction.under_above).1
