-- One circle more.
use native.Mathlib.Omega.{arith}
use Rattle.std.proofs.Common.{◌≡◌, ℕ, suc, ◌+◌, ◌-◌, ◌<◌, List, ◌++◌, ap, sym, ◌∙◌, append_assoc}
use Rattle.pv_made.specs.Circles.{after_circle, circle_text, circles_text}

minus_step : (n i : ℕ) → i < n → n - i ≡ suc (n - (i + 1))
minus_step n i h = omega (arith, h)

pub circles_step : (n i s t : ℕ) (before after goal : List ℕ) → i < n → after ≡ before ++ circle_text s → t ≡ after_circle s →
    before ++ circles_text (n - i) s ≡ goal → after ++ circles_text (n - (i + 1)) t ≡ goal
circles_step n i s t before after goal h written next e =
    ap (λ z. z ++ circles_text (n - (i + 1)) t) written
    ∙ append_assoc before (circle_text s) (circles_text (n - (i + 1)) t)
    ∙ ap (λ z. before ++ (circle_text s ++ circles_text (n - (i + 1)) z)) next
    ∙ ap (λ z. before ++ circles_text z s) (sym (minus_step n i h))
    ∙ e
