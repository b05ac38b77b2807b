-- The interval of a constant is one.
use Rattle.std.proofs.Common.{◌≡◌, ℕ, ◌≤◌, refl, ap, ◌∙◌, arith, rules}
use Rattle.std.specs.Prelude.{IsTrue, ℤ, pos, ◌*ℤ◌, Option, Some, None, Bool, true, false}
use Rattle.std.proofs.lemmas.Int.{ints}
use Rattle.pv_num.specs.Extended.{Extended, NegInf, PosInf}
use Rattle.pv_num.specs.Order.{le, lt}
use Rattle.pv_num.specs.Grid.{unit}
use Rattle.pv_num.specs.Arithmetic.{ratio_of}
use Rattle.pv_num.specs.declared.num.End.TheVariants.{Down, Up}
use Rattle.pv_interval.specs.Bounds.{Bounds, IsInterval, between, interval_from}
use Rattle.pv_interval.proofs.Rounds.{rounded_apart, rounded_down_open, rounded_up_open}
use Rattle.pv_hc4.specs.Forward.{constant_of}
use Rattle.pv_project.proofs.Meets.{lt_pos, lt_neg}
use Rattle.pv_box.proofs.Enough.{if_all}

pub constant_interval : (p : ℤ) (q : ℕ) → 1 ≤ q → IsInterval (constant_of p q)
constant_interval p q h = record {
  ordered = rounded_apart (p *ℤ pos unit) (p *ℤ pos unit) q q (omega arith) (omega arith) (omega (arith, ints));
  lo_open = rounded_down_open (p *ℤ pos unit) q (omega arith);
  hi_open = rounded_up_open (p *ℤ pos unit) q (omega arith);
}

le_true : (b : Bool) → IsTrue b → b ≡ true
le_true true h = refl
le_true false h = absurd (search rules)

pub interval_some : (lo hi : Extended) → IsInterval (between lo hi) → interval_from lo hi ≡ Some (between lo hi)
interval_some lo hi h = if_all (le lo hi) (lt lo PosInf) (lt NegInf hi) (between lo hi) (le_true (le lo hi) h.ordered) (lt_pos lo h.lo_open) (lt_neg hi h.hi_open)

pub constant_some : (p : ℤ) (q : ℕ) (lo hi : Extended) → 1 ≤ q → lo ≡ ratio_of Down p q → hi ≡ ratio_of Up p q → interval_from lo hi ≡ Some (constant_of p q)
constant_some p q lo hi h e f =
    ap (λ x. interval_from x hi) e ∙ ap (interval_from (ratio_of Down p q)) f ∙ interval_some (ratio_of Down p q) (ratio_of Up p q) (constant_interval p q h)

pub some_not_none : (x : Bounds) (o : Option Bounds) {i : Option Bounds} → i ≡ Some x → o ≡ i → o ≡ None → ⊥
some_not_none x o e f g = cc
