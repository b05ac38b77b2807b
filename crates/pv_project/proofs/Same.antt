-- Fractions that are the same number.
use Rattle.std.proofs.Common.{◌≡◌, ℕ, suc, ◌<◌, ◌*◌, arith, sym, ◌∙◌, ap}
use Rattle.std.specs.Prelude.{ℤ, pos, negsuc, ◌+ℤ◌, ◌-ℤ◌, ◌*ℤ◌}
use Rattle.std.proofs.Math.IntN.{*ℤ_comm, +ℤ_comm, neg_ℤ-neg_ℤ}
use Rattle.std.proofs.Math.Nat.{mul_comm}
use Rattle.std.proofs.lemmas.Int.{ints}
use lib.IntN.{neg_ℤ}
use Rattle.pv_interval.specs.Bounds.{Bounds}
use Rattle.pv_interval.specs.Fractions.{Fraction, plus, minus, times}
use Rattle.pv_interval.specs.Points.{LiesIn}
use Rattle.pv_interval.proofs.Integers.{times_assoc, swap_last, right_distrib, neg_left, neg_right}
use Rattle.pv_interval.proofs.Orders.{above_down, below_up}

-- f and g are the same number, with denominators above 0
pub record IsSame (f g : Fraction) : Type 0 where
  pub crosswise : f.top *ℤ pos g.under ≡ g.top *ℤ pos f.under

pub same_back : (f g : Fraction) → IsSame f g → IsSame g f
same_back f g h = record { crosswise = sym h.crosswise }

-- the same number lies in the same intervals
pub same_lies : (f g : Fraction) (x : Bounds) → IsSame f g → 0 < f.under → LiesIn g x → LiesIn f x
same_lies f g x s p h = record {
  some = p;
  low = below_up x.lo g.top f.top g.under f.under h.some (let e = s.crosswise in omega (arith, ints)) h.low;
  high = above_down x.hi g.top f.top g.under f.under h.some (let e = s.crosswise in omega (arith, ints)) h.high;
}

pub plus_swap : (f g : Fraction) → plus f g ≡ plus g f
plus_swap f g =
    ap (λ w. record { top = w; under = f.under * g.under }) (+ℤ_comm (f.top *ℤ pos g.under) (g.top *ℤ pos f.under))
    ∙ ap (λ w. record { top = g.top *ℤ pos f.under +ℤ f.top *ℤ pos g.under; under = w }) (mul_comm f.under g.under)

pub times_swap : (f g : Fraction) → times f g ≡ times g f
times_swap f g =
    ap (λ w. record { top = w; under = f.under * g.under }) (*ℤ_comm f.top g.top)
    ∙ ap (λ w. record { top = g.top *ℤ f.top; under = w }) (mul_comm f.under g.under)

-- a (b c e) is (a c e) b, and so on
spread : (a b c e : ℤ) → a *ℤ ((b *ℤ c) *ℤ e) ≡ ((a *ℤ b) *ℤ c) *ℤ e
spread a b c e = sym (times_assoc a (b *ℤ c) e) ∙ ap (λ w. w *ℤ e) (sym (times_assoc a b c))

pub shuffle : (a b c e : ℤ) → a *ℤ ((b *ℤ c) *ℤ e) ≡ ((a *ℤ e) *ℤ c) *ℤ b
shuffle a b c e =
    spread a b c e ∙ swap_last (a *ℤ b) c e ∙ ap (λ w. w *ℤ c) (swap_last a b e)
    ∙ swap_last (a *ℤ e) b c

-- f is (f + g) - g
pub same_add : (f g : Fraction) → IsSame f (minus (plus f g) g)
same_add f g = record {
  crosswise =
      let u = pos f.under in let v = pos g.under in
      let p = right_distrib (f.top *ℤ v) (g.top *ℤ u) v in
      let q = times_assoc g.top u v in
      let m : (f.top *ℤ v +ℤ g.top *ℤ u) *ℤ v -ℤ g.top *ℤ (u *ℤ v) ≡ (f.top *ℤ v) *ℤ v = omega (arith, ints) in
      shuffle f.top u v v ∙ sym (ap (λ w. w *ℤ u) m);
}

-- f is (f - g) + g
pub same_sub : (f g : Fraction) → IsSame f (plus (minus f g) g)
same_sub f g = record {
  crosswise =
      let u = pos f.under in let v = pos g.under in
      let p = right_distrib (f.top *ℤ v) (neg_ℤ (g.top *ℤ u)) v in
      let r = neg_left (g.top *ℤ u) v in
      let q = times_assoc g.top u v in
      let m : (f.top *ℤ v -ℤ g.top *ℤ u) *ℤ v +ℤ g.top *ℤ (u *ℤ v) ≡ (f.top *ℤ v) *ℤ v = omega (arith, ints) in
      shuffle f.top u v v ∙ sym (ap (λ w. w *ℤ u) m);
}

-- g is f - (f - g)
pub same_less : (f g : Fraction) → IsSame g (minus f (minus f g))
same_less f g = record {
  crosswise =
      let u = pos f.under in let v = pos g.under in
      let p = right_distrib (f.top *ℤ v) (neg_ℤ (g.top *ℤ u)) u in
      let r = neg_left (g.top *ℤ u) u in
      let q : (f.top *ℤ v) *ℤ u ≡ f.top *ℤ (u *ℤ v) = times_assoc f.top v u ∙ ap (λ w. f.top *ℤ w) (*ℤ_comm v u) in
      let m : f.top *ℤ (u *ℤ v) -ℤ (f.top *ℤ v -ℤ g.top *ℤ u) *ℤ u ≡ (g.top *ℤ u) *ℤ u = omega (arith, ints) in
      ap (λ w. g.top *ℤ w) (sym (times_assoc u u v)) ∙ spread g.top u u v ∙ sym (ap (λ w. w *ℤ v) m);
}

-- f is (f g) / g
pub same_quotient_up : (f : Fraction) (r s : ℕ) → IsSame f (record { top = (f.top *ℤ pos (suc r)) *ℤ pos s; under = (f.under * s) * suc r })
same_quotient_up f r s = record { crosswise = shuffle f.top (pos f.under) (pos s) (pos (suc r)) }

pub same_quotient_down : (f : Fraction) (r s : ℕ) → IsSame f (record { top = neg_ℤ ((f.top *ℤ negsuc r) *ℤ pos s); under = (f.under * s) * suc r })
same_quotient_down f r s = record {
  crosswise =
      let k = pos (suc r) in
      let m : neg_ℤ ((f.top *ℤ neg_ℤ k) *ℤ pos s) ≡ (f.top *ℤ k) *ℤ pos s =
      ap (λ w. neg_ℤ (w *ℤ pos s)) (neg_right f.top k) ∙ ap neg_ℤ (neg_left (f.top *ℤ k) (pos s)) ∙ neg_ℤ-neg_ℤ ((f.top *ℤ k) *ℤ pos s) in
      shuffle f.top (pos f.under) (pos s) k ∙ sym (ap (λ w. w *ℤ pos f.under) m);
}

-- f is (f / g) g
pub same_product_up : (f : Fraction) (r s : ℕ) → IsSame f (record { top = (f.top *ℤ pos s) *ℤ pos (suc r); under = (f.under * suc r) * s })
same_product_up f r s = record { crosswise = shuffle f.top (pos f.under) (pos (suc r)) (pos s) }

pub same_product_down : (f : Fraction) (r s : ℕ) → IsSame f (record { top = neg_ℤ (f.top *ℤ pos s) *ℤ negsuc r; under = (f.under * suc r) * s })
same_product_down f r s = record {
  crosswise =
      let k = pos (suc r) in
      let m : neg_ℤ (f.top *ℤ pos s) *ℤ neg_ℤ k ≡ (f.top *ℤ pos s) *ℤ k =
      neg_left (f.top *ℤ pos s) (neg_ℤ k) ∙ ap neg_ℤ (neg_right (f.top *ℤ pos s) k) ∙ neg_ℤ-neg_ℤ ((f.top *ℤ pos s) *ℤ k) in
      shuffle f.top (pos f.under) k (pos s) ∙ sym (ap (λ w. w *ℤ pos f.under) m);
}
