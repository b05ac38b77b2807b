-- Numbers of intervals of slopes that lead from one value of a term to another, and how operations combine them.
use Rattle.std.proofs.Common.{◌≡◌, ℕ, zero, suc, ◌*◌, ◌<◌, [], ◌∷◌, refl, ap, sym, ◌∙◌, subst, arith}
use Rattle.std.specs.Prelude.{ℤ, pos, negsuc, ◌+ℤ◌, ◌-ℤ◌, ◌*ℤ◌, Some}
use Rattle.std.proofs.lemmas.Int.{ints}
use lib.IntN.{neg_ℤ}
use Rattle.pv_interval.specs.Bounds.{Bounds}
use Rattle.pv_interval.specs.Fractions.{Fraction, plus, minus, times, over, over_parts, opposite}
use Rattle.pv_interval.specs.Inclusion.{Covers}
use Rattle.pv_interval.specs.Points.{Lies, LiesIn, LiesInSome}
use Rattle.pv_interval.specs.Tables.{sum_of, difference_of, product_of, negated, quotient_of}
use Rattle.pv_interval.proofs.Integers.{neg_right}
use Rattle.pv_interval.proofs.Keeps.{some_times, sum_keeps, difference_keeps, product_keeps, opposite_keeps}
use Rattle.pv_interval.proofs.Orders.{above_down, below_up}
use Rattle.pv_interval.proofs.Quotients.{quotient_keeps}
use Rattle.pv_slope.proofs.Polynomials.{v, n, ◌⊕◌, ◌⊖◌, ◌⊗◌, minus as minus_of, alike}
use Rattle.pv_slope.proofs.Identities.{IsBy, sum_row, difference_row, product_row, quotient_row, same_row, scaled_row, negation_row}
use Rattle.pv_slope.proofs.Sums.{dot, dot_linear, dot_scaled, cancelled}

-- two fractions of one value
abbrev pub Same : Fraction → Fraction → Type 0
Same f g = f.top *ℤ pos g.under ≡ g.top *ℤ pos f.under

-- a number of the same value lies in the same intervals
pub same_lies : (f g : Fraction) (x : Bounds) → 0 < g.under → Same f g → LiesIn f x → LiesIn g x
same_lies f g x h e l = record {
  some = h;
  low = below_up x.lo f.top g.top f.under g.under l.some (omega (arith, ints)) l.low;
  high = above_down x.hi f.top g.top f.under g.under l.some (omega (arith, ints)) l.high;
}

-- v - w is the sum of the first k changes d i / u, each times some number of s i
pub record Joins (s : ℕ → Bounds) (f g : Fraction) (k : ℕ) (d : ℕ → ℤ) (u : ℕ) : Type 0 where
  pub tops : ℕ → ℤ
  pub under : ℕ
  pub some : 0 < under
  pub each : (i : ℕ) → Lies (tops i) under (s i)
  pub exact : IsBy f.top (pos f.under) g.top (pos g.under) (pos under) (pos u) (dot k tops d)

-- the number for variable i
abbrev pub slope : {s : ℕ → Bounds} {f g : Fraction} {k : ℕ} {d : ℕ → ℤ} {u : ℕ} → Joins s f g k d u → ℕ → Fraction
slope x i = record { top = x.tops i; under = x.under }

-- ---- sums, differences, products

pub sum_joins : (s t : ℕ → Bounds) (f g h j : Fraction) (k : ℕ) (d : ℕ → ℤ) (u : ℕ) → Joins s f g k d u → Joins t h j k d u
    → Joins (λ i. sum_of (s i) (t i)) (plus f h) (plus g j) k d u
sum_joins s t f g h j k d u x y = record {
  tops = λ i. x.tops i *ℤ pos y.under +ℤ y.tops i *ℤ pos x.under;
  under = x.under * y.under;
  some = some_times x.under y.under x.some y.some;
  each = λ i. sum_keeps (slope x i) (slope y i) (s i) (t i) (x.each i) (y.each i);
  exact = subst (IsBy (plus f h).top (pos (f.under * h.under)) (plus g j).top (pos (g.under * j.under)) (pos (x.under * y.under)) (pos u))
      (sym (dot_linear k x.tops y.tops (λ i. x.tops i *ℤ pos y.under +ℤ y.tops i *ℤ pos x.under) d (pos y.under) (pos x.under) (λ i. refl)))
      (sum_row f.top (pos f.under) g.top (pos g.under) (pos x.under) (pos u) (dot k x.tops d) h.top (pos h.under) j.top (pos j.under) (pos y.under) (dot k y.tops d) x.exact y.exact);
}

pub difference_joins : (s t : ℕ → Bounds) (f g h j : Fraction) (k : ℕ) (d : ℕ → ℤ) (u : ℕ) → Joins s f g k d u → Joins t h j k d u
    → Joins (λ i. difference_of (s i) (t i)) (minus f h) (minus g j) k d u
difference_joins s t f g h j k d u x y = record {
  tops = λ i. x.tops i *ℤ pos y.under -ℤ y.tops i *ℤ pos x.under;
  under = x.under * y.under;
  some = some_times x.under y.under x.some y.some;
  each = λ i. difference_keeps (slope x i) (slope y i) (s i) (t i) (x.each i) (y.each i);
  exact = subst (IsBy (minus f h).top (pos (f.under * h.under)) (minus g j).top (pos (g.under * j.under)) (pos (x.under * y.under)) (pos u))
      (sym (dot_linear k x.tops y.tops (λ i. x.tops i *ℤ pos y.under -ℤ y.tops i *ℤ pos x.under) d (pos y.under) (neg_ℤ (pos x.under))
      (λ i. ap (λ z. x.tops i *ℤ pos y.under +ℤ z) (sym (neg_right (y.tops i) (pos x.under))))))
      (difference_row f.top (pos f.under) g.top (pos g.under) (pos x.under) (pos u) (dot k x.tops d) h.top (pos h.under) j.top (pos j.under) (pos y.under) (dot k y.tops d) x.exact y.exact);
}

-- the slope of a product
turned : (a b h m g o x y : ℤ) → (a *ℤ y) *ℤ (h *ℤ m) +ℤ (g *ℤ x) *ℤ (b *ℤ o) ≡ y *ℤ (a *ℤ (h *ℤ m)) +ℤ x *ℤ (g *ℤ (b *ℤ o))
turned a b h m g o x y =
    alike (a ∷ b ∷ h ∷ m ∷ g ∷ o ∷ x ∷ y ∷ [])
    ((v 0 ⊗ v 7) ⊗ (v 2 ⊗ v 3) ⊕ (v 4 ⊗ v 6) ⊗ (v 1 ⊗ v 5)) (v 7 ⊗ (v 0 ⊗ (v 2 ⊗ v 3)) ⊕ v 6 ⊗ (v 4 ⊗ (v 1 ⊗ v 5))) refl

pub product_joins : (s t : ℕ → Bounds) (f g h j : Fraction) (k : ℕ) (d : ℕ → ℤ) (u : ℕ) (a b : Bounds) → LiesIn f a → LiesIn j b
    → Joins s f g k d u → Joins t h j k d u → Joins (λ i. sum_of (product_of a (t i)) (product_of b (s i))) (times f h) (times g j) k d u
product_joins s t f g h j k d u a b l m x y =
    let tops : ℕ → ℤ = λ i. (f.top *ℤ y.tops i) *ℤ pos (j.under * x.under) +ℤ (j.top *ℤ x.tops i) *ℤ pos (f.under * y.under) in
    let under : ℕ = (f.under * y.under) * (j.under * x.under) in
    record {
      tops = tops;
      under = under;
      some = some_times (f.under * y.under) (j.under * x.under) (some_times f.under y.under l.some y.some) (some_times j.under x.under m.some x.some);
      each = λ i. sum_keeps (times f (slope y i)) (times j (slope x i)) (product_of a (t i)) (product_of b (s i))
          (product_keeps f (slope y i) a (t i) l (y.each i)) (product_keeps j (slope x i) b (s i) m (x.each i));
      exact = subst (IsBy (times f h).top (pos (f.under * h.under)) (times g j).top (pos (g.under * j.under)) (pos under) (pos u))
          (sym (dot_linear k y.tops x.tops tops d (f.top *ℤ pos (j.under * x.under)) (j.top *ℤ pos (f.under * y.under))
          (λ i. turned f.top (pos f.under) (pos j.under) (pos x.under) j.top (pos y.under) (x.tops i) (y.tops i))))
          (product_row f.top (pos f.under) g.top (pos g.under) (pos x.under) (pos u) (dot k x.tops d) h.top (pos h.under) j.top (pos j.under) (pos y.under) (dot k y.tops d) x.exact y.exact);
    }

pub negation_joins : (s : ℕ → Bounds) (f g : Fraction) (k : ℕ) (d : ℕ → ℤ) (u : ℕ) → Joins s f g k d u → Joins (λ i. negated (s i)) (opposite f) (opposite g) k d u
negation_joins s f g k d u x = record {
  tops = λ i. neg_ℤ (x.tops i);
  under = x.under;
  some = x.some;
  each = λ i. opposite_keeps (slope x i) (s i) (x.each i);
  exact = subst (IsBy (neg_ℤ f.top) (pos f.under) (neg_ℤ g.top) (pos g.under) (pos x.under) (pos u))
      (sym (dot_scaled k x.tops (λ i. neg_ℤ (x.tops i)) d (negsuc 0) (λ i. alike (x.tops i ∷ []) (minus_of (v 0)) (v 0 ⊗ n (negsuc 0)) refl)))
      (negation_row f.top (pos f.under) g.top (pos g.under) (pos x.under) (pos u) (dot k x.tops d) x.exact);
}

-- ---- other values, other intervals

pub same_joins : (s : ℕ → Bounds) (f g h j : Fraction) (k : ℕ) (d : ℕ → ℤ) (u : ℕ) → 0 < f.under → 0 < g.under → Same f h → Same g j
    → Joins s f g k d u → Joins s h j k d u
same_joins s f g h j k d u p q e i x = record {
  tops = x.tops;
  under = x.under;
  some = x.some;
  each = x.each;
  exact = cancelled (f.under * g.under) _ _ (some_times f.under g.under p q)
      (same_row f.top (pos f.under) g.top (pos g.under) (pos x.under) (pos u) (dot k x.tops d) h.top (pos h.under) j.top (pos j.under) x.exact e i);
}

pub covered_joins : (s t : ℕ → Bounds) (f g : Fraction) (k : ℕ) (d : ℕ → ℤ) (u : ℕ) → ((i : ℕ) → Covers (s i) (t i)) → Joins s f g k d u → Joins t f g k d u
covered_joins s t f g k d u c x = record { tops = x.tops; under = x.under; some = x.some; each = λ i. c i (slope x i) (x.each i); exact = x.exact }

-- a factor z of the slopes that has some number e
pub scaled_joins : (s : ℕ → Bounds) (f g h j e : Fraction) (k : ℕ) (d : ℕ → ℤ) (u : ℕ) (z : Bounds) → 0 < f.under → 0 < g.under → LiesIn e z
    → (h.top *ℤ pos j.under -ℤ j.top *ℤ pos h.under) *ℤ (pos e.under *ℤ (pos f.under *ℤ pos g.under)) ≡ (e.top *ℤ (f.top *ℤ pos g.under -ℤ g.top *ℤ pos f.under)) *ℤ (pos h.under *ℤ pos j.under)
    → Joins s f g k d u → Joins (λ i. product_of z (s i)) h j k d u
scaled_joins s f g h j e k d u z p q l i x = record {
  tops = λ i. e.top *ℤ x.tops i;
  under = e.under * x.under;
  some = some_times e.under x.under l.some x.some;
  each = λ i. product_keeps e (slope x i) z (s i) l (x.each i);
  exact = subst (IsBy h.top (pos h.under) j.top (pos j.under) (pos (e.under * x.under)) (pos u))
      (sym (dot_scaled k x.tops (λ i. e.top *ℤ x.tops i) d e.top (λ i. alike (e.top ∷ x.tops i ∷ []) (v 0 ⊗ v 1) (v 1 ⊗ v 0) refl)))
      (cancelled (f.under * g.under) _ _ (some_times f.under g.under p q)
      (scaled_row f.top (pos f.under) g.top (pos g.under) (pos x.under) (pos u) (dot k x.tops d) h.top (pos h.under) j.top (pos j.under) (pos e.under) e.top x.exact i));
}

-- ---- quotients

-- what every fraction is multiplied by to be divided by g
pub record IsInverse (g : Fraction) : Type 0 where
  pub top : ℤ
  pub under : ℕ
  pub some : 0 < under
  pub exact : g.top *ℤ top ≡ pos under *ℤ pos g.under
  pub by : (f : Fraction) → over f g ≡ Some (record { top = f.top *ℤ top; under = f.under * under })

inverse_parts : (a : ℤ) (d : ℕ) (f h : Fraction) → over_parts f a d ≡ Some h → IsInverse (record { top = a; under = d })
inverse_parts (pos zero) d f h e = absurd (cc)
inverse_parts (pos (suc r)) d f h e = record { top = pos d; under = suc r; some = omega arith; exact = refl; by = λ g. refl }
inverse_parts (negsuc r) d f h e = record {
  top = neg_ℤ (pos d);
  under = suc r;
  some = omega arith;
  exact = alike (pos (suc r) ∷ pos d ∷ []) (minus_of (v 0) ⊗ minus_of (v 1)) (v 0 ⊗ v 1) refl;
  by = λ g. ap (λ z. Some (record { top = z; under = g.under * suc r })) (sym (neg_right g.top (pos d)));
}

pub inverse_of : (f g h : Fraction) → over f g ≡ Some h → IsInverse g
inverse_of f g h e = inverse_parts g.top g.under f h e

spread : (c t m o s x y : ℤ) → (x *ℤ o -ℤ ((c *ℤ t) *ℤ y) *ℤ m) *ℤ s ≡ x *ℤ (o *ℤ s) +ℤ y *ℤ neg_ℤ (((c *ℤ t) *ℤ m) *ℤ s)
spread c t m o s x y =
    alike (c ∷ t ∷ m ∷ o ∷ s ∷ x ∷ y ∷ [])
    ((v 5 ⊗ v 3 ⊖ ((v 0 ⊗ v 1) ⊗ v 6) ⊗ v 2) ⊗ v 4) (v 5 ⊗ (v 3 ⊗ v 4) ⊕ v 6 ⊗ minus_of (((v 0 ⊗ v 1) ⊗ v 2) ⊗ v 4)) refl

-- a is the quotient's interval at the second point, b the divisor's at the first; r i is the quotient of slopes
pub quotient_joins : (s t r : ℕ → Bounds) (f g h j p q : Fraction) (k : ℕ) (d : ℕ → ℤ) (u : ℕ) (a b : Bounds) → over f h ≡ Some p → over g j ≡ Some q
    → 0 < h.under → 0 < j.under → LiesIn q a → LiesIn h b
    → ((i : ℕ) (e : Fraction) → LiesInSome e.top e.under (quotient_of (difference_of (s i) (product_of a (t i))) b) → LiesIn e (r i))
    → Joins s f g k d u → Joins t h j k d u → Joins r p q k d u
quotient_joins s t r f g h j p q k d u a b ep eq hu ju l m known x y =
    let ih = inverse_of f h p ep in
    let ij = inverse_of g j q eq in
    let first : Fraction = record { top = f.top *ℤ ih.top; under = f.under * ih.under } in
    let second : Fraction = record { top = g.top *ℤ ij.top; under = g.under * ij.under } in
    let p_is : first ≡ p = same (sym (ih.by f) ∙ ep) in
    let q_is : second ≡ q = same (sym (ij.by g) ∙ eq) in
    let tops : ℕ → ℤ = λ i. (x.tops i *ℤ pos (second.under * y.under) -ℤ (second.top *ℤ y.tops i) *ℤ pos x.under) *ℤ ih.top in
    let under : ℕ = (x.under * (second.under * y.under)) * ih.under in
    let part : ℕ → Fraction = λ i. minus (slope x i) (times second (slope y i)) in
    subst (λ z. Joins r z q k d u) p_is (subst (λ z. Joins r first z k d u) q_is (record {
      tops = tops;
      under = under;
      some = some_times (x.under * (second.under * y.under)) ih.under (some_times x.under (second.under * y.under) x.some (some_times second.under y.under (subst (λ (z : Fraction). 0 < z.under) (sym q_is) l.some) y.some)) ih.some;
      each = λ i. known i (record { top = tops i; under = under })
          (quotient_keeps (part i) h (record { top = tops i; under = under }) (difference_of (s i) (product_of a (t i))) b (ih.by (part i))
          (difference_keeps (slope x i) (times second (slope y i)) (s i) (product_of a (t i)) (x.each i)
          (product_keeps second (slope y i) a (t i) (subst (λ z. LiesIn z a) (sym q_is) l) (y.each i))) m);
      exact = subst (IsBy first.top (pos first.under) second.top (pos second.under) (pos under) (pos u))
          (sym (dot_linear k x.tops y.tops tops d (pos (second.under * y.under) *ℤ ih.top) (neg_ℤ (((g.top *ℤ ij.top) *ℤ pos x.under) *ℤ ih.top))
          (λ i. spread g.top ij.top (pos x.under) (pos (second.under * y.under)) ih.top (x.tops i) (y.tops i))))
          (cancelled (h.under * j.under) _ _ (some_times h.under j.under hu ju)
          (quotient_row f.top (pos f.under) g.top (pos g.under) (pos x.under) (pos u) (dot k x.tops d) h.top (pos h.under) j.top (pos j.under) (pos y.under) (dot k y.tops d)
          (pos ih.under) ih.top ij.top (pos ij.under) x.exact y.exact ih.exact ij.exact));
    }))
  where
    same : {f g : Fraction} → Some f ≡ Some g → f ≡ g
    same e = cc
