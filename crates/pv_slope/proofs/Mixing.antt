-- Values of one term at one point and of another at the other: their difference lies between those of the two terms.
use Rattle.std.proofs.Common.{◌≡◌, ℕ, zero, suc, ◌+◌, ◌*◌, ◌<◌, [], ◌∷◌, refl, ap, sym, ◌∙◌, subst, arith}
use Rattle.std.specs.Prelude.{ℤ, pos, negsuc, ◌+ℤ◌, ◌-ℤ◌, ◌*ℤ◌, ◌≤ℤ◌, unsigned_abs}
use Rattle.std.proofs.lemmas.Int.{ints}
use Rattle.pv_num.specs.Grid.{unit}
use Rattle.pv_num.specs.Extended.{Extended, NegInf, Fin, PosInf}
use Rattle.pv_interval.specs.Bounds.{Bounds}
use Rattle.pv_interval.specs.Fractions.{Fraction}
use Rattle.pv_interval.specs.Inclusion.{Covers}
use Rattle.pv_interval.specs.Points.{IsBelow, IsAbove, LiesIn}
use Rattle.pv_interval.proofs.Integers.{times_assoc}
use Rattle.pv_interval.proofs.Keeps.{some_times}
use Rattle.pv_interval.proofs.Orders.{size_from}
use Rattle.pv_interval.proofs.Products.{times_pos}
use Rattle.pv_slope.proofs.Polynomials.{v, ◌⊕◌, ◌⊗◌, alike}
use Rattle.pv_slope.proofs.Identities.{IsBy, mixed_row}
use Rattle.pv_slope.proofs.Sums.{dot, dot_linear, cancelled}
use Rattle.pv_slope.proofs.Joining.{Same, Joins, slope, same_joins, covered_joins}

-- r f + t g over r + t
abbrev pub mixture : Fraction → Fraction → ℕ → ℕ → Fraction
mixture f g r t = record {
  top = f.top *ℤ (pos r *ℤ pos g.under) +ℤ g.top *ℤ (pos t *ℤ pos f.under);
  under = (r + t) * (f.under * g.under);
}

mixed_end : (e m n b d r t : ℤ) → e *ℤ ((r +ℤ t) *ℤ (b *ℤ d)) ≡ (e *ℤ b) *ℤ (r *ℤ d) +ℤ (e *ℤ d) *ℤ (t *ℤ b)
mixed_end e m n b d r t =
    alike (e ∷ b ∷ d ∷ r ∷ t ∷ []) (v 0 ⊗ ((v 3 ⊕ v 4) ⊗ (v 1 ⊗ v 2))) ((v 0 ⊗ v 1) ⊗ (v 3 ⊗ v 2) ⊕ (v 0 ⊗ v 2) ⊗ (v 4 ⊗ v 1)) refl

mixed_units : (m n b d r t u : ℤ) → (m *ℤ (r *ℤ d) +ℤ n *ℤ (t *ℤ b)) *ℤ u ≡ (m *ℤ u) *ℤ (r *ℤ d) +ℤ (n *ℤ u) *ℤ (t *ℤ b)
mixed_units m n b d r t u =
    alike (m ∷ n ∷ b ∷ d ∷ r ∷ t ∷ u ∷ [])
    ((v 0 ⊗ (v 4 ⊗ v 3) ⊕ v 1 ⊗ (v 5 ⊗ v 2)) ⊗ v 6) ((v 0 ⊗ v 6) ⊗ (v 4 ⊗ v 3) ⊕ (v 1 ⊗ v 6) ⊗ (v 5 ⊗ v 2)) refl

mixed_below : (e : Extended) (m n : ℤ) (b d r t : ℕ) → IsBelow e m b → IsBelow e n d → IsBelow e (m *ℤ (pos r *ℤ pos d) +ℤ n *ℤ (pos t *ℤ pos b)) ((r + t) * (b * d))
mixed_below NegInf m n b d r t h k = tt
mixed_below (Fin e) m n b d r t h k =
    let f = mixed_end e m n (pos b) (pos d) (pos r) (pos t) in
    let g = mixed_units m n (pos b) (pos d) (pos r) (pos t) (pos unit) in
    let i = times_pos (r * d) (e *ℤ pos b) (m *ℤ pos unit) h in
    let j = times_pos (t * b) (e *ℤ pos d) (n *ℤ pos unit) k in
    omega (arith, ints)
mixed_below PosInf m n b d r t h k = absurd h

mixed_above : (e : Extended) (m n : ℤ) (b d r t : ℕ) → IsAbove e m b → IsAbove e n d → IsAbove e (m *ℤ (pos r *ℤ pos d) +ℤ n *ℤ (pos t *ℤ pos b)) ((r + t) * (b * d))
mixed_above NegInf m n b d r t h k = absurd h
mixed_above (Fin e) m n b d r t h k =
    let f = mixed_end e m n (pos b) (pos d) (pos r) (pos t) in
    let g = mixed_units m n (pos b) (pos d) (pos r) (pos t) (pos unit) in
    let i = times_pos (r * d) (m *ℤ pos unit) (e *ℤ pos b) h in
    let j = times_pos (t * b) (n *ℤ pos unit) (e *ℤ pos d) k in
    omega (arith, ints)
mixed_above PosInf m n b d r t h k = tt

-- an interval holds what lies between its numbers
pub mixture_lies : (f g : Fraction) (r t : ℕ) (x : Bounds) → 0 < r + t → LiesIn f x → LiesIn g x → LiesIn (mixture f g r t) x
mixture_lies f g r t x h l m = record {
  some = some_times (r + t) (f.under * g.under) h (some_times f.under g.under l.some m.some);
  low = mixed_below x.lo f.top g.top f.under g.under r t l.low m.low;
  high = mixed_above x.hi f.top g.top f.under g.under r t l.high m.high;
}

mixed : (s t r : ℕ → Bounds) (f g h j : Fraction) (k : ℕ) (d : ℕ → ℤ) (u : ℕ) (e : ℤ) (p q : ℕ) → 0 < g.under → 0 < h.under → 0 < p + q
    → pos q ≡ e *ℤ ((g.top *ℤ pos j.under -ℤ j.top *ℤ pos g.under) *ℤ (pos f.under *ℤ pos h.under))
    → pos p ≡ e *ℤ ((h.top *ℤ pos f.under -ℤ f.top *ℤ pos h.under) *ℤ (pos g.under *ℤ pos j.under))
    → ((i : ℕ) → Covers (s i) (r i)) → ((i : ℕ) → Covers (t i) (r i)) → Joins s f g k d u → Joins t h j k d u → Joins r f j k d u
mixed s t r f g h j k d u e p q gu hu some qe pe cs ct x y = record {
  tops = λ i. x.tops i *ℤ (pos p *ℤ pos y.under) +ℤ y.tops i *ℤ (pos q *ℤ pos x.under);
  under = (p + q) * (x.under * y.under);
  some = some_times (p + q) (x.under * y.under) some (some_times x.under y.under x.some y.some);
  each = λ i. mixture_lies (slope x i) (slope y i) p q (r i) some (cs i (slope x i) (x.each i)) (ct i (slope y i) (y.each i));
  exact = subst (IsBy f.top (pos f.under) j.top (pos j.under) (pos ((p + q) * (x.under * y.under))) (pos u))
      (sym (dot_linear k x.tops y.tops (λ i. x.tops i *ℤ (pos p *ℤ pos y.under) +ℤ y.tops i *ℤ (pos q *ℤ pos x.under)) d (pos p *ℤ pos y.under) (pos q *ℤ pos x.under) (λ i. refl)))
      (cancelled (g.under * h.under) _ _ (some_times g.under h.under gu hu)
      (mixed_row f.top (pos f.under) g.top (pos g.under) (pos x.under) (pos u) (dot k x.tops d) h.top (pos h.under) j.top (pos j.under) (pos y.under) (dot k y.tops d) (pos p) e (pos q) x.exact y.exact qe pe));
}

weight : (a e x : ℤ) (m : ℕ) → a ≡ e *ℤ x → pos 0 ≤ℤ a → pos (unsigned_abs a * m) ≡ e *ℤ (x *ℤ pos m)
weight a e x m h l = ap (λ z. z *ℤ pos m) (size_from a l ∙ h) ∙ times_assoc e x (pos m)

-- f and h are the values of two terms at the first point, g and j at the second; y = h - f and x = g - j have one sign e
pub mixed_joins : (s t r : ℕ → Bounds) (f g h j : Fraction) (k : ℕ) (d : ℕ → ℤ) (u : ℕ) (e x y : ℤ) → 0 < f.under → 0 < g.under → 0 < h.under → 0 < j.under
    → x ≡ e *ℤ (g.top *ℤ pos j.under -ℤ j.top *ℤ pos g.under) → y ≡ e *ℤ (h.top *ℤ pos f.under -ℤ f.top *ℤ pos h.under)
    → pos 0 ≤ℤ x → pos 0 ≤ℤ y → (x ≡ pos 0 → Same g j)
    → ((i : ℕ) → Covers (s i) (r i)) → ((i : ℕ) → Covers (t i) (r i)) → Joins s f g k d u → Joins t h j k d u → Joins r f j k d u
mixed_joins s t r f g h j k d u e (negsuc a) y fu gu hu ju xe ye xl yl z cs ct p q = absurd (omega (arith, ints))
mixed_joins s t r f g h j k d u e (pos zero) y fu gu hu ju xe ye xl yl z cs ct p q =
    covered_joins s r f j k d u cs (same_joins s f g f j k d u fu gu refl (z refl) p)
mixed_joins s t r f g h j k d u e (pos (suc a)) y fu gu hu ju xe ye xl yl z cs ct p q =
    let m = f.under * h.under in
    let n = g.under * j.under in
    mixed s t r f g h j k d u e (unsigned_abs y * n) (suc a * m) gu hu
    (let i = some_times (suc a) m (omega arith) (some_times f.under h.under fu hu) in omega arith)
    (weight (pos (suc a)) e _ m xe xl) (weight y e _ n ye yl) cs ct p q
