-- The difference of two powers is a sum of products of powers times the difference of their bases.
use Rattle.std.proofs.Common.{◌≡◌, ℕ, zero, suc, ◌-◌, ◌<◌, ◌≤◌, [], ◌∷◌, refl, sym, subst, arith}
use Rattle.std.specs.Prelude.{ℤ, pos, negsuc, ◌-ℤ◌, ◌*ℤ◌}
use Rattle.pv_interval.specs.Bounds.{Bounds}
use Rattle.pv_interval.specs.Fractions.{Fraction, plus, times, power}
use Rattle.pv_interval.specs.Points.{LiesIn}
use Rattle.pv_interval.proofs.Keeps.{sum_keeps, product_keeps}
use Rattle.pv_interval.proofs.Powers.{power_keeps}
use Rattle.pv_slope.specs.SlopeTable.{power_term, power_terms}
use Rattle.pv_slope.proofs.Polynomials.{v, n, ◌⊖◌, ◌⊗◌, follows}
use Rattle.pv_slope.proofs.Identities.{powers_begin, powers_more}
use Rattle.pv_slope.proofs.Sums.{cancelled}

-- f^k g^(m-k)
abbrev term_value : Fraction → Fraction → ℕ → ℕ → Fraction
term_value f g m k = times (power f k) (power g (m - k))

abbrev pub terms_value : Fraction → Fraction → ℕ → ℕ → Fraction
terms_value f g m zero = term_value f g m zero
terms_value f g m (suc k) = plus (terms_value f g m k) (term_value f g m (suc k))

term_lies : (f g : Fraction) (x y : Bounds) (m k : ℕ) → LiesIn f x → LiesIn g y → LiesIn (term_value f g m k) (power_term x y m k)
term_lies f g x y m k h l = product_keeps (power f k) (power g (m - k)) _ _ (power_keeps f x k h) (power_keeps g y (m - k) l)

pub terms_lie : (f g : Fraction) (x y : Bounds) (m k : ℕ) → LiesIn f x → LiesIn g y → LiesIn (terms_value f g m k) (power_terms x y m k)
terms_lie f g x y m zero h l = term_lies f g x y m zero h l
terms_lie f g x y m (suc k) h l =
    sum_keeps (terms_value f g m k) (term_value f g m (suc k)) _ _ (terms_lie f g x y m k h l) (term_lies f g x y m (suc k) h l)

-- t (f - g) is a b - c
abbrev Telescopes : Fraction → Fraction → Fraction → Fraction → Fraction → Fraction → Type 0
Telescopes t f g a b c =
    (t.top *ℤ (f.top *ℤ pos g.under -ℤ g.top *ℤ pos f.under)) *ℤ ((pos a.under *ℤ pos b.under) *ℤ pos c.under)
    ≡ ((a.top *ℤ b.top) *ℤ pos c.under -ℤ c.top *ℤ (pos a.under *ℤ pos b.under)) *ℤ (pos t.under *ℤ (pos f.under *ℤ pos g.under))

begins : (f g : Fraction) (m : ℕ) → Telescopes (times (power f 0) (power g m)) f g (power f 1) (power g m) (power g (suc m))
begins f g m = powers_begin f.top (pos f.under) g.top (pos g.under) (power g m).top (pos (power g m).under)

goes_on : (t f g a b c : Fraction) → 0 < g.under → Telescopes t f g a (times b g) c → Telescopes (plus t (times a b)) f g (times a f) b c
goes_on t f g a b c h e =
    cancelled g.under _ _ h
    (powers_more f.top (pos f.under) g.top (pos g.under) t.top a.top (pos a.under) b.top (pos b.under) (pos t.under) c.top (pos c.under) e)

telescopes : (f g : Fraction) (m k i : ℕ) → 0 < g.under → m - k ≡ i → k ≤ m → Telescopes (terms_value f g m k) f g (power f (suc k)) (power g i) (power g (suc m))
telescopes f g m zero i h e l =
    let same : m ≡ m - 0 = omega arith in
    subst (λ j. Telescopes (times (power f 0) (power g (m - 0))) f g (power f 1) (power g j) (power g (suc m))) e
    (subst (λ j. Telescopes (times (power f 0) (power g j)) f g (power f 1) (power g j) (power g (suc m))) same (begins f g m))
telescopes f g m (suc k) i h e l =
    let before : m - k ≡ suc i = omega arith in
    subst (λ j. Telescopes (plus (terms_value f g m k) (times (power f (suc k)) (power g j))) f g (power f (suc (suc k))) (power g i) (power g (suc m))) (sym e)
    (goes_on (terms_value f g m k) f g (power f (suc k)) (power g i) (power g (suc m)) h (telescopes f g m k (suc i) h before (omega arith)))

whole : (t d a b c e q k : ℤ) → (t *ℤ d) *ℤ ((a *ℤ pos 1) *ℤ b) ≡ ((c *ℤ pos 1) *ℤ b -ℤ e *ℤ (a *ℤ pos 1)) *ℤ (q *ℤ k)
    → (c *ℤ b -ℤ e *ℤ a) *ℤ (q *ℤ k) ≡ (t *ℤ d) *ℤ (a *ℤ b)
whole t d a b c e q k x =
    follows (t ∷ d ∷ a ∷ b ∷ c ∷ e ∷ q ∷ k ∷ [])
    ((v 4 ⊗ v 3 ⊖ v 5 ⊗ v 2) ⊗ (v 6 ⊗ v 7)) ((v 0 ⊗ v 1) ⊗ (v 2 ⊗ v 3))
    (
    record {
      by = n (negsuc 0);
      left = (v 0 ⊗ v 1) ⊗ ((v 2 ⊗ n (pos 1)) ⊗ v 3);
      right = ((v 4 ⊗ n (pos 1)) ⊗ v 3 ⊖ v 5 ⊗ (v 2 ⊗ n (pos 1))) ⊗ (v 6 ⊗ v 7);
    }
    ∷ []
    )
    refl (x, tt)

-- f^(m+1) - g^(m+1) is the whole sum times f - g
pub powers_differ : (f g : Fraction) (m : ℕ) → 0 < g.under
    → ((power f (suc m)).top *ℤ pos (power g (suc m)).under -ℤ (power g (suc m)).top *ℤ pos (power f (suc m)).under)
    *ℤ (pos (terms_value f g m m).under *ℤ (pos f.under *ℤ pos g.under))
    ≡ ((terms_value f g m m).top *ℤ (f.top *ℤ pos g.under -ℤ g.top *ℤ pos f.under)) *ℤ (pos (power f (suc m)).under *ℤ pos (power g (suc m)).under)
powers_differ f g m h =
    let t = terms_value f g m m in
    let a = power f (suc m) in
    let c = power g (suc m) in
    whole t.top (f.top *ℤ pos g.under -ℤ g.top *ℤ pos f.under) (pos a.under) (pos c.under) a.top c.top (pos t.under) (pos f.under *ℤ pos g.under)
    (telescopes f g m m 0 h (omega arith) (omega arith))
