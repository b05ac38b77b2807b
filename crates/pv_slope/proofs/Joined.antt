-- The rows of the table of slopes lead from the values at the centre to those at a point.
use Rattle.std.proofs.Common.{◌≡◌, ℕ, zero, suc, ◌*◌, ◌<◌, refl, ap, sym, ◌∙◌, subst, arith, [], ◌∷◌}
use Rattle.std.specs.Prelude.{ℤ, pos, negsuc, ◌-ℤ◌, ◌*ℤ◌, ◌≤ℤ◌, Option, Some, None, Bool, true, false, cond, nat_eq, if◌then◌else◌}
use Rattle.std.proofs.lemmas.Int.{ints, by_lt_z}
use Rattle.pv_num.specs.Order.{le}
use Rattle.pv_interval.specs.Bounds.{Bounds}
use Rattle.pv_interval.specs.Fractions.{Fraction, opposite, size, power, over, below, least, greatest}
use Rattle.pv_interval.specs.Points.{Lies, LiesIn, LiesInSome}
use Rattle.pv_interval.specs.Tables as table
use Rattle.pv_interval.proofs.Multiples.{below_zero, above_zero}
use Rattle.pv_interval.proofs.Orders.{cond_keeps, lt_fact, not_lt_fact, size_from, size_to, hull_keeps_left, hull_keeps_right}
use Rattle.pv_interval.proofs.Values.{below_le, above_le}
use Rattle.pv_hc4.proofs.Comparing.{through_end}
use Rattle.pv_slope.specs.Centres.{known}
use Rattle.pv_slope.specs.SlopeTable.{zero_slope, one_slope, either_slope, power_factor, power_slope, absolute_slope, least_slope, greatest_slope, quotient_slope}
use Rattle.pv_slope.proofs.Polynomials.{v, n, ◌⊗◌, ◌⊖◌, alike}
use Rattle.pv_slope.proofs.Identities.{IsBy}
use Rattle.pv_slope.proofs.Sums.{dot_zero, dot_only, only}
use Rattle.pv_slope.proofs.Joining.{Same, Joins, same_joins, covered_joins, scaled_joins, negation_joins, quotient_joins}
use Rattle.pv_slope.proofs.Mixing.{mixed_joins}
use Rattle.pv_slope.proofs.Raising.{terms_value, terms_lie, powers_differ}
use Rattle.pv_slope.proofs.Turning.{turn}
use Rattle.pv_num.proofs.Orders.{both_le}

pub in_known : (e : ℤ) (d : ℕ) (o : Option Bounds) → LiesInSome e d o → Lies e d (known o)
in_known e d None h = absurd h
in_known e d (Some x) h = h

-- ---- constants and variables

zero_lies : Lies (pos 0) 1 zero_slope
zero_lies = record { some = omega arith; low = omega (arith, ints); high = omega (arith, ints) }

one_lies : Lies (pos 1) 1 one_slope
one_lies = record { some = omega arith; low = omega (arith, ints); high = omega (arith, ints) }

pub constant_joins : (f : Fraction) (k : ℕ) (d : ℕ → ℤ) (u : ℕ) → Joins (λ i. zero_slope) f f k d u
constant_joins f k d u = record {
  tops = λ i. pos 0;
  under = 1;
  some = omega arith;
  each = λ i. zero_lies;
  exact = subst (IsBy f.top (pos f.under) f.top (pos f.under) (pos 1) (pos u)) (sym (dot_zero k d))
      (alike (f.top ∷ pos f.under ∷ pos u ∷ []) ((v 0 ⊗ v 1 ⊖ v 0 ⊗ v 1) ⊗ (n (pos 1) ⊗ v 2)) (n (pos 0) ⊗ (v 1 ⊗ v 1)) refl);
}

place_lies : (t : Bool) → Lies (cond t (pos 1) (pos 0)) 1 (if t then one_slope else zero_slope)
place_lies true = one_lies
place_lies false = zero_lies

pub place_joins : (a c : ℤ) (x y k j : ℕ) (d : ℕ → ℤ) → j < k → d j ≡ a *ℤ pos y -ℤ c *ℤ pos x
    → Joins (λ i. if nat_eq i j then one_slope else zero_slope) (record { top = a; under = x }) (record { top = c; under = y }) k d (x * y)
place_joins a c x y k j d h e = record {
  tops = only j;
  under = 1;
  some = omega arith;
  each = λ i. place_lies (nat_eq i j);
  exact = subst (IsBy a (pos x) c (pos y) (pos 1) (pos (x * y))) (sym (dot_only k j d h ∙ e))
      (alike (a ∷ c ∷ pos x ∷ pos y ∷ []) ((v 0 ⊗ v 3 ⊖ v 1 ⊗ v 2) ⊗ (n (pos 1) ⊗ (v 2 ⊗ v 3))) ((v 0 ⊗ v 3 ⊖ v 1 ⊗ v 2) ⊗ (v 2 ⊗ v 3)) refl);
}

-- ---- powers and absolute values

pub power_joins : (s : ℕ → Bounds) (f g : Fraction) (k : ℕ) (d : ℕ → ℤ) (u : ℕ) (x y : Bounds) (m : ℕ) → LiesIn f x → LiesIn g y
    → Joins s f g k d u → Joins (λ i. power_slope x y (s i) m) (power f m) (power g m) k d u
power_joins s f g k d u x y zero h l j = constant_joins (power f 0) k d u
power_joins s f g k d u x y (suc m) h l j =
    scaled_joins s f g (power f (suc m)) (power g (suc m)) (terms_value f g m m) k d u (power_factor x y (suc m)) h.some l.some
    (terms_lie f g x y m m h l) (powers_differ f g m l.some) j

size_same : (f : Fraction) → pos 0 ≤ℤ f.top → f ≡ size f
size_same f h = ap (λ z. record { top = z; under = f.under }) (sym (size_from f.top h))

size_turned : (f : Fraction) → f.top ≤ℤ pos 0 → opposite f ≡ size f
size_turned f h = ap (λ z. record { top = z; under = f.under }) (sym (size_to f.top h))

pub absolute_joins : (s : ℕ → Bounds) (f g : Fraction) (k : ℕ) (d : ℕ → ℤ) (u : ℕ) (x : Bounds) → LiesIn f x → LiesIn g x
    → Joins s f g k d u → Joins (λ i. absolute_slope x (s i)) (size f) (size g) k d u
absolute_joins s f g k d u x h l j = go (table.is_from_nought x) (table.is_to_nought x) refl refl
  where
    go : (p q : Bool) → table.is_from_nought x ≡ p → table.is_to_nought x ≡ q
        → Joins (λ i. if p then s i else if q then table.negated (s i) else table.product_of either_slope (s i)) (size f) (size g) k d u
    go true q e i =
        let a = size_same f (below_zero f.top f.under (below_le table.nought x.lo f.top f.under e h.low)) in
        let b = size_same g (below_zero g.top g.under (below_le table.nought x.lo g.top g.under e l.low)) in
        subst (λ w. Joins s w (size g) k d u) a (subst (λ w. Joins s f w k d u) b j)
    go false true e i =
        let a = size_turned f (above_zero f.top f.under (above_le x.hi table.nought f.top f.under i h.high)) in
        let b = size_turned g (above_zero g.top g.under (above_le x.hi table.nought g.top g.under i l.high)) in
        let t : ℕ → Bounds = λ i. table.negated (s i) in
        subst (λ w. Joins t w (size g) k d u) a (subst (λ w. Joins t (opposite f) w k d u) b (negation_joins s f g k d u j))
    go false false e i =
        let t = turn f g in
        scaled_joins s f g (size f) (size g) t.by k d u either_slope h.some l.some t.lies t.exact j

-- ---- the lesser and the greater of two

-- f is at most g
abbrev AtMost : Fraction → Fraction → Type 0
AtMost f g = (f.top *ℤ pos g.under) ≤ℤ (g.top *ℤ pos f.under)

at_most : (f g : Fraction) (x y : Bounds) → le x.hi y.lo ≡ true → LiesIn f x → LiesIn g y → AtMost f g
at_most f g x y t h l = through_end x.hi f.top g.top f.under g.under h.some l.some h.high (below_le x.hi y.lo g.top g.under t l.low)

least_first : (f g : Fraction) → AtMost f g → Same f (least f g)
least_first f g h =
    cond_keeps (Same f) (below g f) g f
    (λ e. both_le _ _ h (lt_fact (g.top *ℤ pos f.under) (f.top *ℤ pos g.under) e))
    (λ e. refl)

least_second : (f g : Fraction) → AtMost g f → Same g (least f g)
least_second f g h =
    cond_keeps (Same g) (below g f) g f
    (λ e. refl)
    (λ e. both_le _ _ h (not_lt_fact (g.top *ℤ pos f.under) (f.top *ℤ pos g.under) e))

greatest_first : (f g : Fraction) → AtMost g f → Same f (greatest f g)
greatest_first f g h =
    cond_keeps (Same f) (below f g) g f
    (λ e. both_le _ _ (lt_fact (f.top *ℤ pos g.under) (g.top *ℤ pos f.under) e) h)
    (λ e. refl)

greatest_second : (f g : Fraction) → AtMost f g → Same g (greatest f g)
greatest_second f g h =
    cond_keeps (Same g) (below f g) g f
    (λ e. refl)
    (λ e. both_le _ _ (not_lt_fact (f.top *ℤ pos g.under) (g.top *ℤ pos f.under) e) h)

-- one of two is at most the other
by_order : {P : Type 0} (f g : Fraction) → (AtMost f g → P) → (AtMost g f → P) → P
by_order f g p q = by_lt_z (f.top *ℤ pos g.under) (g.top *ℤ pos f.under) (λ h. p (omega (arith, ints))) (λ h. q h)

up : (a b : ℤ) → b ≤ℤ a → pos 0 ≤ℤ (a -ℤ b)
up a b h = omega (arith, ints)

apart : (a b : ℤ) → (a -ℤ b) ≡ pos 0 → a ≡ b
apart a b h = omega (arith, ints)

as_one : (a b : ℤ) → (a -ℤ b) ≡ pos 1 *ℤ (a -ℤ b)
as_one a b = alike (a ∷ b ∷ []) (v 0 ⊖ v 1) (n (pos 1) ⊗ (v 0 ⊖ v 1)) refl

as_other : (a b : ℤ) → (b -ℤ a) ≡ negsuc 0 *ℤ (a -ℤ b)
as_other a b = alike (a ∷ b ∷ []) (v 1 ⊖ v 0) (n (negsuc 0) ⊗ (v 0 ⊖ v 1)) refl

-- f is the lesser at the first point, and j at the second
low_mixed : (s t r : ℕ → Bounds) (f g h j : Fraction) (k : ℕ) (d : ℕ → ℤ) (u : ℕ) → 0 < f.under → 0 < g.under → 0 < h.under → 0 < j.under
    → AtMost f h → AtMost j g → ((i : ℕ) (e : Fraction) → LiesIn e (s i) → LiesIn e (r i)) → ((i : ℕ) (e : Fraction) → LiesIn e (t i) → LiesIn e (r i))
    → Joins s f g k d u → Joins t h j k d u → Joins r f j k d u
low_mixed s t r f g h j k d u fu gu hu ju p q cs ct x y =
    mixed_joins s t r f g h j k d u (pos 1) _ _ fu gu hu ju
    (as_one (g.top *ℤ pos j.under) (j.top *ℤ pos g.under)) (as_one (h.top *ℤ pos f.under) (f.top *ℤ pos h.under))
    (up (g.top *ℤ pos j.under) (j.top *ℤ pos g.under) q) (up (h.top *ℤ pos f.under) (f.top *ℤ pos h.under) p)
    (apart (g.top *ℤ pos j.under) (j.top *ℤ pos g.under)) cs ct x y

-- f is the greater at the first point, and j at the second
high_mixed : (s t r : ℕ → Bounds) (f g h j : Fraction) (k : ℕ) (d : ℕ → ℤ) (u : ℕ) → 0 < f.under → 0 < g.under → 0 < h.under → 0 < j.under
    → AtMost h f → AtMost g j → ((i : ℕ) (e : Fraction) → LiesIn e (s i) → LiesIn e (r i)) → ((i : ℕ) (e : Fraction) → LiesIn e (t i) → LiesIn e (r i))
    → Joins s f g k d u → Joins t h j k d u → Joins r f j k d u
high_mixed s t r f g h j k d u fu gu hu ju p q cs ct x y =
    mixed_joins s t r f g h j k d u (negsuc 0) _ _ fu gu hu ju
    (as_other (g.top *ℤ pos j.under) (j.top *ℤ pos g.under)) (as_other (h.top *ℤ pos f.under) (f.top *ℤ pos h.under))
    (up (j.top *ℤ pos g.under) (g.top *ℤ pos j.under) q) (up (f.top *ℤ pos h.under) (h.top *ℤ pos f.under) p)
    (λ e. sym (apart (j.top *ℤ pos g.under) (g.top *ℤ pos j.under) e)) cs ct x y

-- f and h are the values at the first point, g and j at the second
pub least_joins : (s t : ℕ → Bounds) (f g h j : Fraction) (k : ℕ) (d : ℕ → ℤ) (u : ℕ) (x y : Bounds) → LiesIn f x → LiesIn g x → LiesIn h y → LiesIn j y
    → Joins s f g k d u → Joins t h j k d u → Joins (λ i. least_slope x y (s i) (t i)) (least f h) (least g j) k d u
least_joins s t f g h j k d u x y fl gl hl jl a b = go (le x.hi y.lo) (le y.hi x.lo) refl refl
  where
    left : (i : ℕ) (e : Fraction) → LiesIn e (s i) → LiesIn e (table.hull_of (s i) (t i))
    left i e l = hull_keeps_left e.top e.under (s i) (t i) l

    right : (i : ℕ) (e : Fraction) → LiesIn e (t i) → LiesIn e (table.hull_of (s i) (t i))
    right i e l = hull_keeps_right e.top e.under (s i) (t i) l

    mixes : Joins (λ i. table.hull_of (s i) (t i)) (least f h) (least g j) k d u
    mixes =
        let r : ℕ → Bounds = λ i. table.hull_of (s i) (t i) in
        by_order f h
        (λ p. by_order g j
        (λ q. same_joins r f g (least f h) (least g j) k d u fl.some gl.some (least_first f h p) (least_first g j q) (covered_joins s r f g k d u left a))
        (λ q. same_joins r f j (least f h) (least g j) k d u fl.some jl.some (least_first f h p) (least_second g j q)
        (low_mixed s t r f g h j k d u fl.some gl.some hl.some jl.some p q left right a b)))
        (λ p. by_order g j
        (λ q. same_joins r h g (least f h) (least g j) k d u hl.some gl.some (least_second f h p) (least_first g j q)
        (low_mixed t s r h j f g k d u hl.some jl.some fl.some gl.some p q right left b a))
        (λ q. same_joins r h j (least f h) (least g j) k d u hl.some jl.some (least_second f h p) (least_second g j q) (covered_joins t r h j k d u right b)))

    go : (p q : Bool) → le x.hi y.lo ≡ p → le y.hi x.lo ≡ q
        → Joins (λ i. if p then s i else if q then t i else table.hull_of (s i) (t i)) (least f h) (least g j) k d u
    go true q e i =
        same_joins s f g (least f h) (least g j) k d u fl.some gl.some
        (least_first f h (at_most f h x y e fl hl)) (least_first g j (at_most g j x y e gl jl)) a
    go false true e i =
        same_joins t h j (least f h) (least g j) k d u hl.some jl.some
        (least_second f h (at_most h f y x i hl fl)) (least_second g j (at_most j g y x i jl gl)) b
    go false false e i = mixes

pub greatest_joins : (s t : ℕ → Bounds) (f g h j : Fraction) (k : ℕ) (d : ℕ → ℤ) (u : ℕ) (x y : Bounds) → LiesIn f x → LiesIn g x → LiesIn h y → LiesIn j y
    → Joins s f g k d u → Joins t h j k d u → Joins (λ i. greatest_slope x y (s i) (t i)) (greatest f h) (greatest g j) k d u
greatest_joins s t f g h j k d u x y fl gl hl jl a b = go (le y.hi x.lo) (le x.hi y.lo) refl refl
  where
    left : (i : ℕ) (e : Fraction) → LiesIn e (s i) → LiesIn e (table.hull_of (s i) (t i))
    left i e l = hull_keeps_left e.top e.under (s i) (t i) l

    right : (i : ℕ) (e : Fraction) → LiesIn e (t i) → LiesIn e (table.hull_of (s i) (t i))
    right i e l = hull_keeps_right e.top e.under (s i) (t i) l

    mixes : Joins (λ i. table.hull_of (s i) (t i)) (greatest f h) (greatest g j) k d u
    mixes =
        let r : ℕ → Bounds = λ i. table.hull_of (s i) (t i) in
        by_order h f
        (λ p. by_order j g
        (λ q. same_joins r f g (greatest f h) (greatest g j) k d u fl.some gl.some (greatest_first f h p) (greatest_first g j q) (covered_joins s r f g k d u left a))
        (λ q. same_joins r f j (greatest f h) (greatest g j) k d u fl.some jl.some (greatest_first f h p) (greatest_second g j q)
        (high_mixed s t r f g h j k d u fl.some gl.some hl.some jl.some p q left right a b)))
        (λ p. by_order j g
        (λ q. same_joins r h g (greatest f h) (greatest g j) k d u hl.some gl.some (greatest_second f h p) (greatest_first g j q)
        (high_mixed t s r h j f g k d u hl.some jl.some fl.some gl.some p q right left b a))
        (λ q. same_joins r h j (greatest f h) (greatest g j) k d u hl.some jl.some (greatest_second f h p) (greatest_second g j q) (covered_joins t r h j k d u right b)))

    go : (p q : Bool) → le y.hi x.lo ≡ p → le x.hi y.lo ≡ q
        → Joins (λ i. if p then s i else if q then t i else table.hull_of (s i) (t i)) (greatest f h) (greatest g j) k d u
    go true q e i =
        same_joins s f g (greatest f h) (greatest g j) k d u fl.some gl.some
        (greatest_first f h (at_most h f y x e hl fl)) (greatest_first g j (at_most j g y x e jl gl)) a
    go false true e i =
        same_joins t h j (greatest f h) (greatest g j) k d u hl.some jl.some
        (greatest_second f h (at_most f h x y i fl hl)) (greatest_second g j (at_most g j x y i gl jl)) b
    go false false e i = mixes

-- ---- quotients

pub quotient_row_joins : (s t : ℕ → Bounds) (f g h j p q : Fraction) (k : ℕ) (d : ℕ → ℤ) (u : ℕ) (by y : Bounds) → over f h ≡ Some p → over g j ≡ Some q
    → LiesIn q by → LiesIn h y → 0 < j.under → Joins s f g k d u → Joins t h j k d u → Joins (λ i. quotient_slope by y (s i) (t i)) p q k d u
quotient_row_joins s t f g h j p q k d u by y ep eq ql hl ju a b =
    quotient_joins s t (λ i. quotient_slope by y (s i) (t i)) f g h j p q k d u by y ep eq hl.some ju ql hl
    (λ i e l. in_known e.top e.under (table.quotient_of (table.difference_of (s i) (table.product_of by (t i))) y) l) a b
