-- Least, greatest, absolute values, hulls and meets keep every rational result.
use Rattle.std.proofs.Common.{◌≡◌, ℕ, zero, suc, ◌<◌, refl, arith, sym, subst, cond}
use Rattle.std.specs.Prelude.{Bool, true, false, ℤ, pos, negsuc, ◌*ℤ◌, ◌≤ℤ◌, int_lt, Some, None, if◌then◌else◌}
use Rattle.std.specs.Int.RustNames.{unsigned_abs}
use Rattle.std.proofs.lemmas.Int.{ints}
use lib.IntN.{neg_ℤ}
use Rattle.pv_num.specs.Extended.{Extended, NegInf, Fin, PosInf}
use Rattle.pv_num.specs.Grid.{unit}
use Rattle.pv_num.specs.Order.{le, lesser, greater}
use Rattle.pv_num.specs.Arithmetic.{neg_of}
use Rattle.pv_interval.specs.Bounds.{Bounds}
use Rattle.pv_interval.specs.Fractions.{Fraction, below, least, greatest, size}
use Rattle.pv_interval.specs.Points.{IsBelow, IsAbove, Lies, LiesIn, LiesInSome}
use Rattle.pv_interval.specs.Tables.{nought, least_of, greatest_of, absolute, negated, hull_of, meet_of, is_from_nought, is_to_nought}
use Rattle.pv_interval.proofs.Integers.{swap_last}
use Rattle.pv_interval.proofs.Products.{times_pos, cancel_pos}
use Rattle.pv_interval.proofs.Values.{below_le, above_le, across}
use Rattle.pv_interval.proofs.Choices.{lesser_left, lesser_right, greater_left, greater_right, lesser_either, greater_either}
use Rattle.pv_interval.proofs.Multiples.{zero_below, below_zero, above_zero}
use Rattle.pv_interval.proofs.Keeps.{neg_above, opposite_keeps, by_sign}

pub cond_keeps : {A : Type 0} (P : A → Type 0) (t : Bool) (a b : A) → (t ≡ true → P a) → (t ≡ false → P b) → P (cond t a b)
cond_keeps P true a b f g = f refl
cond_keeps P false a b f g = g refl

-- an end above m / b is above n / d, where n / d is at most m / b
pub above_down : (e : Extended) (m n : ℤ) (b d : ℕ) → 0 < b → (n *ℤ pos b) ≤ℤ (m *ℤ pos d) → IsAbove e m b → IsAbove e n d
above_down NegInf m n b d p h k = absurd k
above_down (Fin e) m n b d p h k = cancel_pos b (n *ℤ pos unit) (e *ℤ pos d) p
    (let f = times_pos unit _ _ h in let g = times_pos d _ _ k in
    let u = swap_last n (pos b) (pos unit) in let v = swap_last m (pos d) (pos unit) in let w = swap_last e (pos b) (pos d) in
    omega (arith, ints))
above_down PosInf m n b d p h k = tt

pub below_up : (e : Extended) (m n : ℤ) (b d : ℕ) → 0 < b → (m *ℤ pos d) ≤ℤ (n *ℤ pos b) → IsBelow e m b → IsBelow e n d
below_up NegInf m n b d p h k = tt
below_up (Fin e) m n b d p h k = cancel_pos b (e *ℤ pos d) (n *ℤ pos unit) p
    (let f = times_pos unit _ _ h in let g = times_pos d _ _ k in
    let u = swap_last n (pos b) (pos unit) in let v = swap_last m (pos d) (pos unit) in let w = swap_last e (pos b) (pos d) in
    omega (arith, ints))
below_up PosInf m n b d p h k = absurd k

pub lt_fact : (a b : ℤ) → int_lt a b ≡ true → a ≤ℤ b
lt_fact a b h = grind (arith, ints)

pub not_lt_fact : (a b : ℤ) → int_lt a b ≡ false → b ≤ℤ a
not_lt_fact a b h = grind (arith, ints)

pub least_keeps : (f g : Fraction) (x y : Bounds) → LiesIn f x → LiesIn g y → LiesIn (least f g) (least_of x y)
unfolding least_of
least_keeps f g x y h k = cond_keeps (λ w. LiesIn w (least_of x y)) (below g f) g f
    (λ t. record {
      some = k.some;
      low = below_le (lesser x.lo y.lo) y.lo g.top g.under (lesser_right x.lo y.lo) k.low;
      high = lesser_either (λ e. IsAbove e g.top g.under) x.hi y.hi
          (above_down x.hi f.top g.top f.under g.under h.some (lt_fact _ _ t) h.high) k.high;
    })
    (λ t. record {
      some = h.some;
      low = below_le (lesser x.lo y.lo) x.lo f.top f.under (lesser_left x.lo y.lo) h.low;
      high = lesser_either (λ e. IsAbove e f.top f.under) x.hi y.hi h.high
          (above_down y.hi g.top f.top g.under f.under k.some (not_lt_fact _ _ t) k.high);
    })

pub greatest_keeps : (f g : Fraction) (x y : Bounds) → LiesIn f x → LiesIn g y → LiesIn (greatest f g) (greatest_of x y)
unfolding greatest_of
greatest_keeps f g x y h k = cond_keeps (λ w. LiesIn w (greatest_of x y)) (below f g) g f
    (λ t. record {
      some = k.some;
      low = greater_either (λ e. IsBelow e g.top g.under) x.lo y.lo
          (below_up x.lo f.top g.top f.under g.under h.some (lt_fact _ _ t) h.low) k.low;
      high = above_le y.hi (greater x.hi y.hi) g.top g.under (greater_right x.hi y.hi) k.high;
    })
    (λ t. record {
      some = h.some;
      low = greater_either (λ e. IsBelow e f.top f.under) x.lo y.lo h.low
          (below_up y.lo g.top f.top g.under f.under k.some (not_lt_fact _ _ t) k.low);
      high = above_le x.hi (greater x.hi y.hi) f.top f.under (greater_left x.hi y.hi) h.high;
    })

-- ---- hulls and meets

pub hull_keeps_left : (n : ℤ) (d : ℕ) (x y : Bounds) → Lies n d x → Lies n d (hull_of x y)
unfolding hull_of
hull_keeps_left n d x y h = record {
  some = h.some;
  low = below_le (lesser x.lo y.lo) x.lo n d (lesser_left x.lo y.lo) h.low;
  high = above_le x.hi (greater x.hi y.hi) n d (greater_left x.hi y.hi) h.high;
}

pub hull_keeps_right : (n : ℤ) (d : ℕ) (x y : Bounds) → Lies n d y → Lies n d (hull_of x y)
unfolding hull_of
hull_keeps_right n d x y h = record {
  some = h.some;
  low = below_le (lesser x.lo y.lo) y.lo n d (lesser_right x.lo y.lo) h.low;
  high = above_le y.hi (greater x.hi y.hi) n d (greater_right x.hi y.hi) h.high;
}

pub meet_keeps : (n : ℤ) (d : ℕ) (x y : Bounds) → Lies n d x → Lies n d y → LiesInSome n d (meet_of x y)
unfolding meet_of
meet_keeps n d x y h k =
    let low : IsBelow (greater x.lo y.lo) n d = greater_either (λ e. IsBelow e n d) x.lo y.lo h.low k.low in
    let high : IsAbove (lesser x.hi y.hi) n d = lesser_either (λ e. IsAbove e n d) x.hi y.hi h.high k.high in
    cond_keeps (LiesInSome n d) (le (greater x.lo y.lo) (lesser x.hi y.hi))
    (Some (record { lo = greater x.lo y.lo; hi = lesser x.hi y.hi })) None
    (λ t. record { some = h.some; low = low; high = high })
    (λ t. let c = across (greater x.lo y.lo) (lesser x.hi y.hi) n d h.some low high in
    absurd (cc))

meet_in_by : (t : Bool) (n : ℤ) (d : ℕ) (x y z : Bounds)
    → cond t (Some (record { lo = greater x.lo y.lo; hi = lesser x.hi y.hi })) None ≡ Some z → Lies n d z → Lies n d x × Lies n d y
meet_in_by true n d x y z e h =
    let p : record { lo = greater x.lo y.lo; hi = lesser x.hi y.hi } ≡ z = cc in
    let low : IsBelow (greater x.lo y.lo) n d = subst (λ w. IsBelow w.lo n d) (sym p) h.low in
    let high : IsAbove (lesser x.hi y.hi) n d = subst (λ w. IsAbove w.hi n d) (sym p) h.high in (
      record {
        some = h.some;
        low = below_le x.lo (greater x.lo y.lo) n d (greater_left x.lo y.lo) low;
        high = above_le (lesser x.hi y.hi) x.hi n d (lesser_left x.hi y.hi) high;
      },
      record {
        some = h.some;
        low = below_le y.lo (greater x.lo y.lo) n d (greater_right x.lo y.lo) low;
        high = above_le (lesser x.hi y.hi) y.hi n d (lesser_right x.hi y.hi) high;
      },
    )
meet_in_by false n d x y z e h = absurd (cc)

-- what lies in a meet lies in both
pub meet_in : (n : ℤ) (d : ℕ) (x y z : Bounds) → meet_of x y ≡ Some z → Lies n d z → Lies n d x × Lies n d y
unfolding meet_of
meet_in n d x y z e h = meet_in_by (le (greater x.lo y.lo) (lesser x.hi y.hi)) n d x y z e h

-- ---- absolute values

pub size_from : (n : ℤ) → pos 0 ≤ℤ n → pos (unsigned_abs n) ≡ n
size_from (pos n) h = refl
size_from (negsuc n) h = absurd (omega (arith, ints))

pub size_to : (n : ℤ) → n ≤ℤ pos 0 → pos (unsigned_abs n) ≡ neg_ℤ n
size_to (pos zero) h = refl
size_to (pos (suc n)) h = absurd (omega (arith, ints))
size_to (negsuc n) h = refl

pub absolute_keeps : (f : Fraction) (x : Bounds) → LiesIn f x → LiesIn (size f) (absolute x)
unfolding absolute
absolute_keeps f x h =
    let n = f.top in let d = f.under in
    let wide : Bounds = record { lo = nought; hi = greater (neg_of x.lo) x.hi } in
    cond_keeps (LiesIn (size f)) (is_from_nought x) x (if is_to_nought x then negated x else wide)
    (λ t. subst (λ w. Lies w d x) (sym (size_from n (below_zero n d (below_le nought x.lo n d t h.low)))) h)
    (λ t. cond_keeps (LiesIn (size f)) (is_to_nought x) (negated x) wide
    (λ u. subst (λ w. Lies w d (negated x)) (sym (size_to n (above_zero n d (above_le x.hi nought n d u h.high)))) (opposite_keeps f x h))
    (λ u. by_sign n
    (λ s. subst (λ w. Lies w d wide) (sym (size_from n s)) (record {
      some = h.some;
      low = zero_below n d s;
      high = above_le x.hi (greater (neg_of x.lo) x.hi) n d (greater_right (neg_of x.lo) x.hi) h.high;
    }))
    (λ s. subst (λ w. Lies w d wide) (sym (size_to n s)) (record {
      some = h.some;
      low = zero_below (neg_ℤ n) d (omega (arith, ints));
      high = above_le (neg_of x.lo) (greater (neg_of x.lo) x.hi) (neg_ℤ n) d (greater_left (neg_of x.lo) x.hi)
          (neg_above x.lo n d h.low);
    }))))
