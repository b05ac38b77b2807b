-- The tables, row by row.
use Rattle.std.proofs.Common.{◌≡◌, ◌≢◌, ℕ, zero, suc, ◌%◌, arith, refl, sym, ◌∙◌, ap, subst, cond, rules}
use Rattle.std.specs.Prelude.{Bool, true, false, ◌&&◌, Option, Some, None, if◌then◌else◌, pos, eqb}
use Rattle.pv_num.specs.Extended.{Extended, Fin}
use Rattle.pv_num.specs.Grid.{unit}
use Rattle.pv_num.specs.Order.{le, lt, lesser, greater}
use Rattle.pv_num.specs.Arithmetic.{neg_of}
use Rattle.pv_interval.specs.Bounds.{Bounds, IsInterval, between}
use Rattle.pv_num.specs.Arithmetic.{div_of, pow_of}
use Rattle.pv_num.specs.declared.num.End.TheVariants.{Down, Up}
use Rattle.pv_interval.proofs.Picks.{far_power}
use Rattle.pv_interval.proofs.Powers.{turn_le}
use Rattle.pv_interval.proofs.Ends.{lt_not, lt_from, le_trans, le_antisym, le_of_false}
use Rattle.pv_interval.proofs.Intervals.{quotient_interval}
use Rattle.pv_interval.proofs.Quotients.{lower_too, and_left, and_right}
use Rattle.std.proofs.lemmas.Bool.{eq-eqb}
use Rattle.std.proofs.Math.Dec.{eqb-suc-zero}
use Rattle.pv_interval.specs.Tables.{nought, absolute, negated, meet_of, is_from_nought, is_to_nought, power_of, exactly, even_power, odd_power, quotient_of, quotient_across, is_nought, has_nought, of_ends, crosses_nought}

-- ---- absolute values

pub absolute_up : (x : Bounds) → le nought x.lo ≡ true → absolute x ≡ x
unfolding absolute
absolute_up x h =
    ap (λ t. cond t x (if is_to_nought x then negated x else between nought (greater (neg_of x.lo) x.hi))) h

pub absolute_down : (x : Bounds) → le nought x.lo ≡ false → le x.hi nought ≡ true → absolute x ≡ negated x
unfolding absolute
absolute_down x h k =
    ap (λ t. cond t x (if is_to_nought x then negated x else between nought (greater (neg_of x.lo) x.hi))) h
    ∙ ap (λ t. cond t (negated x) (between nought (greater (neg_of x.lo) x.hi))) k

pub absolute_wide : (x : Bounds) → le nought x.lo ≡ false → le x.hi nought ≡ false
    → absolute x ≡ between nought (greater (neg_of x.lo) x.hi)
unfolding absolute
absolute_wide x h k =
    ap (λ t. cond t x (if is_to_nought x then negated x else between nought (greater (neg_of x.lo) x.hi))) h
    ∙ ap (λ t. cond t (negated x) (between nought (greater (neg_of x.lo) x.hi))) k

-- ---- meets

pub meet_some : (x y : Bounds) → le (greater x.lo y.lo) (lesser x.hi y.hi) ≡ true
    → meet_of x y ≡ Some (between (greater x.lo y.lo) (lesser x.hi y.hi))
unfolding meet_of
meet_some x y h = ap (λ t. cond t (Some (between (greater x.lo y.lo) (lesser x.hi y.hi))) None) h

pub meet_none : (x y : Bounds) → le (greater x.lo y.lo) (lesser x.hi y.hi) ≡ false → meet_of x y ≡ None
unfolding meet_of
meet_none x y h = ap (λ t. cond t (Some (between (greater x.lo y.lo) (lesser x.hi y.hi))) None) h

-- ---- divisors

below_apart : (e : Extended) → lt e nought ≡ true → e ≢ nought
below_apart e h k = let p = ap (λ w. lt w nought) k in absurd (search (rules, p, h))

pub lower_apart : (y : Bounds) → IsInterval y → lt y.hi nought ≡ true → y.lo ≢ nought
lower_apart y i h k =
    let p : le nought y.hi ≡ true = subst (λ w. le w y.hi ≡ true) k i.ordered in
    let q = lt_not y.hi nought h in absurd (cc)

pub pick_apart : (t : Bool) (p q r : Extended) → r ≡ cond t p q → p ≢ nought → q ≢ nought → r ≢ nought
pick_apart true p q r e h k l = h (sym e ∙ l)
pick_apart false p q r e h k l = k (sym e ∙ l)

pub upper_apart : (y : Bounds) → lt y.hi nought ≡ true → y.hi ≢ nought
upper_apart y h = below_apart y.hi h

-- ---- powers

pub power_nought : (x : Bounds) → power_of x 0 ≡ exactly (Fin (pos unit))
unfolding power_of
power_nought x = refl

pub power_even : (x : Bounds) (n : ℕ) → n ≢ 0 → n % 2 ≡ 0 → power_of x n ≡ even_power x n
unfolding power_of
power_even x n z h = power_by (eqb n 0) (eqb (n % 2) 0) (exactly (Fin (pos unit))) (even_power x n) (odd_power x n) (not_eqb n z) (eq-eqb (n % 2) 0 h)
  where
    not_eqb : (n : ℕ) → n ≢ 0 → eqb n 0 ≡ false
    not_eqb zero z = absurd (z refl)
    not_eqb (suc n) z = eqb-suc-zero n

    power_by : (s t : Bool) (a b c : Bounds) → s ≡ false → t ≡ true → cond s a (cond t b c) ≡ b
    power_by s t a b c h k = ap (λ w. cond w a (cond t b c)) h ∙ ap (λ w. cond w b c) k

pub power_odd : (x : Bounds) (n : ℕ) → n % 2 ≡ 1 → power_of x n ≡ odd_power x n
unfolding power_of
power_odd x n h = power_by (eqb n 0) (eqb (n % 2) 0) (exactly (Fin (pos unit))) (even_power x n) (odd_power x n) (not_zero n h) (not_even n h)
  where
    not_zero : (n : ℕ) → n % 2 ≡ 1 → eqb n 0 ≡ false
    not_zero zero h = absurd (omega arith)
    not_zero (suc n) h = eqb-suc-zero n

    not_even : (n : ℕ) → n % 2 ≡ 1 → eqb (n % 2) 0 ≡ false
    not_even n h = ap (λ w. eqb w 0) h

    power_by : (s t : Bool) (a b c : Bounds) → s ≡ false → t ≡ false → cond s a (cond t b c) ≡ c
    power_by s t a b c h k = ap (λ w. cond w a (cond t b c)) h ∙ ap (λ w. cond w b c) k

-- ---- quotients

and_no : (s t : Bool) → s ≡ false → s && t ≡ false
and_no s t h = ap (λ w. w && t) h

no_and : (s t : Bool) → t ≡ false → s && t ≡ false
no_and true t h = h
no_and false t h = refl

quotient_plain : (x y : Bounds) → is_nought y ≡ false → has_nought y ≡ false → quotient_of x y ≡ Some (of_ends div_of x y)
unfolding quotient_of
quotient_plain x y h k = by_tests (is_nought y) (has_nought y) (Some (if is_nought x then exactly nought else quotient_across x y)) (Some (of_ends div_of x y)) h k
  where
    by_tests : (s t : Bool) (a b : Option Bounds) → s ≡ false → t ≡ false → cond s None (cond t a b) ≡ b
    by_tests s t a b h k = ap (λ w. cond w None (cond t a b)) h ∙ ap (λ w. cond w a b) k

pub quotient_positive : (x y : Bounds) → IsInterval y → lt nought y.lo ≡ true → quotient_of x y ≡ Some (of_ends div_of x y)
quotient_positive x y i h =
    let p = lt_not nought y.lo h in
    quotient_plain x y (no_and (le nought y.lo) (le y.hi nought) (higher y i p)) (and_no (le y.lo nought) (le nought y.hi) p)
  where
    higher : (y : Bounds) → IsInterval y → le y.lo nought ≡ false → le y.hi nought ≡ false
    higher y i p = by_value (le y.hi nought) refl
      where
        by_value : (t : Bool) → le y.hi nought ≡ t → le y.hi nought ≡ false
        by_value true e = let q = le_trans y.lo y.hi nought i.ordered e in absurd (cc)
        by_value false e = e

pub quotient_negative : (x y : Bounds) → IsInterval y → lt y.hi nought ≡ true → quotient_of x y ≡ Some (of_ends div_of x y)
quotient_negative x y i h =
    let p = lt_not y.hi nought h in
    quotient_plain x y (and_no (le nought y.lo) (le y.hi nought) (lower_too y.lo y.hi i.ordered p)) (no_and (le y.lo nought) (le nought y.hi) p)

pub quotient_none : (x y : Bounds) → is_nought y ≡ true → quotient_of x y ≡ None
unfolding quotient_of
quotient_none x y h = by_test (is_nought y) (if has_nought y then Some (if is_nought x then exactly nought else quotient_across x y) else Some (of_ends div_of x y)) h
  where
    by_test : (s : Bool) (a : Option Bounds) → s ≡ true → cond s None a ≡ None
    by_test s a h = ap (λ w. cond w None a) h

quotient_inside : (x y : Bounds) → is_nought y ≡ false → has_nought y ≡ true
    → quotient_of x y ≡ Some (if is_nought x then exactly nought else quotient_across x y)
unfolding quotient_of
quotient_inside x y h k = by_tests (is_nought y) (has_nought y) (Some (if is_nought x then exactly nought else quotient_across x y)) (Some (of_ends div_of x y)) h k
  where
    by_tests : (s t : Bool) (a b : Option Bounds) → s ≡ false → t ≡ true → cond s None (cond t a b) ≡ a
    by_tests s t a b h k = ap (λ w. cond w None (cond t a b)) h ∙ ap (λ w. cond w a b) k

pub has_zero : (y : Bounds) → lt nought y.lo ≡ false → lt y.hi nought ≡ false → has_nought y ≡ true
has_zero y h k = both_true (le y.lo nought) (le nought y.hi) (not_lt nought y.lo h) (not_lt y.hi nought k)
  where
    both_true : (s t : Bool) → s ≡ true → t ≡ true → s && t ≡ true
    both_true s t h k = ap (λ w. w && t) h ∙ k

    not_lt : (a b : Extended) → lt a b ≡ false → le b a ≡ true
    not_lt a b h = by_value (le b a) refl
      where
        by_value : (t : Bool) → le b a ≡ t → le b a ≡ true
        by_value true e = e
        by_value false e = let q = lt_from a b e in absurd (cc)

-- an interval whose every number is at least and at most 0 is [0,0]
pub nought_is : (x : Bounds) → IsInterval x → is_nought x ≡ true → x ≡ exactly nought
nought_is x i h =
    let p = and_left (le nought x.lo) (le x.hi nought) h in let q = and_right (le nought x.lo) (le x.hi nought) h in
    let a = le_antisym x.lo nought (le_trans x.lo x.hi nought i.ordered q) p in
    let b = le_antisym x.hi nought q (le_trans nought x.lo x.hi p i.ordered) in
    ap (λ w. between w x.hi) a ∙ ap (λ w. between nought w) b

pub quotient_of_nought : (x y : Bounds) → is_nought y ≡ false → has_nought y ≡ true → IsInterval x → is_nought x ≡ true → quotient_of x y ≡ Some x
quotient_of_nought x y h k i z =
    quotient_inside x y h k ∙ ap Some (ap (λ w. cond w (exactly nought) (quotient_across x y)) z ∙ sym (nought_is x i z))

pub quotient_wide : (x y : Bounds) → is_nought y ≡ false → has_nought y ≡ true → is_nought x ≡ false → quotient_of x y ≡ Some (quotient_across x y)
quotient_wide x y h k z =
    quotient_inside x y h k ∙ ap Some (ap (λ w. cond w (exactly nought) (quotient_across x y)) z)

pub first_apart : (y : Bounds) → lt nought y.lo ≡ true → y.lo ≢ nought
first_apart y h k = let p = ap (λ w. lt nought w) k in absurd (search (rules, p, h))

pub second_apart : (y : Bounds) → IsInterval y → lt nought y.lo ≡ true → y.hi ≢ nought
second_apart y i h k =
    let p : le y.lo nought ≡ true = subst (λ w. le y.lo w ≡ true) k i.ordered in
    let q = lt_not nought y.lo h in absurd (cc)

pub of_positive : (x y : Bounds) → IsInterval x → IsInterval y → lt nought y.lo ≡ true → IsInterval (of_ends div_of x y)
of_positive x y h k z = quotient_interval x y (of_ends div_of x y) h k (quotient_positive x y k z)

pub of_negative : (x y : Bounds) → IsInterval x → IsInterval y → lt y.hi nought ≡ true → IsInterval (of_ends div_of x y)
of_negative x y h k z = quotient_interval x y (of_ends div_of x y) h k (quotient_negative x y k z)

-- ---- an interval that crosses 0

lt_le : (a b : Extended) → lt a b ≡ true → le a b ≡ true
lt_le a b h = le_of_false b a (lt_not a b h)

pub crossed_low : (x : Bounds) → crosses_nought x ≡ true → le x.lo nought ≡ true
crossed_low x h = lt_le x.lo nought (and_left (lt x.lo nought) (lt nought x.hi) h)

pub crossed_high : (x : Bounds) → crosses_nought x ≡ true → le nought x.hi ≡ true
crossed_high x h = lt_le nought x.hi (and_right (lt x.lo nought) (lt nought x.hi) h)

-- ---- even powers

pub even_up : (x : Bounds) (n : ℕ) → le nought x.lo ≡ true → even_power x n ≡ between (pow_of Down x.lo n) (pow_of Up x.hi n)
even_up x n h = by_tests (is_from_nought x) (between (pow_of Down x.lo n) (pow_of Up x.hi n)) _ h
  where
    by_tests : (s : Bool) (a b : Bounds) → s ≡ true → cond s a b ≡ a
    by_tests s a b h = ap (λ w. cond w a b) h

pub even_down : (x : Bounds) (n : ℕ) → le nought x.lo ≡ false → le x.hi nought ≡ true
    → even_power x n ≡ between (pow_of Down (neg_of x.hi) n) (pow_of Up (neg_of x.lo) n)
even_down x n h k = by_tests (is_from_nought x) (is_to_nought x) (between (pow_of Down x.lo n) (pow_of Up x.hi n))
    (between (pow_of Down (neg_of x.hi) n) (pow_of Up (neg_of x.lo) n))
    (between nought (greater (pow_of Up (neg_of x.lo) n) (pow_of Up x.hi n))) h k
  where
    by_tests : (s t : Bool) (a b c : Bounds) → s ≡ false → t ≡ true → cond s a (cond t b c) ≡ b
    by_tests s t a b c h k = ap (λ w. cond w a (cond t b c)) h ∙ ap (λ w. cond w b c) k

pub even_wide : (x : Bounds) (n : ℕ) → le nought x.lo ≡ false → le x.hi nought ≡ false
    → even_power x n ≡ between nought (pow_of Up (greater (neg_of x.lo) x.hi) n)
even_wide x n h k = by_tests (is_from_nought x) (is_to_nought x) (between (pow_of Down x.lo n) (pow_of Up x.hi n))
    (between (pow_of Down (neg_of x.hi) n) (pow_of Up (neg_of x.lo) n))
    (between nought (greater (pow_of Up (neg_of x.lo) n) (pow_of Up x.hi n))) h k
    ∙ ap (λ w. between nought w) (far_power (neg_of x.lo) x.hi n (turn_le x.lo (le_of_false nought x.lo h)) (le_of_false x.hi nought k))
  where
    by_tests : (s t : Bool) (a b c : Bounds) → s ≡ false → t ≡ false → cond s a (cond t b c) ≡ c
    by_tests s t a b c h k = ap (λ w. cond w a (cond t b c)) h ∙ ap (λ w. cond w b c) k
