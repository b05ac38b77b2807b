-- If an end of a target is the one of the operation's own interval, the arguments' ends that gave it stay.
use Rattle.std.proofs.Common.{◌≡◌, ◌≢◌, refl, arith, sym, ◌∙◌, ap, subst, cond}
use Rattle.std.specs.Prelude.{IsTrue, Bool, true, false, ℤ, pos, ◌+ℤ◌, ◌*ℤ◌, ◌≤ℤ◌, Option, Some, None}
use Rattle.std.proofs.Math.IntN.{+ℤ_comm, neg_ℤ-neg_ℤ}
use Rattle.std.proofs.lemmas.Int.{ints}
use lib.IntN.{neg_ℤ}
use Rattle.pv_num.specs.Extended.{Extended, NegInf, Fin, PosInf}
use Rattle.pv_num.specs.Order.{le, lesser, greater}
use Rattle.pv_num.specs.Arithmetic.{neg_of, add_of, sub_of}
use Rattle.pv_num.specs.Rounding.{IsDown, IsUp, rounded}
use Rattle.pv_num.specs.declared.num.End.{End}
use Rattle.pv_num.specs.declared.num.End.TheVariants.{Down, Up}
use Rattle.pv_num.proofs.Rounding.{rounded-is}
use Rattle.pv_interval.specs.Bounds.{Bounds, IsInterval, between, interval_from}
use Rattle.pv_interval.specs.Tables.{meet_of, sum_of, difference_of}
use Rattle.pv_interval.proofs.Choices.{lesser_first, greater_first, greater_left, lesser_left}
use Rattle.pv_interval.proofs.Ends.{fin_le, le_fin, le_trans}
use Rattle.pv_interval.proofs.Picks.{neg_not_pos, neg_not_neg}
use Rattle.pv_interval.proofs.Monotone.{neg_order}
use Rattle.pv_interval.proofs.Intervals.{sum_interval, difference_interval, meet_interval}
use Rattle.pv_project.specs.Projections.{chain, narrowed, back_add_of, back_sub_of}
use Rattle.pv_project.specs.Rests.{up_to_of, from_of, sum_below_of, sum_above_of, difference_below_of, difference_above_of}
use Rattle.pv_project.proofs.Meets.{meet_from}

-- ---- rounded sums and differences of finite numbers

unit_times : (n : ℤ) → n *ℤ pos 1 ≡ n
unit_times n = omega (arith, ints)

-- a rounded down and an added number taken off again is at most a
down_twice : (a b d : ℤ) (r : Extended) → b ≤ℤ d → IsDown (a +ℤ b) 1 r → IsTrue (le (add_of Down r (Fin (neg_ℤ d))) (Fin a))
down_twice a b d NegInf h k = refl
down_twice a b d (Fin c) h k = by_rounded (rounded Down (c +ℤ neg_ℤ d) 1) (rounded-is Down (c +ℤ neg_ℤ d) 1 (omega arith))
  where
    by_rounded : (s : Extended) → IsDown (c +ℤ neg_ℤ d) 1 s → IsTrue (le s (Fin a))
    by_rounded NegInf j = refl
    by_rounded (Fin e) j =
        let p = unit_times c in let q = unit_times e in let u = k.below in let v = j.below in
        le_fin e a (omega (arith, ints))
    by_rounded PosInf j = absurd j
down_twice a b d PosInf h k = absurd k

up_twice : (a b d : ℤ) (r : Extended) → d ≤ℤ b → IsUp (a +ℤ b) 1 r → IsTrue (le (Fin a) (add_of Up r (Fin (neg_ℤ d))))
up_twice a b d NegInf h k = absurd k
up_twice a b d (Fin c) h k = by_rounded (rounded Up (c +ℤ neg_ℤ d) 1) (rounded-is Up (c +ℤ neg_ℤ d) 1 (omega arith))
  where
    by_rounded : (s : Extended) → IsUp (c +ℤ neg_ℤ d) 1 s → IsTrue (le (Fin a) s)
    by_rounded NegInf j = absurd j
    by_rounded (Fin e) j =
        let p = unit_times c in let q = unit_times e in let u = k.above in let v = j.above in
        le_fin a e (omega (arith, ints))
    by_rounded PosInf j = refl
up_twice a b d PosInf h k = refl

-- h less what a less b, rounded down, is: at least b, if a is at most h
down_off : (a b h : ℤ) (r : Extended) → a ≤ℤ h → IsDown (a +ℤ neg_ℤ b) 1 r → IsTrue (le (Fin b) (add_of Up (Fin h) (neg_of r)))
down_off a b h NegInf g k = refl
down_off a b h (Fin c) g k = by_rounded (rounded Up (h +ℤ neg_ℤ c) 1) (rounded-is Up (h +ℤ neg_ℤ c) 1 (omega arith))
  where
    by_rounded : (s : Extended) → IsUp (h +ℤ neg_ℤ c) 1 s → IsTrue (le (Fin b) s)
    by_rounded NegInf j = absurd j
    by_rounded (Fin e) j =
        let p = unit_times c in let q = unit_times e in let u = k.below in let v = j.above in
        le_fin b e (omega (arith, ints))
    by_rounded PosInf j = refl
down_off a b h PosInf g k = absurd k

up_off : (a b h : ℤ) (r : Extended) → h ≤ℤ a → IsUp (a +ℤ neg_ℤ b) 1 r → IsTrue (le (add_of Down (Fin h) (neg_of r)) (Fin b))
up_off a b h NegInf g k = absurd k
up_off a b h (Fin c) g k = by_rounded (rounded Down (h +ℤ neg_ℤ c) 1) (rounded-is Down (h +ℤ neg_ℤ c) 1 (omega arith))
  where
    by_rounded : (s : Extended) → IsDown (h +ℤ neg_ℤ c) 1 s → IsTrue (le s (Fin b))
    by_rounded NegInf j = refl
    by_rounded (Fin e) j =
        let p = unit_times c in let q = unit_times e in let u = k.above in let v = j.below in
        le_fin e b (omega (arith, ints))
    by_rounded PosInf j = absurd j
up_off a b h PosInf g k = refl

-- ---- the same with infinite ends

less_down : (r : Extended) → add_of Down r NegInf ≡ NegInf
less_down NegInf = refl
less_down (Fin c) = refl
less_down PosInf = refl

more_up : (r : Extended) → add_of Up r PosInf ≡ PosInf
more_up NegInf = refl
more_up (Fin c) = refl
more_up PosInf = refl

neg_down : (e : Extended) → add_of Down NegInf e ≡ NegInf
neg_down NegInf = refl
neg_down (Fin c) = refl
neg_down PosInf = refl

pos_up : (e : Extended) → add_of Up PosInf e ≡ PosInf
pos_up NegInf = refl
pos_up (Fin c) = refl
pos_up PosInf = refl

-- a and b added and d taken off: at most a, if b is at most d
pub low_rests : (a b d : Extended) → a ≢ PosInf → b ≢ PosInf → d ≢ NegInf → IsTrue (le b d) → IsTrue (le (sub_of Down (add_of Down a b) d) a)
low_rests NegInf b d p q s h = ap (λ e. le (sub_of Down e d) NegInf) (neg_down b) ∙ ap (λ e. le e NegInf) (neg_down (neg_of d))
low_rests (Fin a) NegInf d p q s h = ap (λ e. le e (Fin a)) (neg_down (neg_of d))
low_rests (Fin a) (Fin b) NegInf p q s h = absurd (s refl)
low_rests (Fin a) (Fin b) (Fin d) p q s h = down_twice a b d (rounded Down (a +ℤ b) 1) (fin_le b d h) (rounded-is Down (a +ℤ b) 1 (omega arith))
low_rests (Fin a) (Fin b) PosInf p q s h = ap (λ e. le e (Fin a)) (less_down (add_of Down (Fin a) (Fin b)))
low_rests (Fin a) PosInf d p q s h = absurd (q refl)
low_rests PosInf b d p q s h = absurd (p refl)

pub high_rests : (a b d : Extended) → a ≢ NegInf → b ≢ NegInf → d ≢ PosInf → IsTrue (le d b) → IsTrue (le a (sub_of Up (add_of Up a b) d))
high_rests PosInf b d p q s h = ap (λ e. le PosInf (sub_of Up e d)) (pos_up b) ∙ ap (λ e. le PosInf e) (pos_up (neg_of d))
high_rests (Fin a) PosInf d p q s h = ap (λ e. le (Fin a) e) (pos_up (neg_of d))
high_rests (Fin a) (Fin b) PosInf p q s h = absurd (s refl)
high_rests (Fin a) (Fin b) (Fin d) p q s h = up_twice a b d (rounded Up (a +ℤ b) 1) (fin_le d b h) (rounded-is Up (a +ℤ b) 1 (omega arith))
high_rests (Fin a) (Fin b) NegInf p q s h = ap (λ e. le (Fin a) e) (more_up (add_of Up (Fin a) (Fin b)))
high_rests (Fin a) NegInf d p q s h = absurd (q refl)
high_rests NegInf b d p q s h = absurd (p refl)

-- h less what a less b is: at least b, if a is at most h
pub less_rests : (a b h : Extended) → a ≢ PosInf → b ≢ NegInf → h ≢ NegInf → IsTrue (le a h) → IsTrue (le b (sub_of Up h (sub_of Down a b)))
less_rests NegInf b h p q s g = ap (λ e. le b (sub_of Up h e)) (neg_down (neg_of b)) ∙ ap (λ e. le b e) (more_up h) ∙ top b
  where
    top : (b : Extended) → le b PosInf ≡ true
    top NegInf = refl
    top (Fin b) = refl
    top PosInf = refl
less_rests (Fin a) NegInf h p q s g = absurd (q refl)
less_rests (Fin a) (Fin b) NegInf p q s g = absurd (s refl)
less_rests (Fin a) (Fin b) (Fin h) p q s g = down_off a b h (rounded Down (a +ℤ neg_ℤ b) 1) (fin_le a h g) (rounded-is Down (a +ℤ neg_ℤ b) 1 (omega arith))
less_rests (Fin a) (Fin b) PosInf p q s g = ap (λ e. le (Fin b) e) (pos_up (neg_of (sub_of Down (Fin a) (Fin b))))
less_rests (Fin a) PosInf h p q s g = ap (λ e. le PosInf e) (more_up h)
less_rests PosInf b h p q s g = absurd (p refl)

pub more_rests : (a b h : Extended) → a ≢ NegInf → b ≢ PosInf → h ≢ PosInf → IsTrue (le h a) → IsTrue (le (sub_of Down h (sub_of Up a b)) b)
more_rests PosInf b h p q s g = ap (λ e. le (sub_of Down h e) b) (pos_up (neg_of b)) ∙ ap (λ e. le e b) (less_down h) ∙ bottom b
  where
    bottom : (b : Extended) → le NegInf b ≡ true
    bottom NegInf = refl
    bottom (Fin b) = refl
    bottom PosInf = refl
more_rests (Fin a) PosInf h p q s g = absurd (q refl)
more_rests (Fin a) (Fin b) PosInf p q s g = absurd (s refl)
more_rests (Fin a) (Fin b) (Fin h) p q s g = up_off a b h (rounded Up (a +ℤ neg_ℤ b) 1) (fin_le h a g) (rounded-is Up (a +ℤ neg_ℤ b) 1 (omega arith))
more_rests (Fin a) (Fin b) NegInf p q s g = ap (λ e. le e (Fin b)) (neg_down (neg_of (sub_of Up (Fin a) (Fin b))))
more_rests (Fin a) NegInf h p q s g = ap (λ e. le e NegInf) (less_down h)
more_rests NegInf b h p q s g = absurd (p refl)

-- ---- meets of which one end is known

up_to_meet : (x w : Bounds) → IsInterval x → IsInterval w → IsTrue (le w.lo x.lo) → up_to_of x w.hi ≡ meet_of x w
up_to_meet x w i j h =
    ap (λ e. interval_from e (lesser x.hi w.hi)) (sym (greater_first x.lo w.lo h)) ∙ meet_from x w.lo w.hi i j.lo_open j.hi_open

from_meet : (x w : Bounds) → IsInterval x → IsInterval w → IsTrue (le x.hi w.hi) → from_of x w.lo ≡ meet_of x w
from_meet x w i j h =
    ap (λ e. interval_from (greater x.lo w.lo) e) (sym (lesser_first x.hi w.hi h)) ∙ meet_from x w.lo w.hi i j.lo_open j.hi_open

-- what is left of x is an interval with ends of x, or between them
record IsPartOf (x y : Bounds) : Type 0 where
  pub interval : IsInterval y
  pub low : IsTrue (le x.lo y.lo)
  pub high : IsTrue (le y.hi x.hi)

meet_part : (x w y : Bounds) → IsInterval x → IsInterval w → meet_of x w ≡ Some y → IsPartOf x y
unfolding meet_of
meet_part x w y i j e = by_test (le (greater x.lo w.lo) (lesser x.hi w.hi)) e
  where
    some_is : (a b : Bounds) → Some a ≡ Some b → a ≡ b
    some_is a b g = cc

    by_test : (t : Bool) → cond t (Some (between (greater x.lo w.lo) (lesser x.hi w.hi))) None ≡ Some y → IsPartOf x y
    by_test true f = record {
      interval = meet_interval x w y i j e;
      low = subst (λ v. IsTrue (le x.lo v.lo)) (some_is _ y f) (greater_left x.lo w.lo);
      high = subst (λ v. IsTrue (le v.hi x.hi)) (some_is _ y f) (lesser_left x.hi w.hi);
    }
    by_test false f = absurd (cc)

narrowed_same : (o p : Option Bounds) (f g : Bounds → Option Bounds) → o ≡ p → ((y : Bounds) → p ≡ Some y → f y ≡ g y) → narrowed o f ≡ narrowed p g
narrowed_same o p f g e h = ap (λ r. narrowed r f) e ∙ by_left p h
  where
    by_left : (p : Option Bounds) → ((y : Bounds) → p ≡ Some y → f y ≡ g y) → narrowed p f ≡ narrowed p g
    by_left None h = refl
    by_left (Some y) h = ap (λ r. chain r (λ z. Some (y, z))) (h y refl)

add_swap : (s : End) (a b : Extended) → add_of s a b ≡ add_of s b a
add_swap s NegInf NegInf = refl
add_swap s NegInf (Fin b) = refl
add_swap s NegInf PosInf = refl
add_swap s (Fin a) NegInf = refl
add_swap s (Fin a) (Fin b) = ap (λ n. rounded s n 1) (+ℤ_comm a b)
add_swap s (Fin a) PosInf = refl
add_swap s PosInf NegInf = refl
add_swap s PosInf (Fin b) = refl
add_swap s PosInf PosInf = refl

twice_neg : (e : Extended) → neg_of (neg_of e) ≡ e
twice_neg NegInf = refl
twice_neg (Fin e) = ap Fin (neg_ℤ-neg_ℤ e)
twice_neg PosInf = refl

-- ---- sums

pub sum_low : (z x y : Bounds) → IsInterval z → IsInterval x → IsInterval y → z.lo ≡ (sum_of x y).lo → sum_below_of z x y ≡ back_add_of z x y
unfolding sum_below_of back_add_of sum_of difference_of
sum_low z x y k i j e =
    narrowed_same (up_to_of x (sub_of Up z.hi y.lo)) (meet_of x (difference_of z y)) _ _
    (up_to_meet x (difference_of z y) i (difference_interval z y k j)
    (subst (λ c. IsTrue (le (sub_of Down c y.hi) x.lo)) (sym e) (low_rests x.lo y.lo y.hi i.lo_open j.lo_open j.hi_open j.ordered)))
    (λ v f.
    let p = meet_part x (difference_of z y) v i (difference_interval z y k j) f in
    up_to_meet y (difference_of z v) j (difference_interval z v k p.interval)
    (subst (λ c. IsTrue (le (sub_of Down c v.hi) y.lo)) (add_swap Down y.lo x.lo ∙ sym e)
    (low_rests y.lo x.lo v.hi j.lo_open i.lo_open p.interval.hi_open (le_trans x.lo v.lo v.hi p.low p.interval.ordered))))

pub sum_high : (z x y : Bounds) → IsInterval z → IsInterval x → IsInterval y → z.hi ≡ (sum_of x y).hi → sum_above_of z x y ≡ back_add_of z x y
unfolding sum_above_of back_add_of sum_of difference_of
sum_high z x y k i j e =
    narrowed_same (from_of x (sub_of Down z.lo y.hi)) (meet_of x (difference_of z y)) _ _
    (from_meet x (difference_of z y) i (difference_interval z y k j)
    (subst (λ c. IsTrue (le x.hi (sub_of Up c y.lo))) (sym e) (high_rests x.hi y.hi y.lo i.hi_open j.hi_open j.lo_open j.ordered)))
    (λ v f.
    let p = meet_part x (difference_of z y) v i (difference_interval z y k j) f in
    from_meet y (difference_of z v) j (difference_interval z v k p.interval)
    (subst (λ c. IsTrue (le y.hi (sub_of Up c v.lo))) (add_swap Up y.hi x.hi ∙ sym e)
    (high_rests y.hi x.hi v.lo j.hi_open i.hi_open p.interval.lo_open (le_trans v.lo v.hi x.hi p.interval.ordered p.high))))

-- ---- differences

pub difference_low : (z x y : Bounds) → IsInterval z → IsInterval x → IsInterval y → z.lo ≡ (difference_of x y).lo → difference_below_of z x y ≡ back_sub_of z x y
unfolding difference_below_of back_sub_of sum_of difference_of
difference_low z x y k i j e =
    narrowed_same (up_to_of x (add_of Up z.hi y.hi)) (meet_of x (sum_of z y)) _ _
    (up_to_meet x (sum_of z y) i (sum_interval z y k j)
    (subst (λ c. IsTrue (le (add_of Down c y.lo) x.lo)) (sym e)
    (subst (λ d. IsTrue (le (add_of Down (sub_of Down x.lo y.hi) d) x.lo)) (twice_neg y.lo)
    (low_rests x.lo (neg_of y.hi) (neg_of y.lo) i.lo_open (neg_not_pos y.hi j.hi_open) (neg_not_neg y.lo j.lo_open) (neg_order y.lo y.hi j.ordered)))))
    (λ v f.
    let p = meet_part x (sum_of z y) v i (sum_interval z y k j) f in
    from_meet y (difference_of v z) j (difference_interval v z p.interval k)
    (subst (λ c. IsTrue (le y.hi (sub_of Up v.hi c))) (sym e)
    (less_rests x.lo y.hi v.hi i.lo_open j.hi_open p.interval.hi_open (le_trans x.lo v.lo v.hi p.low p.interval.ordered))))

pub difference_high : (z x y : Bounds) → IsInterval z → IsInterval x → IsInterval y → z.hi ≡ (difference_of x y).hi → difference_above_of z x y ≡ back_sub_of z x y
unfolding difference_above_of back_sub_of sum_of difference_of
difference_high z x y k i j e =
    narrowed_same (from_of x (add_of Down z.lo y.lo)) (meet_of x (sum_of z y)) _ _
    (from_meet x (sum_of z y) i (sum_interval z y k j)
    (subst (λ c. IsTrue (le x.hi (add_of Up c y.hi))) (sym e)
    (subst (λ d. IsTrue (le x.hi (add_of Up (sub_of Up x.hi y.lo) d))) (twice_neg y.hi)
    (high_rests x.hi (neg_of y.lo) (neg_of y.hi) i.hi_open (neg_not_neg y.lo j.lo_open) (neg_not_pos y.hi j.hi_open) (neg_order y.lo y.hi j.ordered)))))
    (λ v f.
    let p = meet_part x (sum_of z y) v i (sum_interval z y k j) f in
    up_to_meet y (difference_of v z) j (difference_interval v z p.interval k)
    (subst (λ c. IsTrue (le (sub_of Down v.lo c) y.lo)) (sym e)
    (more_rests x.hi y.lo v.lo i.hi_open j.lo_open p.interval.lo_open (le_trans v.lo v.hi x.hi p.interval.ordered p.high))))
