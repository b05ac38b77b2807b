-- Quotients are inclusion monotone.
use Rattle.std.proofs.Common.{◌≡◌, refl, ◌∙◌, ap, subst, arith, inl, inr}
use Rattle.std.proofs.lemmas.Int.{ints}
use Rattle.std.specs.Prelude.{IsTrue, Bool, true, false, ◌&&◌, Option, Some, None, if◌then◌else◌}
use Rattle.pv_num.specs.Extended.{Extended, NegInf, Fin, PosInf}
use Rattle.pv_num.specs.Order.{le, lt}
use Rattle.pv_num.specs.Arithmetic.{neg_of, div_of}
use Rattle.pv_num.specs.declared.num.End.{End}
use Rattle.pv_num.specs.declared.num.End.TheVariants.{Down, Up}
use Rattle.pv_interval.specs.Bounds.{Bounds, IsInterval, between, everything}
use Rattle.pv_interval.specs.Subsets.{IsSubset, IsSubsetSome}
use Rattle.pv_interval.specs.Tables.{nought, exactly, is_from_nought, is_to_nought, is_nought, has_nought, crosses_nought, of_ends, over_from_nought, over_to_nought, quotient_across, quotient_of}
use Rattle.pv_interval.proofs.Ends.{le_trans, lt_from}
use Rattle.pv_interval.proofs.Choices.{by_le}
use Rattle.pv_interval.proofs.Monotone.{neg_least, pos_greatest, div_mono, div_down, div_up, div_from_zero, div_to_zero}
use Rattle.pv_interval.proofs.Orders.{cond_keeps}
use Rattle.pv_interval.proofs.Powers.{turn_le, turn_from}
use Rattle.pv_interval.proofs.Quotients.{div_turn, not_turned, lower_too, and_left, and_right}
use Rattle.pv_interval.proofs.Picks.{under_mono, under_up, under_down, above_too}
use Rattle.pv_interval.proofs.Cases.{quotient_none}
use Rattle.pv_interval.proofs.Contained.{Held, low_held, IsSteady, four_below, four_above, below_four, above_four}

-- ---- divisors on one side of 0

above_steady : (v w : Bounds) → le w.lo nought ≡ false → IsSteady div_of v w
above_steady v w z = record {
  first = λ s e f h k. let p = above_too w.lo f k.low z in
      inl (div_mono s v.lo e f h.low p, div_mono s e v.hi f h.high p);
  second = λ s e f h k. let p = above_too w.lo f k.low z in by_le nought e
      (λ n. inr (div_down s e f w.hi n p k.high, div_down s e w.lo f n z k.low))
      (λ n. inl (div_up s e w.lo f n z k.low, div_up s e f w.hi n p k.high));
}

below_steady : (v w : Bounds) → le nought w.hi ≡ false → IsSteady div_of v w
below_steady v w z = record {
  first = λ s e f h k. let p = lower_too f w.hi k.high z in
      inr (under_mono s e v.hi f h.high p, under_mono s v.lo e f h.low p);
  second = λ s e f h k. let p = lower_too f w.hi k.high z in by_le nought e
      (λ n. inr (under_down s e f w.hi n k.high z, under_down s e w.lo f n k.low p))
      (λ n. inl (under_up s e w.lo f n k.low p, under_up s e f w.hi n k.high z));
}

-- ---- what an interval must be to hold the quotients of all parts of v and w

-- z lies around what is between the quotients of two ends
abbrev IsAround : Bounds → Extended → Extended → Type 0
IsAround z e f = IsTrue (le z.lo (div_of Down e f)) × IsTrue (le (div_of Up e f) z.hi)

record Covers (v w z : Bounds) : Type 0 where
  above : (e f : Extended) → Held v e → Held w f → le f nought ≡ false → IsAround z e f
  below : (e f : Extended) → Held v e → Held w f → le nought f ≡ false → IsAround z e f
  high_up : IsTrue (has_nought w) → le v.hi nought ≡ false → le w.hi nought ≡ false → IsTrue (le PosInf z.hi)
  low_up : IsTrue (has_nought w) → le nought v.lo ≡ false → le w.hi nought ≡ false → IsTrue (le z.lo NegInf)
  low_down : IsTrue (has_nought w) → le v.hi nought ≡ false → le nought w.lo ≡ false → IsTrue (le z.lo NegInf)
  high_down : IsTrue (has_nought w) → le nought v.lo ≡ false → le nought w.lo ≡ false → IsTrue (le PosInf z.hi)

abbrev CoversSome : Bounds → Bounds → Option Bounds → Type 0
CoversSome v w None = IsTrue (is_nought w)
CoversSome v w (Some z) = Covers v w z

-- ---- the whole's quotient is so wide

-- division by a number below 0 turns the sign
under_from : (s : End) (a e : Extended) → IsTrue (le a nought) → le nought e ≡ false → IsTrue (le nought (div_of s a e))
under_from s a e h k = subst (λ d. IsTrue (le nought d)) (div_turn s a e k) (div_from_zero s (neg_of a) (neg_of e) (turn_le a h) (not_turned e k))

under_to : (s : End) (a e : Extended) → IsTrue (le nought a) → le nought e ≡ false → IsTrue (le (div_of s a e) nought)
under_to s a e h k = subst (λ d. IsTrue (le d nought)) (div_turn s a e k) (div_to_zero s (neg_of a) (neg_of e) (turn_from a h) (not_turned e k))

clash : {P : Type 0} (t : Bool) → t ≡ true → t ≡ false → P
clash true h k = absurd (cc)
clash false h k = absurd (cc)

one_side : {P : Type 0} (s t : Bool) → (s && t) ≡ false → (s ≡ false → P) → (t ≡ false → P) → P
one_side true t e f g = g e
one_side false t e f g = f refl

everything_covers : (v w : Bounds) → Covers v w everything
everything_covers v w = record {
  above = λ e f h k z. (neg_least (div_of Down e f), pos_greatest (div_of Up e f));
  below = λ e f h k z. (neg_least (div_of Down e f), pos_greatest (div_of Up e f));
  high_up = λ n a b. refl;
  low_up = λ n a b. refl;
  low_down = λ n a b. refl;
  high_down = λ n a b. refl;
}

nought_covers : (v w : Bounds) → IsTrue (is_nought v) → Covers v w (exactly nought)
nought_covers v w t =
    let a = and_left (le nought v.lo) (le v.hi nought) t in let b = and_right (le nought v.lo) (le v.hi nought) t in
    record {
      above = λ e f h k z.
          let p = le_trans nought v.lo e a h.low in let q = le_trans e v.hi nought h.high b in
          (div_from_zero Down e f p z, div_to_zero Up e f q z);
      below = λ e f h k z.
          let p = le_trans nought v.lo e a h.low in let q = le_trans e v.hi nought h.high b in
          (under_from Down e f q z, under_to Up e f p z);
      high_up = λ n c d. clash (le v.hi nought) b c;
      low_up = λ n c d. clash (le nought v.lo) a c;
      low_down = λ n c d. clash (le v.hi nought) b c;
      high_down = λ n c d. clash (le nought v.lo) a c;
    }

-- divisors from 0 on
from_covers : (v w : Bounds) → IsTrue (le nought w.lo) → Covers v w (over_from_nought v w.hi)
from_covers v w y =
    let low : Bounds = between (div_of Down v.lo w.hi) PosInf in
    let high : Bounds = between NegInf (div_of Up v.hi w.hi) in
    cond_keeps (Covers v w) (is_from_nought v) low (if is_to_nought v then high else everything)
    (λ a. record {
      above = λ e f h k z. (
        le_trans (div_of Down v.lo w.hi) (div_of Down v.lo f) (div_of Down e f) (div_down Down v.lo f w.hi a z k.high) (div_mono Down v.lo e f h.low z),
        pos_greatest (div_of Up e f),
      );
      below = λ e f h k z. clash (le nought f) (le_trans nought w.lo f y k.low) z;
      high_up = λ n b c. refl;
      low_up = λ n b c. clash (le nought v.lo) a b;
      low_down = λ n b c. clash (le nought w.lo) y c;
      high_down = λ n b c. refl;
    })
    (λ a. cond_keeps (Covers v w) (is_to_nought v) high everything
    (λ b. record {
      above = λ e f h k z. (
        neg_least (div_of Down e f),
        le_trans (div_of Up e f) (div_of Up v.hi f) (div_of Up v.hi w.hi) (div_mono Up e v.hi f h.high z) (div_up Up v.hi f w.hi b z k.high),
      );
      below = λ e f h k z. clash (le nought f) (le_trans nought w.lo f y k.low) z;
      high_up = λ n c d. clash (le v.hi nought) b c;
      low_up = λ n c d. refl;
      low_down = λ n c d. refl;
      high_down = λ n c d. clash (le nought w.lo) y d;
    })
    (λ b. everything_covers v w))

-- divisors up to 0
to_covers : (v w : Bounds) → IsTrue (le w.hi nought) → Covers v w (over_to_nought v w.lo)
to_covers v w y =
    let high : Bounds = between NegInf (div_of Up v.lo w.lo) in
    let low : Bounds = between (div_of Down v.hi w.lo) PosInf in
    cond_keeps (Covers v w) (is_from_nought v) high (if is_to_nought v then low else everything)
    (λ a. record {
      above = λ e f h k z. clash (le f nought) (le_trans f w.hi nought k.high y) z;
      below = λ e f h k z. (
        neg_least (div_of Down e f),
        le_trans (div_of Up e f) (div_of Up v.lo f) (div_of Up v.lo w.lo) (under_mono Up v.lo e f h.low z) (under_down Up v.lo w.lo f a k.low z),
      );
      high_up = λ n b c. clash (le w.hi nought) y c;
      low_up = λ n b c. refl;
      low_down = λ n b c. refl;
      high_down = λ n b c. clash (le nought v.lo) a b;
    })
    (λ a. cond_keeps (Covers v w) (is_to_nought v) low everything
    (λ b. record {
      above = λ e f h k z. clash (le f nought) (le_trans f w.hi nought k.high y) z;
      below = λ e f h k z. (
        le_trans (div_of Down v.hi w.lo) (div_of Down v.hi f) (div_of Down e f) (under_up Down v.hi w.lo f b k.low z) (under_mono Down e v.hi f h.high z),
        pos_greatest (div_of Up e f),
      );
      high_up = λ n c d. clash (le w.hi nought) y d;
      low_up = λ n c d. clash (le w.hi nought) y d;
      low_down = λ n c d. clash (le v.hi nought) b c;
      high_down = λ n c d. refl;
    })
    (λ b. everything_covers v w))

not_above : (w : Bounds) → crosses_nought w ≡ false → le nought w.lo ≡ false → IsTrue (le w.hi nought)
not_above w c n = by_value (le w.hi nought) refl
  where
    by_value : (t : Bool) → le w.hi nought ≡ t → IsTrue (le w.hi nought)
    by_value true e = e
    by_value false e =
        let p : crosses_nought w ≡ true = ap (λ s. s && lt nought w.hi) (lt_from w.lo nought n) ∙ lt_from nought w.hi e in
        clash (crosses_nought w) p c

across_covers : (v w : Bounds) → Covers v w (quotient_across v w)
across_covers v w =
    cond_keeps (Covers v w) (crosses_nought w) everything (if le nought w.lo then over_from_nought v w.hi else over_to_nought v w.lo)
    (λ c. everything_covers v w)
    (λ c. cond_keeps (Covers v w) (le nought w.lo) (over_from_nought v w.hi) (over_to_nought v w.lo)
    (λ n. from_covers v w n) (λ n. to_covers v w (not_above w c n)))

steady_covers : (v w : Bounds) → IsSteady div_of v w → has_nought w ≡ false → Covers v w (of_ends div_of v w)
steady_covers v w t n = record {
  above = λ e f h k z. (four_below div_of v w e f t h k, four_above div_of v w e f t h k);
  below = λ e f h k z. (four_below div_of v w e f t h k, four_above div_of v w e f t h k);
  high_up = λ m a b. clash (has_nought w) m n;
  low_up = λ m a b. clash (has_nought w) m n;
  low_down = λ m a b. clash (has_nought w) m n;
  high_down = λ m a b. clash (has_nought w) m n;
}

quotient_covers : (v w : Bounds) → CoversSome v w (quotient_of v w)
unfolding quotient_of
quotient_covers v w =
    let at_zero : Bounds = if is_nought v then exactly nought else quotient_across v w in
    cond_keeps (CoversSome v w) (is_nought w) None (if has_nought w then Some at_zero else Some (of_ends div_of v w))
    (λ t. t)
    (λ t. cond_keeps (CoversSome v w) (has_nought w) (Some at_zero) (Some (of_ends div_of v w))
    (λ u. cond_keeps (Covers v w) (is_nought v) (exactly nought) (quotient_across v w) (nought_covers v w) (λ _. across_covers v w))
    (λ u. one_side (le w.lo nought) (le nought w.hi) u
    (λ a. steady_covers v w (above_steady v w a) u) (λ b. steady_covers v w (below_steady v w b) u)))

-- ---- the part's quotient is no wider

held_more : (x v : Bounds) (e : Extended) → IsSubset x v → Held x e → Held v e
held_more x v e h k = record { low = le_trans v.lo x.lo e h.low k.low; high = le_trans e x.hi v.hi k.high h.high }

has_more : (y w : Bounds) → IsSubset y w → IsTrue (has_nought y) → IsTrue (has_nought w)
has_more y w k n = both (le w.lo nought) (le nought w.hi)
    (le_trans w.lo y.lo nought k.low (and_left (le y.lo nought) (le nought y.hi) n))
    (le_trans nought y.hi w.hi (and_right (le y.lo nought) (le nought y.hi) n) k.high)
  where
    both : (s t : Bool) → s ≡ true → t ≡ true → s && t ≡ true
    both s t h k = ap (λ w. w && t) h ∙ k

part_covers : (x y v w z : Bounds) → IsSubset x v → IsSubset y w → Covers v w z → Covers x y z
part_covers x y v w z h k c = record {
  above = λ e f a b. c.above e f (held_more x v e h a) (held_more y w f k b);
  below = λ e f a b. c.below e f (held_more x v e h a) (held_more y w f k b);
  high_up = λ n a b. c.high_up (has_more y w k n) (above_too x.hi v.hi h.high a) (above_too y.hi w.hi k.high b);
  low_up = λ n a b. c.low_up (has_more y w k n) (lower_too v.lo x.lo h.low a) (above_too y.hi w.hi k.high b);
  low_down = λ n a b. c.low_down (has_more y w k n) (above_too x.hi v.hi h.high a) (lower_too w.lo y.lo k.low b);
  high_down = λ n a b. c.high_down (has_more y w k n) (lower_too v.lo x.lo h.low a) (lower_too w.lo y.lo k.low b);
}

own_lo : (x : Bounds) → IsInterval x → Held x x.lo
own_lo x i = low_held x x i (same x)
  where
    same : (x : Bounds) → IsSubset x x
    same x = record { low = le_same x.lo; high = le_same x.hi }
      where
        le_same : (a : Extended) → IsTrue (le a a)
        le_same a = by_le a a (λ h. h) (λ h. h)

own_hi : (x : Bounds) → IsInterval x → Held x x.hi
own_hi x i = let l = own_lo x i in record { low = i.ordered; high = by_le x.hi x.hi (λ h. h) (λ h. h) }

ends_in : (x y z : Bounds) → IsInterval x → IsInterval y → ((e f : Extended) → Held x e → Held y f → IsAround z e f) → IsSubset (of_ends div_of x y) z
ends_in x y z i j h =
    let a = own_lo x i in let b = own_hi x i in let c = own_lo y j in let d = own_hi y j in
    let p = h x.lo y.lo a c in let q = h x.lo y.hi a d in let r = h x.hi y.lo b c in let s = h x.hi y.hi b d in
    record {
      low = below_four z.lo (div_of Down x.lo y.lo) (div_of Down x.lo y.hi) (div_of Down x.hi y.lo) (div_of Down x.hi y.hi) p.0 q.0 r.0 s.0;
      high = above_four z.hi (div_of Up x.lo y.lo) (div_of Up x.lo y.hi) (div_of Up x.hi y.lo) (div_of Up x.hi y.hi) p.1 q.1 r.1 s.1;
    }

zero_in : (x y z : Bounds) → IsInterval x → IsInterval y → Covers x y z → IsTrue (is_nought x) → is_nought y ≡ false → IsSubset (exactly nought) z
zero_in x y z i j c t n =
    let a = and_left (le nought x.lo) (le x.hi nought) t in let b = and_right (le nought x.lo) (le x.hi nought) t in
    let a' = le_trans nought x.lo x.hi a i.ordered in let b' = le_trans x.lo x.hi nought i.ordered b in
    one_side (le nought y.lo) (le y.hi nought) n
    (λ l. let r = c.below x.lo y.lo (own_lo x i) (own_lo y j) l in record {
      low = le_trans z.lo (div_of Down x.lo y.lo) nought r.0 (under_to Down x.lo y.lo a l);
      high = le_trans nought (div_of Up x.lo y.lo) z.hi (under_from Up x.lo y.lo b' l) r.1;
    })
    (λ u. let r = c.above x.lo y.hi (own_lo x i) (own_hi y j) u in record {
      low = le_trans z.lo (div_of Down x.lo y.hi) nought r.0 (div_to_zero Down x.lo y.hi b' u);
      high = le_trans nought (div_of Up x.lo y.hi) z.hi (div_from_zero Up x.lo y.hi a u) r.1;
    })

-- the row of an x that is not [0,0]
across_in : (x y z : Bounds) → IsInterval x → IsInterval y → Covers x y z → is_nought x ≡ false → is_nought y ≡ false → IsTrue (has_nought y)
    → IsSubset (quotient_across x y) z
across_in x y z i j c m n t =
    let P : Bounds → Type 0 = λ q. IsSubset q z in
    let whole : IsTrue (le z.lo NegInf) → IsTrue (le PosInf z.hi) → P everything = λ l h. record { low = l; high = h } in
    cond_keeps P (crosses_nought y) everything (if le nought y.lo then over_from_nought x y.hi else over_to_nought x y.lo)
    (λ s.
    let l = below_zero y.lo (and_left (lt y.lo nought) (lt nought y.hi) s) in
    let u = above_zero y.hi (and_right (lt y.lo nought) (lt nought y.hi) s) in
    one_side (le nought x.lo) (le x.hi nought) m
    (λ a. whole (c.low_up t a u) (c.high_down t a l)) (λ b. whole (c.low_down t b l) (c.high_up t b u)))
    (λ s. cond_keeps P (le nought y.lo) (over_from_nought x y.hi) (over_to_nought x y.lo)
    (λ l. let u = other (le nought y.lo) (le y.hi nought) n l in
    let low : Bounds = between (div_of Down x.lo y.hi) PosInf in
    let high : Bounds = between NegInf (div_of Up x.hi y.hi) in
    cond_keeps P (is_from_nought x) low (if is_to_nought x then high else everything)
    (λ a. let b = other (le nought x.lo) (le x.hi nought) m a in
    record { low = (c.above x.lo y.hi (own_lo x i) (own_hi y j) u).0; high = c.high_up t b u })
    (λ a. cond_keeps P (is_to_nought x) high everything
    (λ b. record { low = c.low_up t a u; high = (c.above x.hi y.hi (own_hi x i) (own_hi y j) u).1 })
    (λ b. whole (c.low_up t a u) (c.high_up t b u))))
    (λ l.
    let high : Bounds = between NegInf (div_of Up x.lo y.lo) in
    let low : Bounds = between (div_of Down x.hi y.lo) PosInf in
    cond_keeps P (is_from_nought x) high (if is_to_nought x then low else everything)
    (λ a. let b = other (le nought x.lo) (le x.hi nought) m a in
    record { low = c.low_down t b l; high = (c.below x.lo y.lo (own_lo x i) (own_lo y j) l).1 })
    (λ a. cond_keeps P (is_to_nought x) low everything
    (λ b. record { low = (c.below x.hi y.lo (own_hi x i) (own_lo y j) l).0; high = c.high_down t a l })
    (λ b. whole (c.low_down t b l) (c.high_down t a l)))))
  where
    other : (s t : Bool) → (s && t) ≡ false → s ≡ true → t ≡ false
    other true t e h = e
    other false t e h = absurd (cc)

    below_zero : (e : Extended) → lt e nought ≡ true → le nought e ≡ false
    below_zero NegInf h = refl
    below_zero (Fin e) h = grind (arith, ints)
    below_zero PosInf h = absurd (cc)

    above_zero : (e : Extended) → lt nought e ≡ true → le e nought ≡ false
    above_zero NegInf h = absurd (cc)
    above_zero (Fin e) h = grind (arith, ints)
    above_zero PosInf h = refl

covered_in : (x y z : Bounds) → IsInterval x → IsInterval y → Covers x y z → IsSubsetSome (quotient_of x y) (Some z)
unfolding quotient_of
covered_in x y z i j c =
    let P : Option Bounds → Type 0 = λ q. IsSubsetSome q (Some z) in
    let at_zero : Bounds = if is_nought x then exactly nought else quotient_across x y in
    cond_keeps P (is_nought y) None (if has_nought y then Some at_zero else Some (of_ends div_of x y))
    (λ t. tt)
    (λ t. cond_keeps P (has_nought y) (Some at_zero) (Some (of_ends div_of x y))
    (λ u. cond_keeps (λ q. IsSubset q z) (is_nought x) (exactly nought) (quotient_across x y)
    (λ v. zero_in x y z i j c v t) (λ v. across_in x y z i j c v t u))
    (λ u. ends_in x y z i j (λ e f h k. one_side (le y.lo nought) (le nought y.hi) u
    (λ a. c.above e f h k (above_too y.lo f k.low a)) (λ b. c.below e f h k (lower_too f y.hi k.high b)))))

none_in : (o p : Option Bounds) → o ≡ None → IsSubsetSome o p
none_in None p e = tt
none_in (Some z) p e = absurd (cc)

by_whole : (x y v w : Bounds) (o : Option Bounds) → IsInterval x → IsInterval y → IsSubset x v → IsSubset y w → CoversSome v w o → IsSubsetSome (quotient_of x y) o
by_whole x y v w None i j h k c =
    let a = le_trans nought w.lo y.lo (and_left (le nought w.lo) (le w.hi nought) c) k.low in
    let b = le_trans y.hi w.hi nought k.high (and_right (le nought w.lo) (le w.hi nought) c) in
    none_in (quotient_of x y) None (quotient_none x y (ap (λ s. s && le y.hi nought) a ∙ b))
by_whole x y v w (Some z) i j h k c = covered_in x y z i j (part_covers x y v w z h k c)

pub quotient_contained : (x y v w : Bounds) → IsInterval x → IsInterval y → IsSubset x v → IsSubset y w → IsSubsetSome (quotient_of x y) (quotient_of v w)
quotient_contained x y v w i j h k = by_whole x y v w (quotient_of v w) i j h k (quotient_covers v w)
