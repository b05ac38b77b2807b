-- What a program leaves of a box lies in it.
use Rattle.std.proofs.Common.{◌≡◌, ◌≢◌, ℕ, zero, suc, ◌+◌, ◌<◌, ◌≤◌, List, [], ◌∷◌, length, refl, ap, sym, ◌∙◌, subst, arith, get_or, cond}
use Rattle.std.specs.Prelude.{option_and_then, Option, Some, None, All, IsTrue, Bool, true, false, map, ◌&&◌}
use Rattle.std.proofs.lemmas.Bool.{true≢false}
use Rattle.std.proofs.lemmas.List.Elements.{All-cons, All-head, All-tail, All-nil}
use Rattle.pv_num.specs.Extended.{Extended, NegInf, Fin, PosInf}
use Rattle.pv_num.specs.Order.{le, lt, lesser, greater}
use Rattle.pv_num.proofs.Orders.{le-refl, le-trans}
use Rattle.pv_interval.specs.Bounds.{Bounds, IsInterval, everything, between, interval_from}
use Rattle.pv_interval.specs.Tables.{hull_of}
use Rattle.pv_interval.proofs.Choices.{lesser_either, greater_either}
use Rattle.pv_interval.proofs.Intervals.{hull_interval}
use Rattle.pv_box.specs.Boxes.{IsBox, hull_boxes}
use Rattle.pv_box.specs.QHull as q
use Rattle.pv_hc4.specs.Revise.{Sides, revised}
use Rattle.pv_hc4.specs.Members.{AreWithin, AreOver}
use Rattle.pv_hc4.proofs.Revising.{came}
use Rattle.pv_hc4.proofs.Within.{revised-within, revised-box}
use Rattle.pv_ctc.specs.Contracting.{Effect, side_at, in_order, turns_of, with_result, results, hull_with, hull_all, q_hull_all, all_revised, contract_of, effects}
use Rattle.pv_ctc.specs.Plans.{Plan, Plans, hc4, compose, union, qinter, fix, prop, no_plan, plan_and}
use Rattle.pv_ctc.specs.Plans.{IsFor, AreFor}
use Rattle.pv_ctc.specs.Members.{AllOver}
use Rattle.pv_ctc.proofs.Boxes.{hulls_length}

-- what a step of the q-hull that gave something came from
record QCame {A B : Type 0} (o : Option A) (f : A → Option B) (y : B) : Type 0 where
  pub from : A
  pub first : o ≡ Some from
  pub then_is : f from ≡ Some y

q_came : {A B : Type 0} (o : Option A) (f : A → Option B) (y : B) → option_and_then f o ≡ Some y → QCame o f y
q_came None f y e = absurd (cc)
q_came (Some x) f y e = record { from = x; first = refl; then_is = e }

pub some_is : {A : Type 0} (x y : A) → Some x ≡ Some y → x ≡ y
some_is x y e = cc

pub within_refl : (b : List Bounds) → AreWithin b b
within_refl [] = tt
within_refl (x ∷ b) = (le-refl x.lo, le-refl x.hi, within_refl b)

pub within_trans : (a b c : List Bounds) → AreWithin a b → AreWithin b c → AreWithin a c
within_trans [] [] [] h k = tt
within_trans [] [] (z ∷ c) h k = absurd k
within_trans [] (y ∷ b) c h k = absurd h
within_trans (x ∷ a) [] c h k = absurd h
within_trans (x ∷ a) (y ∷ b) [] h k = absurd k
within_trans (x ∷ a) (y ∷ b) (z ∷ c) h k = (le-trans z.lo y.lo x.lo k.0 h.0, le-trans x.hi y.hi z.hi h.1 k.1, within_trans a b c h.2 k.2)

pub within_length : (c b : List Bounds) → AreWithin c b → length c ≡ length b
within_length [] [] h = refl
within_length [] (y ∷ b) h = absurd h
within_length (x ∷ c) [] h = absurd h
within_length (x ∷ c) (y ∷ b) h = ap suc (within_length c b h.2)

-- an interval lies in another
abbrev pub LiesWithin : Bounds → Bounds → Type 0
LiesWithin x y = IsTrue (le y.lo x.lo) × IsTrue (le x.hi y.hi)

pub within_at : (c b : List Bounds) (k : ℕ) → AreWithin c b → k < length b → LiesWithin (get_or c k everything) (get_or b k everything)
within_at [] [] k h l = absurd (omega arith)
within_at [] (y ∷ b) k h l = absurd h
within_at (x ∷ c) [] k h l = absurd h
within_at (x ∷ c) (y ∷ b) zero h l = (h.0, h.1)
within_at (x ∷ c) (y ∷ b) (suc k) h l = within_at c b k h.2 (omega arith)

-- what is left of a box is a box in it
pub record IsPart (c b : List Bounds) : Type 0 where
  pub within : AreWithin c b
  pub box : IsBox c

abbrev pub AllShrink : List Effect → Type 0
AllShrink [] = Unit {0}
AllShrink (f ∷ fs) = ((b c : List Bounds) → IsBox b → f b ≡ Some c → IsPart c b) × AllShrink fs

part_refl : (b : List Bounds) → IsBox b → IsPart b b
part_refl b h = record { within = within_refl b; box = h }

revised_part : (s : Sides) (n : ℕ) → AreOver n s → (b c : List Bounds) → IsBox b → revised s b ≡ Some c → IsPart c b
revised_part s n o b c h e = record { within = revised-within s b c e; box = revised-box s n b c o.0 o.1 h e }

pub in_order_shrinks : (fs : List Effect) → AllShrink fs → (b c : List Bounds) → IsBox b → in_order fs b ≡ Some c → IsPart c b
in_order_shrinks [] h b c i e = subst (λ x. IsPart x b) (some_is b c e) (part_refl b i)
in_order_shrinks (f ∷ fs) h b c i e =
    let w = came (f b) (in_order fs) c e in
    let first = h.0 b w.from i w.first in
    let rest = in_order_shrinks fs h.1 w.from c first.box w.then_is in
    record { within = within_trans c w.from b rest.within first.within; box = rest.box }

pub turns_shrink : (n : ℕ) (f : Effect) → ((b c : List Bounds) → IsBox b → f b ≡ Some c → IsPart c b) → (b c : List Bounds) → IsBox b → turns_of n f b ≡ Some c → IsPart c b
turns_shrink zero f h b c i e = subst (λ x. IsPart x b) (some_is b c e) (part_refl b i)
turns_shrink (suc n) f h b c i e =
    let w = came (f b) (turns_of n f) c e in
    let first = h b w.from i w.first in
    let rest = turns_shrink n f h w.from c first.box w.then_is in
    record { within = within_trans c w.from b rest.within first.within; box = rest.box }

-- each box of a list is part of b
abbrev pub AreParts : List (List Bounds) → List Bounds → Type 0
AreParts [] b = Unit {0}
AreParts (c ∷ cs) b = IsPart c b × AreParts cs b

with_part : (o : Option (List Bounds)) (cs : List (List Bounds)) (b : List Bounds) → ((c : List Bounds) → o ≡ Some c → IsPart c b) → AreParts cs b → AreParts (with_result o cs) b
with_part None cs b h k = k
with_part (Some c) cs b h k = (h c refl, k)

pub results_parts : (fs : List Effect) → AllShrink fs → (b : List Bounds) → IsBox b → AreParts (results fs b) b
results_parts [] h b i = tt
results_parts (f ∷ fs) h b i = with_part (f b) (results fs b) b (λ c e. h.0 b c i e) (results_parts fs h.1 b i)

pub hull_within : (c d b : List Bounds) → AreWithin c b → AreWithin d b → AreWithin (hull_boxes c d) b
unfolding hull_of
hull_within [] d b h k = h
hull_within (x ∷ c) [] b h k = h
hull_within (x ∷ c) (y ∷ d) [] h k = absurd h
hull_within (x ∷ c) (y ∷ d) (z ∷ b) h k =
    (lesser_either (λ e. IsTrue (le z.lo e)) x.lo y.lo h.0 k.0, greater_either (λ e. IsTrue (le e z.hi)) x.hi y.hi h.1 k.1, hull_within c d b h.2 k.2)

hull_intervals : (c d : List Bounds) → All IsInterval c → All IsInterval (hull_boxes c d)
hull_intervals [] d h = h
hull_intervals (x ∷ c) [] h = h
hull_intervals (x ∷ c) (y ∷ d) h =
    All-cons IsInterval (hull_of x y) (hull_boxes c d) (hull_interval x y (All-head IsInterval x c h)) (hull_intervals c d (All-tail IsInterval x c h))

pub hull_box : (c d : List Bounds) → IsBox c → IsBox (hull_boxes c d)
hull_box c d h = record {
  some = subst (λ n. 0 < n) (sym (hulls_length c d)) h.some;
  few = subst (λ n. n ≤ 12) (sym (hulls_length c d)) h.few;
  intervals = hull_intervals c d h.intervals;
}

hull_with_part : (c : List Bounds) (cs : List (List Bounds)) (b : List Bounds) → IsPart c b → AreParts cs b → IsPart (hull_with c cs) b
hull_with_part c [] b h k = h
hull_with_part c (d ∷ cs) b h k = hull_with_part (hull_boxes c d) cs b (record { within = hull_within c d b h.within k.0.within; box = hull_box c d h.box }) k.1

pub hull_all_part : (cs : List (List Bounds)) (b c : List Bounds) → AreParts cs b → hull_all cs ≡ Some c → IsPart c b
hull_all_part [] b c h e = absurd (cc)
hull_all_part (d ∷ cs) b c h e = subst (λ x. IsPart x b) (some_is (hull_with d cs) c e) (hull_with_part d cs b h.0 h.1)

-- each interval of a list lies in y
abbrev pub AllWithin : List Bounds → Bounds → Type 0
AllWithin [] y = Unit {0}
AllWithin (x ∷ xs) y = LiesWithin x y × AllWithin xs y

column_within : (k : ℕ) (cs : List (List Bounds)) (b : List Bounds) → AreParts cs b → k < length b → AllWithin (q.column k cs) (get_or b k everything)
column_within k [] b h l = tt
column_within k (c ∷ cs) b h l = (within_at c b k h.0.within l, column_within k cs b h.1 l)

lower_from : (t : Bool) (m x : Extended) (o : Option Extended) (l : Extended) → IsTrue (le m x) → ((k : Extended) → o ≡ Some k → IsTrue (le m k)) → q.lower_of t x o ≡ Some l → IsTrue (le m l)
lower_from false m x o l h k e = k l e
lower_from true m x None l h k e = subst (λ y. IsTrue (le m y)) (some_is x l e) h
lower_from true m x (Some y) l h k e = subst (λ y. IsTrue (le m y)) (some_is (lesser x y) l e) (lesser_either (λ z. IsTrue (le m z)) x y h (k y refl))

upper_from : (t : Bool) (m x : Extended) (o : Option Extended) (l : Extended) → IsTrue (le x m) → ((k : Extended) → o ≡ Some k → IsTrue (le k m)) → q.upper_of t x o ≡ Some l → IsTrue (le l m)
upper_from false m x o l h k e = k l e
upper_from true m x None l h k e = subst (λ y. IsTrue (le y m)) (some_is x l e) h
upper_from true m x (Some y) l h k e = subst (λ y. IsTrue (le y m)) (some_is (greater x y) l e) (greater_either (λ z. IsTrue (le z m)) x y h (k y refl))

least_within : (n : ℕ) (all xs : List Bounds) (y : Bounds) (l : Extended) → AllWithin xs y → q.least_end n all xs ≡ Some l → IsTrue (le y.lo l)
least_within n all [] y l h e = absurd (cc)
least_within n all (x ∷ xs) y l h e = lower_from (q.is_in_enough n all x.lo) y.lo x.lo (q.least_end n all xs) l h.0.0 (λ k f. least_within n all xs y k h.1 f) e

greatest_within : (n : ℕ) (all xs : List Bounds) (y : Bounds) (l : Extended) → AllWithin xs y → q.greatest_end n all xs ≡ Some l → IsTrue (le l y.hi)
greatest_within n all [] y l h e = absurd (cc)
greatest_within n all (x ∷ xs) y l h e = upper_from (q.is_in_enough n all x.hi) y.hi x.hi (q.greatest_end n all xs) l h.0.1 (λ k f. greatest_within n all xs y k h.1 f) e

record Formed (l h : Extended) (z : Bounds) : Type 0 where
  pub is : between l h ≡ z
  pub interval : IsInterval z

-- an interval in y
pub record IsPlace (z y : Bounds) : Type 0 where
  pub within : LiesWithin z y
  pub interval : IsInterval z

some_true : (t : Bool) (w z : Bounds) → cond t (Some w) None ≡ Some z → (t ≡ true) × (w ≡ z)
some_true true w z e = (refl, some_is w z e)
some_true false w z e = absurd (cc)

both : (p r : Bool) → (p && r) ≡ true → (p ≡ true) × (r ≡ true)
both true r h = (refl, h)
both false r h = absurd (cc)

not_top : (l : Extended) → lt l PosInf ≡ true → l ≢ PosInf
not_top NegInf h = λ (e : NegInf ≡ PosInf). cc
not_top (Fin n) h = λ (e : Fin n ≡ PosInf). cc
not_top PosInf h = λ e. absurd (true≢false (sym h))

not_bottom : (h : Extended) → lt NegInf h ≡ true → h ≢ NegInf
not_bottom NegInf h = λ e. absurd (true≢false (sym h))
not_bottom (Fin n) h = λ (e : Fin n ≡ NegInf). cc
not_bottom PosInf h = λ (e : PosInf ≡ NegInf). cc

from_ends : (l h : Extended) (z : Bounds) → interval_from l h ≡ Some z → Formed l h z
from_ends l h z e =
    let t = some_true (le l h && (lt l PosInf && lt NegInf h)) (between l h) z e in
    let u = both (le l h) (lt l PosInf && lt NegInf h) t.0 in
    let v = both (lt l PosInf) (lt NegInf h) u.1 in
    let i : IsInterval (between l h) = record { ordered = u.0; lo_open = not_top l v.0; hi_open = not_bottom h v.1 } in
    record { is = t.1; interval = subst IsInterval t.1 i }

place_within : (n : ℕ) (xs : List Bounds) (y z : Bounds) → AllWithin xs y → q.place_hull_of n xs ≡ Some z → IsPlace z y
unfolding q.place_hull_of
place_within n xs y z h e =
    let v = q_came (q.least_end n xs xs) (λ l. option_and_then (λ k. interval_from l k) (q.greatest_end n xs xs)) z e in
    let w = q_came (q.greatest_end n xs xs) (λ k. interval_from v.from k) z v.then_is in
    let f = from_ends v.from w.from z w.then_is in
    let g : LiesWithin (between v.from w.from) y = (least_within n xs xs y v.from h v.first, greatest_within n xs xs y w.from h w.first) in
    record { within = subst (λ x. LiesWithin x y) f.is g; interval = f.interval }

-- places that lie in those of a list, and are intervals
abbrev pub ArePlaces : List Bounds → List Bounds → Type 0
ArePlaces [] [] = Unit {0}
ArePlaces [] (y ∷ ys) = ⊥
ArePlaces (x ∷ xs) [] = ⊥
ArePlaces (x ∷ xs) (y ∷ ys) = IsPlace x y × ArePlaces xs ys

pub places_within : (n k : ℕ) (cs : List (List Bounds)) (b c : List Bounds) → ((j : ℕ) → j < length b → AllWithin (q.column (k + j) cs) (get_or b j everything)) → q.places_from n k (length b) cs ≡ Some c → ArePlaces c b
places_within n k cs [] c h e = subst (λ x. ArePlaces x []) (some_is [] c e) tt
places_within n k cs (y ∷ b) c h e =
    let v = q_came (q.place_hull_of n (q.column k cs)) (λ x. option_and_then (λ xs. Some (x ∷ xs)) (q.places_from n (k + 1) (length b) cs)) c e in
    let w = q_came (q.places_from n (k + 1) (length b) cs) (λ xs. Some (v.from ∷ xs)) c v.then_is in
    let k0 : k + 0 ≡ k = omega arith in
    let here = place_within n (q.column k cs) y v.from (subst (λ m. AllWithin (q.column m cs) y) k0 (h 0 (omega arith))) v.first in
    let there = places_within n (k + 1) cs b w.from (λ j l. let m : k + suc j ≡ (k + 1) + j = omega arith in subst (λ i. AllWithin (q.column i cs) (get_or b j everything)) m (h (suc j) (omega arith))) w.first in
    subst (λ x. ArePlaces x (y ∷ b)) (some_is (v.from ∷ w.from) c w.then_is) (here, there)

pub places_lie : (c b : List Bounds) → ArePlaces c b → AreWithin c b
places_lie [] [] h = tt
places_lie [] (y ∷ b) h = absurd h
places_lie (x ∷ c) [] h = absurd h
places_lie (x ∷ c) (y ∷ b) h = (h.0.within.0, h.0.within.1, places_lie c b h.1)

places_intervals : (c b : List Bounds) → ArePlaces c b → All IsInterval c
places_intervals [] b h = All-nil IsInterval
places_intervals (x ∷ c) [] h = absurd h
places_intervals (x ∷ c) (y ∷ b) h = All-cons IsInterval x c h.0.interval (places_intervals c b h.1)

of_places : (c b : List Bounds) → IsBox b → ArePlaces c b → IsPart c b
of_places c b i h =
    let w = places_lie c b h in
    let l = within_length c b w in
    record {
      within = w;
      box = record {
        some = subst (λ n. 0 < n) (sym l) i.some;
        few = subst (λ n. n ≤ 12) (sym l) i.few;
        intervals = places_intervals c b h;
      };
    }

pub q_hull_part : (n : ℕ) (cs : List (List Bounds)) (b c : List Bounds) → IsBox b → AreParts cs b → q_hull_all n cs ≡ Some c → IsPart c b
unfolding q.q_hull_of
q_hull_part n [] b c i h e = absurd (cc)
q_hull_part n (d ∷ cs) b c i h e =
    let f : q.places_from n 0 (length b) (d ∷ cs) ≡ Some c = ap (λ m. q.places_from n 0 m (d ∷ cs)) (sym (within_length d b h.0.within)) ∙ e in
    of_places c b i (places_within n 0 (d ∷ cs) b c (λ j l. let m : j ≡ 0 + j = omega arith in subst (λ k. AllWithin (q.column k (d ∷ cs)) (get_or b j everything)) m (column_within j (d ∷ cs) b h l)) f)

pub all_revised_shrink : (n : ℕ) (ss : List Sides) → AllOver n ss → AllShrink (map revised ss)
all_revised_shrink n [] o = tt
all_revised_shrink n (s ∷ ss) o = (revised_part s n o.0, all_revised_shrink n ss o.1)

pub over_at : (n : ℕ) (ss : List Sides) (i : ℕ) → AllOver n ss → i < length ss → AreOver n (side_at ss i)
over_at n [] i o l = absurd (omega arith)
over_at n (s ∷ ss) zero o l = o.0
over_at n (s ∷ ss) (suc i) o l = over_at n ss i o.1 (omega arith)

mutual
  pub contract_part : (n : ℕ) (ss : List Sides) → AllOver n ss → (p : Plan) → IsFor (length ss) p → (b c : List Bounds) → IsBox b → contract_of ss p b ≡ Some c → IsPart c b
  contract_part n ss o (hc4 i) f b c h e = revised_part (side_at ss i) n (over_at n ss i o f) b c h e
  contract_part n ss o (compose ps) f b c h e = in_order_shrinks (effects ss ps) (effects_shrink n ss o ps f.1) b c h e
  contract_part n ss o (union ps) f b c h e = hull_all_part (results (effects ss ps) b) b c (results_parts (effects ss ps) (effects_shrink n ss o ps f.1) b h) e
  contract_part n ss o (qinter m ps) f b c h e = q_hull_part m (results (effects ss ps) b) b c h (results_parts (effects ss ps) (effects_shrink n ss o ps f.2) b h) e
  contract_part n ss o (fix m p) f b c h e = turns_shrink m (contract_of ss p) (contract_part n ss o p f.2) b c h e
  contract_part n ss o (prop m) f b c h e = turns_shrink m (all_revised ss) (in_order_shrinks (map revised ss) (all_revised_shrink n ss o)) b c h e

  pub effects_shrink : (n : ℕ) (ss : List Sides) → AllOver n ss → (ps : Plans) → AreFor (length ss) ps → AllShrink (effects ss ps)
  effects_shrink n ss o no_plan f = tt
  effects_shrink n ss o (plan_and p ps) f = (contract_part n ss o p f.0, effects_shrink n ss o ps f.1)

-- what a program leaves of a box is a box in it
pub contract-within : (n : ℕ) (ss : List Sides) (p : Plan) (b c : List Bounds) → AllOver n ss → IsFor (length ss) p → IsBox b → contract_of ss p b ≡ Some c → AreWithin c b × IsBox c
contract-within n ss p b c o f h e = let k = contract_part n ss o p f b c h e in (k.within, k.box)
