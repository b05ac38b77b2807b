-- What a program leaves of a list of places lies in it, and so a change is never taken back.
use Rattle.std.proofs.Common.{◌≡◌, ◌≢◌, ℕ, zero, suc, ◌+◌, ◌<◌, List, [], ◌∷◌, length, refl, ap, sym, ◌∙◌, subst, arith, get_or}
use Rattle.std.specs.Prelude.{Option, Some, None, map}
use Rattle.pv_num.proofs.Orders.{le-antisym}
use Rattle.pv_interval.specs.Bounds.{Bounds, everything}
use Rattle.pv_interval.proofs.Alike.{same_bounds}
use Rattle.pv_box.specs.Boxes.{hull_boxes}
use Rattle.pv_box.specs.QHull as q
use Rattle.pv_hc4.specs.Revise.{Sides, revised}
use Rattle.pv_hc4.specs.Members.{AreWithin}
use Rattle.pv_hc4.specs.declared.revised.Revised.{Revised}
use Rattle.pv_hc4.specs.declared.revised.Revised.TheVariants.{Changed}
use Rattle.pv_hc4.proofs.Revising.{came}
use Rattle.pv_hc4.proofs.Within.{revised-within}
use Rattle.pv_ctc.specs.Contracting.{Effect, side_at, in_order, turns_of, with_result, results, hull_with, hull_all, q_hull_all, all_revised, contract_of, effects}
use Rattle.pv_ctc.specs.Plans.{Plan, Plans, hc4, compose, union, qinter, fix, prop, no_plan, plan_and}
use Rattle.pv_ctc.specs.Steps.{IsSoFar}
use Rattle.pv_ctc.proofs.Shrinking.{some_is, within_refl, within_trans, within_length, within_at, hull_within, AllWithin, places_within, places_lie}

-- each contractor leaves places that lie in those before
abbrev AllLie : List Effect → Type 0
AllLie [] = Unit {0}
AllLie (f ∷ fs) = ((b c : List Bounds) → f b ≡ Some c → AreWithin c b) × AllLie fs

in_order_lies : (fs : List Effect) → AllLie fs → (b c : List Bounds) → in_order fs b ≡ Some c → AreWithin c b
in_order_lies [] h b c e = subst (λ x. AreWithin x b) (some_is b c e) (within_refl b)
in_order_lies (f ∷ fs) h b c e =
    let w = came (f b) (in_order fs) c e in
    within_trans c w.from b (in_order_lies fs h.1 w.from c w.then_is) (h.0 b w.from w.first)

turns_lie : (n : ℕ) (f : Effect) → ((b c : List Bounds) → f b ≡ Some c → AreWithin c b) → (b c : List Bounds) → turns_of n f b ≡ Some c → AreWithin c b
turns_lie zero f h b c e = subst (λ x. AreWithin x b) (some_is b c e) (within_refl b)
turns_lie (suc n) f h b c e =
    let w = came (f b) (turns_of n f) c e in
    within_trans c w.from b (turns_lie n f h w.from c w.then_is) (h b w.from w.first)

-- each of a list lies in b
abbrev AllIn : List (List Bounds) → List Bounds → Type 0
AllIn [] b = Unit {0}
AllIn (c ∷ cs) b = AreWithin c b × AllIn cs b

with_in : (o : Option (List Bounds)) (cs : List (List Bounds)) (b : List Bounds) → ((c : List Bounds) → o ≡ Some c → AreWithin c b) → AllIn cs b → AllIn (with_result o cs) b
with_in None cs b h k = k
with_in (Some c) cs b h k = (h c refl, k)

results_in : (fs : List Effect) → AllLie fs → (b : List Bounds) → AllIn (results fs b) b
results_in [] h b = tt
results_in (f ∷ fs) h b = with_in (f b) (results fs b) b (λ c e. h.0 b c e) (results_in fs h.1 b)

hull_with_in : (c : List Bounds) (cs : List (List Bounds)) (b : List Bounds) → AreWithin c b → AllIn cs b → AreWithin (hull_with c cs) b
hull_with_in c [] b h k = h
hull_with_in c (d ∷ cs) b h k = hull_with_in (hull_boxes c d) cs b (hull_within c d b h k.0) k.1

hull_all_in : (cs : List (List Bounds)) (b c : List Bounds) → AllIn cs b → hull_all cs ≡ Some c → AreWithin c b
hull_all_in [] b c h e = absurd (cc)
hull_all_in (d ∷ cs) b c h e = subst (λ x. AreWithin x b) (some_is (hull_with d cs) c e) (hull_with_in d cs b h.0 h.1)

column_in : (k : ℕ) (cs : List (List Bounds)) (b : List Bounds) → AllIn cs b → k < length b → AllWithin (q.column k cs) (get_or b k everything)
column_in k [] b h l = tt
column_in k (c ∷ cs) b h l = (within_at c b k h.0 l, column_in k cs b h.1 l)

q_hull_in : (n : ℕ) (cs : List (List Bounds)) (b c : List Bounds) → AllIn cs b → q_hull_all n cs ≡ Some c → AreWithin c b
unfolding q.q_hull_of
q_hull_in n [] b c h e = absurd (cc)
q_hull_in n (d ∷ cs) b c h e =
    let f : q.places_from n 0 (length b) (d ∷ cs) ≡ Some c = ap (λ m. q.places_from n 0 m (d ∷ cs)) (sym (within_length d b h.0)) ∙ e in
    places_lie c b (places_within n 0 (d ∷ cs) b c (λ j l. let m : j ≡ 0 + j = omega arith in subst (λ k. AllWithin (q.column k (d ∷ cs)) (get_or b j everything)) m (column_in j (d ∷ cs) b h l)) f)

all_revised_lie : (ss : List Sides) → AllLie (map revised ss)
all_revised_lie [] = tt
all_revised_lie (s ∷ ss) = (revised-within s, all_revised_lie ss)

pub all_revised-lies : (ss : List Sides) (b c : List Bounds) → all_revised ss b ≡ Some c → AreWithin c b
all_revised-lies ss b c e = in_order_lies (map revised ss) (all_revised_lie ss) b c e

mutual
  pub contract-lies : (ss : List Sides) (p : Plan) (b c : List Bounds) → contract_of ss p b ≡ Some c → AreWithin c b
  contract-lies ss (hc4 i) b c e = revised-within (side_at ss i) b c e
  contract-lies ss (compose ps) b c e = in_order_lies (effects ss ps) (effects_lie ss ps) b c e
  contract-lies ss (union ps) b c e = hull_all_in (results (effects ss ps) b) b c (results_in (effects ss ps) (effects_lie ss ps) b) e
  contract-lies ss (qinter m ps) b c e = q_hull_in m (results (effects ss ps) b) b c (results_in (effects ss ps) (effects_lie ss ps) b) e
  contract-lies ss (fix m p) b c e = turns_lie m (contract_of ss p) (contract-lies ss p) b c e
  contract-lies ss (prop m) b c e = turns_lie m (all_revised ss) (all_revised-lies ss) b c e

  effects_lie : (ss : List Sides) (ps : Plans) → AllLie (effects ss ps)
  effects_lie ss no_plan = tt
  effects_lie ss (plan_and p ps) = (contract-lies ss p, effects_lie ss ps)

pub within_antisym : (c b : List Bounds) → AreWithin c b → AreWithin b c → c ≡ b
within_antisym [] [] h k = refl
within_antisym [] (y ∷ b) h k = absurd h
within_antisym (x ∷ c) [] h k = absurd h
within_antisym (x ∷ c) (y ∷ b) h k =
    ap (λ z. z ∷ c) (same_bounds x y (le-antisym x.lo y.lo k.0 h.0) (le-antisym x.hi y.hi h.1 k.1)) ∙ ap (λ d. y ∷ d) (within_antisym c b h.2 k.2)

-- a change of what lies in the start is no way back to it
pub so_far_changed : (start now new : List Bounds) → AreWithin now start → AreWithin new now → new ≢ now → IsSoFar Changed start new
so_far_changed start now new h k n = λ e. n (within_antisym new now k (subst (AreWithin now) (sym e) h))

pub so_far_kept : (answer : Revised) (start now new : List Bounds) → new ≡ now → IsSoFar answer start now → IsSoFar answer start new
so_far_kept answer start now new e h = subst (IsSoFar answer start) (sym e) h

pub revision_lies : (s : Sides) (b c : List Bounds) → revised s b ≡ Some c → AreWithin c b
revision_lies s b c e = revised-within s b c e
