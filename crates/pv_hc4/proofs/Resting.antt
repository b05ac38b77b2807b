-- A target that is a node's own interval narrows nothing, also where the box has become narrower since the pass up.
use Rattle.std.proofs.Common.{◌≡◌, inl, inr, ℕ, zero, suc, ◌<◌, List, [], ◌∷◌, length, refl, ap, sym, ◌∙◌, subst, get_or}
use Rattle.std.specs.Prelude.{IsTrue, Option, Some, None, Bool, true, false, All, slice_set}
use Rattle.pv_num.specs.Order.{le, lesser}
use Rattle.pv_num.proofs.Orders.{le-refl, le-trans}
use Rattle.pv_interval.specs.Bounds.{Bounds, IsInterval, between, everything}
use Rattle.pv_interval.specs.Tables.{meet_of}
use Rattle.pv_interval.proofs.Cases.{meet_some}
use Rattle.pv_interval.proofs.Choices.{lesser_first, greater_first}
use Rattle.pv_expr.specs.Systems.{IsOver}
use Rattle.pv_expr.specs.Terms.{Term, constant, place, one, two}
use Rattle.pv_hc4.specs.declared.node.Node.{Node}
use Rattle.pv_hc4.specs.Building.{IsPart}
use Rattle.pv_hc4.specs.Chain.{chain, at, Gives}
use Rattle.pv_hc4.specs.Graphs.{AreValues, IsGraph, Parts}
use Rattle.pv_hc4.specs.Members.{AreWithin}
use Rattle.pv_hc4.specs.Nodes.{terms, term_at}
use Rattle.pv_hc4.specs.Pass.{IsTotality}
use Rattle.pv_hc4.specs.Resting.{IsRest, MayRest}
use Rattle.pv_hc4.specs.Revise.{Target, targets_of, applied, went}
use Rattle.pv_hc4.proofs.Downward.{value_read}
use Rattle.pv_hc4.proofs.Revising.{came}
use Rattle.pv_hc4.proofs.Whole.{AllOwn, OwnTargets, targets_whole}
use Rattle.pv_hc4.proofs.Within.{Inside, meet_inside, at_fine}

pub within_refl : (b : List Bounds) → AreWithin b b
within_refl [] = tt
within_refl (x ∷ b) = (le-refl x.lo, le-refl x.hi, within_refl b)

pub within_trans : (a b c : List Bounds) → AreWithin a b → AreWithin b c → AreWithin a c
within_trans [] [] [] h k = tt
within_trans [] [] (z ∷ c) h k = absurd k
within_trans [] (y ∷ b) c h k = absurd h
within_trans (x ∷ a) [] c h k = absurd h
within_trans (x ∷ a) (y ∷ b) [] h k = absurd k
within_trans (x ∷ a) (y ∷ b) (z ∷ c) h k = (le-trans z.lo y.lo x.lo k.0 h.0, le-trans x.hi y.hi z.hi h.1 k.1, within_trans a b c h.2 k.2)

place_within : (a b : List Bounds) (i : ℕ) → AreWithin a b → Inside (at b i) (Some (at a i))
place_within [] [] i h = (le-refl everything.lo, le-refl everything.hi)
place_within [] (y ∷ b) i h = absurd h
place_within (x ∷ a) [] i h = absurd h
place_within (x ∷ a) (y ∷ b) zero h = (h.0, h.1)
place_within (x ∷ a) (y ∷ b) (suc i) h = place_within a b i h.2

-- ---- a box met with what it lies in

meet_inner : (x w : Bounds) → IsInterval x → Inside w (Some x) → meet_of x w ≡ Some x
meet_inner x w h i =
    let low = greater_first x.lo w.lo i.0 in
    let high = lesser_first x.hi w.hi i.1 in
    meet_some x w (ap (λ a. le a (lesser x.hi w.hi)) low ∙ ap (le x.lo) high ∙ h.ordered)
    ∙ ap (λ a. Some (between a (lesser x.hi w.hi))) low ∙ ap (λ a. Some (between x.lo a)) high

set_same : (b : List Bounds) (i : ℕ) → slice_set b i (at b i) ≡ b
set_same [] i = refl
set_same (x ∷ b) zero = refl
set_same (x ∷ b) (suc i) = ap (λ c. x ∷ c) (set_same b i)

applied_own : (entry b : List Bounds) (ts : List Target) → All IsInterval b → AreWithin b entry → AllOwn entry ts → applied b ts ≡ Some b
applied_own entry b [] h k a = refl
applied_own entry b (s ∷ ts) h k a =
    let inner : meet_of (at b s.var) s.within ≡ Some (at b s.var) =
    meet_inner (at b s.var) s.within (at_fine b s.var h) (subst (λ w. Inside w (Some (at b s.var))) (sym a.0) (place_within b entry s.var k)) in
    ap (λ o. chain o (λ x. applied (slice_set b s.var x) ts)) inner
    ∙ ap (λ c. applied c ts) (set_same b s.var)
    ∙ applied_own entry b ts h k a.1

own_applied : (entry b : List Bounds) (o : Option (List Target)) → All IsInterval b → AreWithin b entry → OwnTargets entry o → chain o (applied b) ≡ Some b
own_applied entry b None h k a = absurd a
own_applied entry b (Some ts) h k a = applied_own entry b ts h k a

-- the skipped walk
pub rest_gives : (entry b : List Bounds) (ns : List Node) (vs : List Bounds) (k : ℕ) (z v : Bounds) → IsRest entry b ns → AreValues entry ns vs → All IsInterval b → k < length ns → v ≡ get_or vs k v → z ≡ v → went entry b (term_at (terms ns) k) z ≡ Some b
rest_gives entry b ns vs k z v r av h within v_is z_is =
    subst (λ y. went entry b (term_at (terms ns) k) y ≡ Some b) (sym z_is)
    (own_applied entry b (targets_of entry (term_at (terms ns) k) v) h r.within
    (targets_whole (length entry) entry (term_at (terms ns) k) v (r.over k within) r.intervals (r.total k within) (value_read entry ns vs k v av within v_is)))

-- ---- a walk leaves the box within the entry box

set_within : (b : List Bounds) (i : ℕ) (x : Bounds) → Inside (at b i) (Some x) → AreWithin (slice_set b i x) b
set_within [] i x h = tt
set_within (y ∷ b) zero x h = (h.0, h.1, within_refl b)
set_within (y ∷ b) (suc i) x h = (le-refl y.lo, le-refl y.hi, set_within b i x h)

applied_within : (b c : List Bounds) (ts : List Target) → applied b ts ≡ Some c → AreWithin c b
applied_within b c [] e = subst (λ d. AreWithin d b) (same_box b c e) (within_refl b)
  where
    same_box : (b c : List Bounds) → Some b ≡ Some c → b ≡ c
    same_box b c e = cc
applied_within b c (s ∷ ts) e =
    let m = came (meet_of (at b s.var) s.within) (λ x. applied (slice_set b s.var x) ts) c e in
    within_trans c (slice_set b s.var m.from) b (applied_within (slice_set b s.var m.from) c ts m.then_is)
    (set_within b s.var m.from (subst (Inside (at b s.var)) m.first (meet_inside (at b s.var) s.within)))

pub went_within : (entry b c : List Bounds) (t : Term) (z : Bounds) → went entry b t z ≡ Some c → AreWithin c b
went_within entry b c t z e =
    let m = came (targets_of entry t z) (applied b) c e in
    applied_within b c m.from m.then_is

pub rest_after : (rests : Bool) (entry b c : List Bounds) (ns : List Node) (t : Term) (z : Bounds) → MayRest rests entry b ns → went entry b t z ≡ Some c → MayRest rests entry c ns
rest_after true entry b c ns t z h e = record {
  intervals = h.intervals;
  within = within_trans c b entry (went_within entry b c t z e) h.within;
  over = h.over;
  total = h.total;
}
rest_after false entry b c ns t z h e = tt

pub rest_is : (rests : Bool) (entry b : List Bounds) (ns : List Node) → IsTrue rests → MayRest rests entry b ns → IsRest entry b ns
rest_is true entry b ns t h = h
rest_is false entry b ns t h = absurd (cc)

pub gives_true : {A : Type 0} (t : Bool) (new : A) (o : Option A) → t ≡ true → Gives t new o → o ≡ Some new
gives_true true new o e h = h
gives_true false new o e h = absurd (cc)

-- ---- where all is total

part_over : (n : ℕ) (s t : Term) → IsPart s t → IsOver n t → IsOver n s
part_over n s (constant p q) h o = subst (IsOver n) (sym h) o
part_over n s (place i) h o = subst (IsOver n) (sym h) o
part_over n s (one u t) (inl h) o = subst (IsOver n) (sym h) o
part_over n s (one u t) (inr h) o = part_over n s t h o.1
part_over n s (two k t u) (inl h) o = subst (IsOver n) (sym h) o
part_over n s (two k t u) (inr (inl h)) o = part_over n s t h o.0
part_over n s (two k t u) (inr (inr h)) o = part_over n s u h o.1

node_over : (g : Parts) (k : ℕ) → IsGraph g → k < length g.nodes → IsOver g.dims (term_at (terms g.nodes) k)
node_over g k h within =
    elim (h.used k within) [
      | inl p ↦ part_over g.dims (term_at (terms g.nodes) k) (term_at (terms g.nodes) g.left) p h.left_over
      | inr p ↦ part_over g.dims (term_at (terms g.nodes) k) (term_at (terms g.nodes) g.right) p h.right_over
    ]

pub total_rests : (t : Bool) (g : Parts) (b : List Bounds) → IsGraph g → g.dims ≡ length b → All IsInterval b → IsTotality b g.nodes t → MayRest t b b g.nodes
total_rests true g b h d i k = record {
  intervals = i;
  within = within_refl b;
  over = λ j l. subst (λ n. IsOver n (term_at (terms g.nodes) j)) d (node_over g j h l);
  total = k;
}
total_rests false g b h d i k = tt
