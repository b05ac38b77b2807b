-- Settling the leaves of a scope one after the other.
use Rattle.std.proofs.Common.{◌≡◌, inl, inr, ℕ, ◌+◌, ◌-◌, ◌<◌, ◌≤◌, Bool, true, false, Some, List, [], ◌∷◌, ◌++◌, length, length-append, refl, sym, ◌∙◌, ap, arith, subst}
use Rattle.std.specs.Prelude.{◌⊎◌, ◌↔◌, IsTrue, not}
use Rattle.pv_tree.specs.Trees.{Tree, leaf, subtree, outcome_at, graft, opens, height}
use Rattle.pv_tree.specs.declared.outcome.Outcome.{Outcome}
use Rattle.pv_tree.proofs.TreeFacts.{graft_counts}
use Rattle.pv_tree.proofs.Stacks.{height_below}
use Rattle.pv_board.specs.Rules.{settled_in}
use Rattle.pv_scope.specs.Scopes.{IsIn, IsBelow, picked}
use Rattle.pv_scope.specs.Parts.{IsGrownAt, IsGrown, AreLong, HasShort}
use Rattle.pv_scope.specs.Settlings.{IsOver, HasLeft, IsEnded, IsSettled}
use Rattle.pv_scope.proofs.Replaced.{IsFrom, IsMadeBy, leaf_after, made_after, other_leaf, leaf_below}
use Rattle.pv_scope.proofs.Lists.{AreApart, picked_in, picked_apart, in_open, apart_opens}

-- A tree in which some leaves of a scope are still to be settled.
pub record IsGoing (old : Tree) (ps left : List (List Bool)) (cap own : ℕ) (t : Tree) : Type 0 where
  pub ready : (q : List Bool) → IsIn q left → subtree t q ≡ Some leaf
  pub part : (q : List Bool) → IsIn q left → IsIn q ps
  pub apart : AreApart left
  pub over : (q : List Bool) → IsIn q ps → IsIn q left ⊎ IsOver cap t q
  pub settled : IsSettled old t ps cap own

pub going_first : (test : ℕ → List Bool → Bool) (old : Tree) (cap : ℕ) → IsGoing old (picked test 0 (opens old)) (picked test 0 (opens old)) cap 0 old
going_first test old cap = record {
  ready = λ q h. in_open old q (picked_in test 0 (opens old) q h);
  part = λ q h. h;
  apart = picked_apart test 0 (opens old) (apart_opens old);
  over = λ q h. inl h;
  settled = record { stays = λ q e ne. e; comes = λ q e. inl e; short = λ q o e. inl e; count = omega arith };
}

module _ (old : Tree) (ps : List (List Bool)) (cap before : ℕ) (t s : Tree) (p : List Bool) (left : List (List Bool)) (h : IsGoing old ps (p ∷ left) cap before t) where
  first_open : subtree t p ≡ Some leaf
  first_open = h.ready p (inl refl)

  first_in : IsIn p ps
  first_in = h.part p (inl refl)

  comes_on : (q : List Bool) → ((subtree t q ≡ Some leaf) × (q ≡ p → ⊥)) ⊎ IsFrom s p q → (subtree old q ≡ Some leaf) ⊎ IsBelow ps q
  comes_on q (inl w) = h.settled.comes q w.0
  comes_on q (inr w) = inr (record { head = p; is_in = first_in; steps = w.steps; is = w.is })

  short_on : ((q : List Bool) (o : Outcome) → outcome_at s q ≡ Some o → length p + length q < cap) → (q : List Bool) (o : Outcome) → (outcome_at t q ≡ Some o) ⊎ IsMadeBy s p q o
      → (outcome_at old q ≡ Some o) ⊎ (length q < cap)
  short_on few q o (inl w) = h.settled.short q o w
  short_on few q o (inr w) = let less = few w.steps o w.is_made in let sum : length q ≡ length p + length w.steps = ap length w.is ∙ length-append p w.steps in inr (omega (arith, less, sum))

  pub settled_graft : (own : ℕ) → settled_in s ≡ own → ((q : List Bool) (o : Outcome) → outcome_at s q ≡ Some o → length p + length q < cap) → IsSettled old (graft t p s) ps cap (before + own)
  settled_graft own count few = record {
    stays = λ q e ne. other_leaf t p s q first_open (h.settled.stays q e ne) (λ w. ne (subst (λ (x : List Bool). IsIn x ps) (sym w) first_in));
    comes = λ q e. comes_on q (leaf_after t p s q first_open e);
    short = λ q o e. short_on few q o (made_after t p s q o first_open e);
    count = let adds = graft_counts t p s first_open in let c = adds.cut in let r = adds.removed in let i = adds.inner in let m = adds.small in let was = h.settled.count in omega (arith, c, r, i, m, was, count);
  }

  over_here : AreLong cap (length p) s → (q : List Bool) → q ≡ p → IsOver cap (graft t p s) q
  over_here long q e = subst (λ (x : List Bool). IsOver cap (graft t p s) x) (sym e) (λ r f. long r (sym (leaf_below t p s r first_open) ∙ f))

  over_leaf : AreLong cap (length p) s → (q r : List Bool) → IsOver cap t q → ((subtree t (q ++ r) ≡ Some leaf) × (q ++ r ≡ p → ⊥)) ⊎ IsFrom s p (q ++ r) → cap ≤ length q + length r
  over_leaf long q r o (inl w) = o r w.0
  over_leaf long q r o (inr w) =
      let many = long w.steps w.is_open in
      let sum : length q + length r ≡ length p + length w.steps = sym (length-append q r) ∙ ap length w.is ∙ length-append p w.steps in
      omega (arith, many, sum)

  over_on : AreLong cap (length p) s → (q : List Bool) → IsIn q (p ∷ left) ⊎ IsOver cap t q → IsIn q left ⊎ IsOver cap (graft t p s) q
  over_on long q (inl (inl e)) = inr (over_here long q e)
  over_on long q (inl (inr i)) = inl i
  over_on long q (inr o) = inr (λ r f. over_leaf long q r o (leaf_after t p s (q ++ r) first_open f))

  pub going_graft : (own : ℕ) → IsSettled old (graft t p s) ps cap (before + own) → AreLong cap (length p) s → IsGoing old ps left cap (before + own) (graft t p s)
  going_graft own settled long = record {
    ready = λ q i. other_leaf t p s q first_open (h.ready q (inr i)) (λ w. h.apart.0 (subst (λ (x : List Bool). IsIn x left) w i));
    part = λ q i. h.part q (inr i);
    apart = h.apart.1;
    over = λ q i. over_on long q (h.over q i);
    settled = settled;
  }

  pub left_graft : HasShort cap (length p) s → HasLeft cap ps (graft t p s)
  left_graft w = record { head = p; is_in = first_in; steps = w.steps; is_open = leaf_below t p s w.steps first_open ∙ w.is_open; few = w.few }

-- one more leaf of the scope was settled, and what is below it
module _ (old : Tree) (ps left : List (List Bool)) (cap before budget : ℕ) (t u : Tree) (p : List Bool) (own : ℕ) (done : Bool) (h : IsGoing old ps (p ∷ left) cap before t)
    (few : before ≤ budget) (g : IsGrownAt t u p cap (budget - before) own done) where
  pub still_settled : IsSettled old u ps cap (before + own)
  still_settled = subst (λ (x : Tree). IsSettled old x ps cap (before + own)) (sym g.is) (settled_graft old ps cap before t g.stage p left h own g.count g.short)

  long_part : (b : Bool) → b ≡ true → IsGrown cap (length p) (budget - before) own b g.stage → (own ≤ budget - before) × AreLong cap (length p) g.stage
  long_part true e w = w
  long_part false e w = cc

  short_part : (b : Bool) → b ≡ false → IsGrown cap (length p) (budget - before) own b g.stage → (own ≡ budget - before) × HasShort cap (length p) g.stage
  short_part false e w = w
  short_part true e w = cc

  pub still_going : done ≡ true → IsGoing old ps left cap (before + own) u
  still_going e =
      subst (λ (x : Tree). IsGoing old ps left cap (before + own) x) (sym g.is)
      (going_graft old ps cap before t g.stage p left h own (settled_graft old ps cap before t g.stage p left h own g.count g.short) (long_part done e g.grown).1)

  pub still_few : done ≡ true → before + own ≤ budget
  still_few e = let w = (long_part done e g.grown).0 in omega (arith, w, few)

  pub ended_early : done ≡ false → IsEnded cap ps budget (before + own) false u
  ended_early e =
      let w = short_part done e g.grown in let same = w.0 in
      (omega (arith, same, few), subst (HasLeft cap ps) (sym g.is) (left_graft old ps cap before t g.stage p left h w.1))

pub ended_all : (old : Tree) (ps left : List (List Bool)) (cap own budget : ℕ) (t : Tree) → left ≡ [] → IsGoing old ps left cap own t → own ≤ budget → IsEnded cap ps budget own true t
ended_all old ps left cap own budget t e h few = (few, λ p i. over_all p (h.over p i))
  where
    over_all : (p : List Bool) → IsIn p left ⊎ IsOver cap t p → IsOver cap t p
    over_all p (inl i) = absurd (subst (IsIn p) e i)
    over_all p (inr o) = o

-- ---- What a call came to

pub ended_few : (cap : ℕ) (ps : List (List Bool)) (budget own : ℕ) (done : Bool) (t : Tree) → IsEnded cap ps budget own done t → own ≤ budget
ended_few cap ps budget own true t h = h.0
ended_few cap ps budget own false t h = let e = h.0 in omega (arith, e)

pub ended_spent : (cap : ℕ) (ps : List (List Bool)) (budget own : ℕ) (done : Bool) (t : Tree) → IsEnded cap ps budget own done t → done ≡ false → own ≡ budget
ended_spent cap ps budget own true t h e = cc
ended_spent cap ps budget own false t h e = h.0

closed_if : (ps : List (List Bool)) (budget own : ℕ) (done : Bool) (t : Tree) → height t ≤ 200 → IsEnded 201 ps budget own done t → IsTrue done → (p r : List Bool) → IsIn p ps → subtree t (p ++ r) ≡ Some leaf → ⊥
closed_if ps budget own false t deep h e p r i f = cc
closed_if ps budget own true t deep h e p r i f =
    let many = h.1 p i r f in let low = height_below t (p ++ r) leaf f in let sum = length-append p r in omega (arith, many, low, sum, deep)

if_closed : (ps : List (List Bool)) (budget own : ℕ) (done : Bool) (t : Tree) → IsEnded 201 ps budget own done t → ((p r : List Bool) → IsIn p ps → subtree t (p ++ r) ≡ Some leaf → ⊥) → IsTrue done
if_closed ps budget own true t h f = refl
if_closed ps budget own false t h f = let w = h.1 in absurd (f w.head w.steps w.is_in w.is_open)

pub done_closed : (ps : List (List Bool)) (budget own : ℕ) (done : Bool) (t : Tree) → height t ≤ 200 → IsEnded 201 ps budget own done t
    → IsTrue done ↔ ((p r : List Bool) → IsIn p ps → subtree t (p ++ r) ≡ Some leaf → ⊥)
done_closed ps budget own done t deep h = (closed_if ps budget own done t deep h, if_closed ps budget own done t h)

pub not_true : (b : Bool) → not b ≡ true → b ≡ false
not_true true e = cc
not_true false e = refl

pub not_false : (b : Bool) → not b ≡ false → b ≡ true
not_false true e = refl
not_false false e = cc
