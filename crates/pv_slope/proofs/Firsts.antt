-- What the tests of the first constraints say of a program, the tests of all say.
use Rattle.std.proofs.Common.{◌≡◌, ℕ, zero, suc, ◌-◌, ◌≤◌, List, [], ◌∷◌, take, refl, sym, subst, arith}
use Rattle.std.specs.Prelude.{Bool, true, false, nat_lt}
use Rattle.std.proofs.lemmas.Bool.Decides.{nat_tests}
use Rattle.pv_hc4.proofs.Sureness.{left_true, right_true}
use Rattle.pv_ctc.specs.Plans.{Plan, Plans, hc4, compose, union, qinter, fix, prop, no_plan, plan_and, plan_count}
use Rattle.pv_ctc.specs.Sureness.{all_true, count_true}
use Rattle.pv_slope.specs.Programs.{test_at, none_by, none_by_each}
use Rattle.std.proofs.lemmas.Bool.{and_from}
use Rattle.pv_ctc.proofs.Inherited.{more_enough}

-- what holds by the first tests holds by the others
record AreFirst (us ts : List Bool) : Type 0 where
  pub each : (i : ℕ) → test_at us i ≡ true → test_at ts i ≡ true
  pub count : count_true us ≤ count_true ts

no_truth : {P : Type 0} → false ≡ true → P
no_truth e = absurd (cc)

count_more : (s t : Bool) (us ts : List Bool) → (s ≡ true → t ≡ true) → count_true us ≤ count_true ts → count_true (s ∷ us) ≤ count_true (t ∷ ts)
count_more true true us ts h k = omega arith
count_more true false us ts h k = no_truth (h refl)
count_more false true us ts h k = omega arith
count_more false false us ts h k = omega arith

more_than : (m a b : ℕ) → a ≤ b → nat_lt m a ≡ true → nat_lt m b ≡ true
more_than m a b h e = grind (arith, nat_tests)

none_yet : (ts : List Bool) → AreFirst [] ts
none_yet ts = record { each = λ i e. no_truth e; count = omega arith }

one_more : (t : Bool) (us ts : List Bool) → AreFirst us ts → AreFirst (t ∷ us) (t ∷ ts)
one_more t us ts h = record { each = each; count = count_more t t us ts (λ e. e) h.count }
  where
    each : (i : ℕ) → test_at (t ∷ us) i ≡ true → test_at (t ∷ ts) i ≡ true
    each zero e = e
    each (suc i) e = h.each i e

first_tests : (k : ℕ) (ts : List Bool) → AreFirst (take k ts) ts
first_tests zero ts = none_yet ts
first_tests (suc k) [] = none_yet []
first_tests (suc k) (t ∷ ts) = one_more t (take k ts) ts (first_tests k ts)

mutual
  none_more : (us ts : List Bool) → AreFirst us ts → (p : Plan) → none_by us p ≡ true → none_by ts p ≡ true
  none_more us ts h (hc4 i) e = h.each i e
  none_more us ts h (compose ps) e = more_enough 1 (count_true (none_by_each us ps)) (count_true (none_by_each ts ps)) (counts_more us ts h ps) e
  none_more us ts h (union ps) e = all_more us ts h ps e
  none_more us ts h (qinter q ps) e = more_than (plan_count ps - q) (count_true (none_by_each us ps)) (count_true (none_by_each ts ps)) (counts_more us ts h ps) e
  none_more us ts h (fix n p) e = none_more us ts h p e
  none_more us ts h (prop n) e = more_enough 1 (count_true us) (count_true ts) h.count e

  counts_more : (us ts : List Bool) → AreFirst us ts → (ps : Plans) → count_true (none_by_each us ps) ≤ count_true (none_by_each ts ps)
  counts_more us ts h no_plan = omega arith
  counts_more us ts h (plan_and p ps) =
      count_more (none_by us p) (none_by ts p) (none_by_each us ps) (none_by_each ts ps) (none_more us ts h p) (counts_more us ts h ps)

  all_more : (us ts : List Bool) → AreFirst us ts → (ps : Plans) → all_true (none_by_each us ps) ≡ true → all_true (none_by_each ts ps) ≡ true
  all_more us ts h no_plan e = refl
  all_more us ts h (plan_and p ps) e =
      and_from (none_by ts p) (all_true (none_by_each ts ps))
      (none_more us ts h p (left_true (none_by us p) (all_true (none_by_each us ps)) e))
      (all_more us ts h ps (right_true (none_by us p) (all_true (none_by_each us ps)) e))

-- a program that has no point by the first tests has none by all of them
pub none_by_first : (k : ℕ) (us ts : List Bool) (p : Plan) → us ≡ take k ts → none_by us p ≡ true → none_by ts p ≡ true
none_by_first k us ts p s e = none_more us ts (subst (λ xs. AreFirst xs ts) (sym s) (first_tests k ts)) p e
