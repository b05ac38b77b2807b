-- A program that is sure on a box is sure on each part of it.
use Rattle.std.proofs.Common.{◌≡◌, ℕ, ◌≤◌, List, [], ◌∷◌, length, refl, arith}
use Rattle.std.specs.Prelude.{Bool, true, false, nat_le}
use Rattle.std.proofs.lemmas.Bool.Decides.{nat_tests}
use Rattle.pv_interval.specs.Bounds.{Bounds}
use Rattle.pv_box.specs.Boxes.{IsBox}
use Rattle.pv_hc4.specs.Revise.{Sides}
use Rattle.pv_hc4.specs.Members.{AreWithin}
use Rattle.pv_hc4.proofs.Inherited.{sure-inherited}
use Rattle.pv_ctc.specs.Contracting.{side_at}
use Rattle.pv_ctc.specs.Members.{AllOver}
use Rattle.pv_ctc.specs.Plans.{Plan, Plans, hc4, compose, union, qinter, fix, prop, no_plan, plan_and, IsFor, AreFor}
use Rattle.pv_ctc.specs.Sureness.{all_true, count_true, constraints_sure, program_sure, parts_sure}
use Rattle.pv_ctc.proofs.Shrinking.{over_at}

-- each test that says yes of the one list says yes of the other
abbrev pub AreNoFewer : List Bool → List Bool → Type 0
AreNoFewer [] [] = Unit {0}
AreNoFewer [] (u ∷ us) = ⊥
AreNoFewer (t ∷ ts) [] = ⊥
AreNoFewer (t ∷ ts) (u ∷ us) = (u ≡ true → t ≡ true) × AreNoFewer ts us

all_no_fewer : (ts us : List Bool) → AreNoFewer ts us → all_true us ≡ true → all_true ts ≡ true
all_no_fewer [] [] h e = refl
all_no_fewer [] (u ∷ us) h e = absurd h
all_no_fewer (t ∷ ts) [] h e = absurd h
all_no_fewer (true ∷ ts) (true ∷ us) h e = all_no_fewer ts us h.1 e
all_no_fewer (false ∷ ts) (true ∷ us) h e = absurd (let f = h.0 refl in cc)
all_no_fewer (t ∷ ts) (false ∷ us) h e = absurd (cc)

count_no_fewer : (ts us : List Bool) → AreNoFewer ts us → count_true us ≤ count_true ts
count_no_fewer [] [] h = omega arith
count_no_fewer [] (u ∷ us) h = absurd h
count_no_fewer (t ∷ ts) [] h = absurd h
count_no_fewer (true ∷ ts) (true ∷ us) h = let k = count_no_fewer ts us h.1 in omega arith
count_no_fewer (true ∷ ts) (false ∷ us) h = let k = count_no_fewer ts us h.1 in omega arith
count_no_fewer (false ∷ ts) (true ∷ us) h = absurd (let f = h.0 refl in cc)
count_no_fewer (false ∷ ts) (false ∷ us) h = let k = count_no_fewer ts us h.1 in omega arith

pub more_enough : (q m n : ℕ) → m ≤ n → nat_le q m ≡ true → nat_le q n ≡ true
more_enough q m n h e = grind (arith, nat_tests)

constraints_inherited : (n : ℕ) (ss : List Sides) (b c : List Bounds) → AllOver n ss → IsBox b → AreWithin b c → AreNoFewer (constraints_sure ss b) (constraints_sure ss c)
constraints_inherited n [] b c o i w = tt
constraints_inherited n (s ∷ ss) b c o i w = (sure-inherited n s b c o.0.0 o.0.1 i.intervals w, constraints_inherited n ss b c o.1 i w)

mutual
  pub program_inherited : (n : ℕ) (ss : List Sides) → AllOver n ss → (p : Plan) → IsFor (length ss) p → (b c : List Bounds) → IsBox b → AreWithin b c → program_sure ss p c ≡ true → program_sure ss p b ≡ true
  program_inherited n ss o (hc4 k) f b c i w e = let v = over_at n ss k o f in sure-inherited n (side_at ss k) b c v.0 v.1 i.intervals w e
  program_inherited n ss o (compose ps) f b c i w e = all_no_fewer (parts_sure ss ps b) (parts_sure ss ps c) (parts_inherited n ss o ps f.1 b c i w) e
  program_inherited n ss o (union ps) f b c i w e = more_enough 1 (count_true (parts_sure ss ps c)) (count_true (parts_sure ss ps b)) (count_no_fewer (parts_sure ss ps b) (parts_sure ss ps c) (parts_inherited n ss o ps f.1 b c i w)) e
  program_inherited n ss o (qinter q ps) f b c i w e = more_enough q (count_true (parts_sure ss ps c)) (count_true (parts_sure ss ps b)) (count_no_fewer (parts_sure ss ps b) (parts_sure ss ps c) (parts_inherited n ss o ps f.2 b c i w)) e
  program_inherited n ss o (fix k p) f b c i w e = program_inherited n ss o p f.2 b c i w e
  program_inherited n ss o (prop k) f b c i w e = all_no_fewer (constraints_sure ss b) (constraints_sure ss c) (constraints_inherited n ss b c o i w) e

  parts_inherited : (n : ℕ) (ss : List Sides) → AllOver n ss → (ps : Plans) → AreFor (length ss) ps → (b c : List Bounds) → IsBox b → AreWithin b c → AreNoFewer (parts_sure ss ps b) (parts_sure ss ps c)
  parts_inherited n ss o no_plan f b c i w = tt
  parts_inherited n ss o (plan_and p ps) f b c i w = (program_inherited n ss o p f.0 b c i w, parts_inherited n ss o ps f.1 b c i w)
