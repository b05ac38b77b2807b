-- A program loses no member, and what it is sure of are members.
use Rattle.std.proofs.Common.{◌≡◌, ◌⊎◌, inl, inr, ℕ, zero, suc, ◌+◌, ◌≤◌, List, [], ◌∷◌, length, refl, sym, ◌∙◌, subst, arith}
use Rattle.std.specs.Prelude.{Option, Some, None, All, IsTrue, Bool, true, false, map, nat_le}
use Rattle.std.proofs.lemmas.Bool.{true≢false}
use Rattle.std.proofs.lemmas.Bool.Decides.{nat_tests}
use Rattle.std.proofs.lemmas.List.Elements.{All-cons, All-nil}
use Rattle.pv_interval.specs.Bounds.{Bounds}
use Rattle.pv_interval.specs.Points.{Point}
use Rattle.pv_interval.proofs.Orders.{hull_keeps_left, hull_keeps_right}
use Rattle.pv_box.specs.Boxes.{IsBox, PointIn, LieIn, hull_boxes}
use Rattle.pv_box.specs.Members.{InAtLeast, PointInSome}
use Rattle.pv_box.proofs.QHullKept.{q_hull-keeps}
use Rattle.pv_hc4.specs.Chain.{chain}
use Rattle.pv_hc4.specs.Revise.{Sides, revised}
use Rattle.pv_hc4.specs.Totality.{sure_of}
use Rattle.pv_hc4.specs.Members.{AreOver}
use Rattle.pv_hc4.proofs.Keeping.{revised-keeps}
use Rattle.pv_hc4.proofs.Sureness.{sure-holds}
use Rattle.pv_ctc.specs.Contracting.{Effect, side_at, in_order, turns_of, with_result, results, hull_with, hull_all, q_hull_all, all_revised, contract_of, effects}
use Rattle.pv_ctc.specs.Plans.{Plan, Plans, hc4, compose, union, qinter, fix, prop, no_plan, plan_and, IsFor, AreFor}
use Rattle.pv_ctc.specs.Members.{AllOver, AllHold, IsMember, IsInAll, IsInSoMany}
use Rattle.pv_ctc.specs.Sureness.{all_true, count_true, constraints_sure, program_sure, parts_sure}
use Rattle.pv_ctc.proofs.Boxes.{hulls_length}
use Rattle.pv_ctc.proofs.Shrinking.{IsPart, AllShrink, AreParts, in_order_shrinks, all_revised_shrink, results_parts, contract_part, effects_shrink, over_at, within_length}

-- each contractor keeps a point of any box
abbrev AllKeep : List Effect → Point → Type 0
AllKeep [] x = Unit {0}
AllKeep (f ∷ fs) x = ((b : List Bounds) → IsBox b → PointIn x b → PointInSome x (f b)) × AllKeep fs x

chain_keeps : (x : Point) (o : Option (List Bounds)) (f : Effect) → PointInSome x o → ((c : List Bounds) → o ≡ Some c → PointIn x c → PointInSome x (f c)) → PointInSome x (chain o f)
chain_keeps x None f h k = absurd h
chain_keeps x (Some c) f h k = k c refl h

in_order_keeps : (fs : List Effect) (x : Point) → AllShrink fs → AllKeep fs x → (b : List Bounds) → IsBox b → PointIn x b → PointInSome x (in_order fs b)
in_order_keeps [] x s h b g i = i
in_order_keeps (f ∷ fs) x s h b g i = chain_keeps x (f b) (in_order fs) (h.0 b g i) (λ c e k. in_order_keeps fs x s.1 h.1 c (s.0 b c g e).box k)

turns_keep : (n : ℕ) (f : Effect) (x : Point) → ((b c : List Bounds) → IsBox b → f b ≡ Some c → IsPart c b) → ((b : List Bounds) → IsBox b → PointIn x b → PointInSome x (f b)) → (b : List Bounds) → IsBox b → PointIn x b → PointInSome x (turns_of n f b)
turns_keep zero f x s h b g i = i
turns_keep (suc n) f x s h b g i = chain_keeps x (f b) (turns_of n f) (h b g i) (λ c e k. turns_keep n f x s h c (s b c g e).box k)

all_revised_keep : (n : ℕ) (ss : List Sides) → AllOver n ss → (x : Point) → AllHold ss x → AllKeep (map revised ss) x
all_revised_keep n [] o x h = tt
all_revised_keep n (s ∷ ss) o x h = (λ b g i. revised-keeps s n b x o.0.0 o.0.1 i h.0, all_revised_keep n ss o.1 x h.1)

-- a hull keeps the points of each of its boxes
hull_left : (x : Point) (c d : List Bounds) → PointIn x c → PointIn x (hull_boxes c d)
hull_left x c d h = go x.places x.under c d h
  where
    go : (ns : List _) (u : ℕ) (c d : List Bounds) → LieIn ns u c → LieIn ns u (hull_boxes c d)
    go ns u [] d h = h
    go [] u (y ∷ c) d h = absurd h
    go (n ∷ ns) u (y ∷ c) [] h = h
    go (n ∷ ns) u (y ∷ c) (z ∷ d) h = (hull_keeps_left n u y z h.0, go ns u c d h.1)

hull_right : (x : Point) (c d : List Bounds) → length c ≡ length d → PointIn x d → PointIn x (hull_boxes c d)
hull_right x c d l h = go x.places x.under c d l h
  where
    go : (ns : List _) (u : ℕ) (c d : List Bounds) → length c ≡ length d → LieIn ns u d → LieIn ns u (hull_boxes c d)
    go ns u [] [] l h = h
    go ns u [] (z ∷ d) l h = absurd (omega arith)
    go ns u (y ∷ c) [] l h = absurd (omega arith)
    go [] u (y ∷ c) (z ∷ d) l h = absurd h
    go (n ∷ ns) u (y ∷ c) (z ∷ d) l h = (hull_keeps_right n u y z h.0, go ns u c d (omega arith) h.1)

-- boxes over the same variables
abbrev AreAlike : ℕ → List (List Bounds) → Type 0
AreAlike n [] = Unit {0}
AreAlike n (b ∷ bs) = (length b ≡ n) × AreAlike n bs

hull_with_first : (x : Point) (c : List Bounds) (cs : List (List Bounds)) → PointIn x c → PointIn x (hull_with c cs)
hull_with_first x c [] h = h
hull_with_first x c (d ∷ cs) h = hull_with_first x (hull_boxes c d) cs (hull_left x c d h)

hull_with_later : (n : ℕ) (x : Point) (c : List Bounds) (cs : List (List Bounds)) → length c ≡ n → AreAlike n cs → InAtLeast 1 x cs → PointIn x (hull_with c cs)
hull_with_later n x c [] l a h = absurd h
hull_with_later n x c (d ∷ cs) l a (inl h) = hull_with_first x (hull_boxes c d) cs (hull_right x c d (l ∙ sym a.0) h.0)
hull_with_later n x c (d ∷ cs) l a (inr h) = hull_with_later n x (hull_boxes c d) cs (hulls_length c d ∙ l) a.1 h

hull_all_keeps : (n : ℕ) (x : Point) (cs : List (List Bounds)) → AreAlike n cs → InAtLeast 1 x cs → PointInSome x (hull_all cs)
hull_all_keeps n x [] a h = absurd h
hull_all_keeps n x (c ∷ cs) a (inl h) = hull_with_first x c cs h.0
hull_all_keeps n x (c ∷ cs) a (inr h) = hull_with_later n x c cs a.0 a.1 h

all_alike : (n : ℕ) (cs : List (List Bounds)) → AreAlike n cs → All (λ b. length b ≡ n) cs
all_alike n [] a = All-nil (λ (b : List Bounds). length b ≡ n)
all_alike n (c ∷ cs) a = All-cons (λ b. length b ≡ n) c cs a.0 (all_alike n cs a.1)

q_hull_all_keeps : (n q : ℕ) (x : Point) (cs : List (List Bounds)) → 1 ≤ q → AreAlike n cs → InAtLeast q x cs → PointInSome x (q_hull_all q cs)
q_hull_all_keeps n zero x [] l a h = absurd (omega arith)
q_hull_all_keeps n (suc q) x [] l a h = absurd h
q_hull_all_keeps n q x (c ∷ cs) l a h =
    q_hull-keeps q (c ∷ cs) x l (all_alike (length c) (c ∷ cs) (subst (λ m. AreAlike m (c ∷ cs)) (sym a.0) a)) h

parts_alike : (cs : List (List Bounds)) (b : List Bounds) → AreParts cs b → AreAlike (length b) cs
parts_alike [] b h = tt
parts_alike (c ∷ cs) b h = (within_length c b h.0.within, parts_alike cs b h.1)

with_one : (x : Point) (q : ℕ) (o : Option (List Bounds)) (cs : List (List Bounds)) → PointInSome x o → InAtLeast q x cs → InAtLeast (suc q) x (with_result o cs)
with_one x q None cs h k = absurd h
with_one x q (Some c) cs h k = inl (h, k)

without_one : (x : Point) (q : ℕ) (o : Option (List Bounds)) (cs : List (List Bounds)) → InAtLeast (suc q) x cs → InAtLeast (suc q) x (with_result o cs)
without_one x q None cs k = k
without_one x q (Some c) cs k = inr k

mutual
  pub contract_keeps : (n : ℕ) (ss : List Sides) → AllOver n ss → (p : Plan) → IsFor (length ss) p → (x : Point) → IsMember ss p x → (b : List Bounds) → IsBox b → PointIn x b → PointInSome x (contract_of ss p b)
  contract_keeps n ss o (hc4 k) f x m b h i = let v = over_at n ss k o f in revised-keeps (side_at ss k) n b x v.0 v.1 i m
  contract_keeps n ss o (compose ps) f x m b h i = in_order_keeps (effects ss ps) x (effects_shrink n ss o ps f.1) (effects_keep n ss o ps f.1 x m) b h i
  contract_keeps n ss o (union ps) f x m b h i =
      hull_all_keeps (length b) x (results (effects ss ps) b) (parts_alike (results (effects ss ps) b) b (results_parts (effects ss ps) (effects_shrink n ss o ps f.1) b h)) (some_keep n ss o ps f.1 x 1 m b h i)
  contract_keeps n ss o (qinter q ps) f x m b h i =
      q_hull_all_keeps (length b) q x (results (effects ss ps) b) f.0 (parts_alike (results (effects ss ps) b) b (results_parts (effects ss ps) (effects_shrink n ss o ps f.2) b h)) (some_keep n ss o ps f.2 x q m b h i)
  contract_keeps n ss o (fix k p) f x m b h i = turns_keep k (contract_of ss p) x (contract_part n ss o p f.2) (contract_keeps n ss o p f.2 x m) b h i
  contract_keeps n ss o (prop k) f x m b h i =
      turns_keep k (all_revised ss) x (in_order_shrinks (map revised ss) (all_revised_shrink n ss o)) (in_order_keeps (map revised ss) x (all_revised_shrink n ss o) (all_revised_keep n ss o x m)) b h i

  effects_keep : (n : ℕ) (ss : List Sides) → AllOver n ss → (ps : Plans) → AreFor (length ss) ps → (x : Point) → IsInAll ss ps x → AllKeep (effects ss ps) x
  effects_keep n ss o no_plan f x m = tt
  effects_keep n ss o (plan_and p ps) f x m = (contract_keeps n ss o p f.0 x m.0, effects_keep n ss o ps f.1 x m.1)

  some_keep : (n : ℕ) (ss : List Sides) → AllOver n ss → (ps : Plans) → AreFor (length ss) ps → (x : Point) (q : ℕ) → IsInSoMany ss ps x q → (b : List Bounds) → IsBox b → PointIn x b → InAtLeast q x (results (effects ss ps) b)
  some_keep n ss o no_plan f x zero m b h i = tt
  some_keep n ss o no_plan f x (suc q) m b h i = absurd m
  some_keep n ss o (plan_and p ps) f x zero m b h i = tt
  some_keep n ss o (plan_and p ps) f x (suc q) (inl m) b h i = with_one x q (contract_of ss p b) (results (effects ss ps) b) (contract_keeps n ss o p f.0 x m.0 b h i) (some_keep n ss o ps f.1 x q m.1 b h i)
  some_keep n ss o (plan_and p ps) f x (suc q) (inr m) b h i = without_one x q (contract_of ss p b) (results (effects ss ps) b) (some_keep n ss o ps f.1 x (suc q) m b h i)

-- a member of a box lies in what its contraction leaves
pub contract-keeps : (n : ℕ) (ss : List Sides) (p : Plan) (b : List Bounds) (x : Point) → AllOver n ss → IsFor (length ss) p → IsBox b → PointIn x b → IsMember ss p x → PointInSome x (contract_of ss p b)
contract-keeps n ss p b x o f h i m = contract_keeps n ss o p f x m b h i

first_true : (t : Bool) (ts : List Bool) → all_true (t ∷ ts) ≡ true → (t ≡ true) × (all_true ts ≡ true)
first_true true ts h = (refl, h)
first_true false ts h = absurd (true≢false (sym h))

all_hold : (n : ℕ) (ss : List Sides) (b : List Bounds) (x : Point) → AllOver n ss → length b ≡ n → PointIn x b → all_true (constraints_sure ss b) ≡ true → AllHold ss x
all_hold n [] b x o l i h = tt
all_hold n (s ∷ ss) b x o l i h =
    let t = first_true (sure_of s b) (constraints_sure ss b) h in
    let v = subst (λ m. AreOver m s) (sym l) o.0 in
    (sure-holds s b x v.0 v.1 i t.0, all_hold n ss b x o.1 l i t.1)

fewer : (q n : ℕ) → nat_le (suc q) (1 + n) ≡ true → nat_le q n ≡ true
fewer q n h = grind (arith, nat_tests)

as_many : (q n : ℕ) → nat_le (suc q) (0 + n) ≡ true → nat_le (suc q) n ≡ true
as_many q n h = grind (arith, nat_tests)

too_few : (q : ℕ) → nat_le (suc q) 0 ≡ true → ⊥
too_few q h = grind (arith, nat_tests)

-- either the first test holds and one fewer is wanted behind it, or as many are
first_counts : (q : ℕ) (t : Bool) (ts : List Bool) → nat_le (suc q) (count_true (t ∷ ts)) ≡ true → ((t ≡ true) × (nat_le q (count_true ts) ≡ true)) ⊎ (nat_le (suc q) (count_true ts) ≡ true)
first_counts q true ts h = inl (refl, fewer q (count_true ts) h)
first_counts q false ts h = inr (as_many q (count_true ts) h)

mutual
  sure_members : (n : ℕ) (ss : List Sides) → AllOver n ss → (p : Plan) → IsFor (length ss) p → (b : List Bounds) → length b ≡ n → (x : Point) → PointIn x b → program_sure ss p b ≡ true → IsMember ss p x
  sure_members n ss o (hc4 k) f b l x i h = let v = subst (λ m. AreOver m (side_at ss k)) (sym l) (over_at n ss k o f) in sure-holds (side_at ss k) b x v.0 v.1 i h
  sure_members n ss o (compose ps) f b l x i h = all_members n ss o ps f.1 b l x i h
  sure_members n ss o (union ps) f b l x i h = some_members n ss o ps f.1 b l x i 1 h
  sure_members n ss o (qinter q ps) f b l x i h = some_members n ss o ps f.2 b l x i q h
  sure_members n ss o (fix k p) f b l x i h = sure_members n ss o p f.2 b l x i h
  sure_members n ss o (prop k) f b l x i h = all_hold n ss b x o l i h

  all_members : (n : ℕ) (ss : List Sides) → AllOver n ss → (ps : Plans) → AreFor (length ss) ps → (b : List Bounds) → length b ≡ n → (x : Point) → PointIn x b → all_true (parts_sure ss ps b) ≡ true → IsInAll ss ps x
  all_members n ss o no_plan f b l x i h = tt
  all_members n ss o (plan_and p ps) f b l x i h =
      let t = first_true (program_sure ss p b) (parts_sure ss ps b) h in
      (sure_members n ss o p f.0 b l x i t.0, all_members n ss o ps f.1 b l x i t.1)

  some_members : (n : ℕ) (ss : List Sides) → AllOver n ss → (ps : Plans) → AreFor (length ss) ps → (b : List Bounds) → length b ≡ n → (x : Point) → PointIn x b → (q : ℕ) → nat_le q (count_true (parts_sure ss ps b)) ≡ true → IsInSoMany ss ps x q
  some_members n ss o no_plan f b l x i zero h = tt
  some_members n ss o no_plan f b l x i (suc q) h = absurd (too_few q h)
  some_members n ss o (plan_and p ps) f b l x i zero h = tt
  some_members n ss o (plan_and p ps) f b l x i (suc q) h =
      elim (first_counts q (program_sure ss p b) (parts_sure ss ps b) h) [
        | inl t ↦ inl (sure_members n ss o p f.0 b l x i t.0, some_members n ss o ps f.1 b l x i q t.1)
        | inr t ↦ inr (some_members n ss o ps f.1 b l x i (suc q) t)
      ]

-- where a program is sure on a box, each point of it is a member
pub sure-members : (ss : List Sides) (p : Plan) (b : List Bounds) (x : Point) → AllOver (length b) ss → IsFor (length ss) p → PointIn x b → IsTrue (program_sure ss p b) → IsMember ss p x
sure-members ss p b x o f i h = sure_members (length b) ss o p f b refl x i h
