-- What the tests by centered forms say of points, where these enclose their expressions.
use Rattle.std.proofs.Common.{◌≡◌, ◌⊎◌, inl, inr, ℕ, zero, suc, ◌+◌, ◌-◌, ◌<◌, ◌≤◌, List, [], ◌∷◌, length, refl, ap, sym, ◌∙◌, subst, arith}
use Rattle.std.specs.Prelude.{Option, Some, None, Bool, true, false, not, ◌&&◌, ◌||◌, nat_le, nat_lt, ℤ, pos, ◌-ℤ◌, ◌*ℤ◌, ◌≤ℤ◌, ◌<ℤ◌, map}
use Rattle.std.proofs.Math.IntN.{zero-*ℤ, *ℤ-one}
use Rattle.std.proofs.lemmas.Bool.Decides.{nat_tests}
use Rattle.std.proofs.lemmas.Int.{ints}
use Rattle.std.proofs.lemmas.List.{get_or-map}
use Rattle.pv_num.specs.Extended.{Extended}
use Rattle.pv_num.specs.Order.{le, lt}
use Rattle.pv_interval.specs.Bounds.{Bounds}
use Rattle.pv_interval.specs.Fractions.{Fraction, minus}
use Rattle.pv_interval.specs.Points.{IsBelow, IsAbove, Lies, LiesInSome, Point}
use Rattle.pv_interval.specs.Tables.{nought, holds}
use Rattle.pv_interval.proofs.Multiples.{zero_below, zero_above, below_zero, above_zero}
use Rattle.pv_interval.proofs.Values.{across, below_le, above_le}
use Rattle.pv_box.specs.Boxes.{IsBox, PointIn}
use Rattle.pv_expr.specs.declared.constraint.Relation.{Relation}
use Rattle.pv_expr.specs.declared.constraint.Relation.TheVariants.{Eq, Le, Ge, Lt, Gt}
use Rattle.pv_expr.specs.declared.operators.BinaryOp.TheVariants.{Sub}
use Rattle.pv_expr.specs.Terms.{place, Stands, value_at, with_two}
use Rattle.pv_hc4.specs.Members.{HoldsAt, AreOver}
use Rattle.pv_hc4.specs.Revise.{Sides}
use Rattle.pv_hc4.specs.Totality.{total_of, same_number, sure_of}
use Rattle.pv_hc4.proofs.Comparing.{through_room, same_end}
use Rattle.pv_hc4.proofs.Sureness.{left_true, right_true, value_defined, sure-holds}
use Rattle.pv_ctc.specs.Contracting.{side_at}
use Rattle.pv_ctc.specs.Members.{AllOver, AllHold, IsMember, IsInAll, IsInSoMany}
use Rattle.pv_ctc.specs.Plans.{Plan, Plans, hc4, compose, union, qinter, fix, prop, no_plan, plan_and, plan_count, IsFor, AreFor}
use Rattle.pv_ctc.specs.Sureness.{all_true, count_true}
use Rattle.pv_ctc.proofs.Shrinking.{over_at}
use Rattle.pv_slope.specs.Centered.{gap_of, centered_of, CenteredEncloses}
use Rattle.pv_slope.specs.Tests.{none_stands, all_stand, none_in, all_in, centered_none, centered_sure, counts_as_sure}
use Rattle.pv_slope.specs.Programs.{test_at, none_by, none_by_each, sure_by, sure_by_each, none_tests, sure_tests, program_none, program_sure}

-- ---- ends and the signs of numbers

positive : (e : Extended) (m : ℤ) (d : ℕ) → 0 < d → lt nought e ≡ true → IsBelow e m d → pos 0 <ℤ m
positive e m d h t b =
    let f = through_room nought e (pos 0) m 1 d (omega arith) h t (zero_above (pos 0) 1 (omega (arith, ints))) b in
    let g = zero-*ℤ (pos d) in let i = *ℤ-one m in omega (arith, ints)

negative : (e : Extended) (m : ℤ) (d : ℕ) → 0 < d → lt e nought ≡ true → IsAbove e m d → m <ℤ pos 0
negative e m d h t b =
    let f = through_room e nought m (pos 0) d 1 h (omega arith) t b (zero_below (pos 0) 1 (omega (arith, ints))) in
    let g = zero-*ℤ (pos d) in let i = *ℤ-one m in omega (arith, ints)

from_zero : (e : Extended) (m : ℤ) (d : ℕ) → le nought e ≡ true → IsBelow e m d → pos 0 ≤ℤ m
from_zero e m d t b = below_zero m d (below_le nought e m d t b)

to_zero : (e : Extended) (m : ℤ) (d : ℕ) → le e nought ≡ true → IsAbove e m d → m ≤ℤ pos 0
to_zero e m d t b = above_zero m d (above_le e nought m d t b)

holds_zero : (d : ℕ) (x : Bounds) → Lies (pos 0) d x → holds x nought ≡ true
holds_zero d x h =
    ap (λ w. w && le nought x.hi) (across x.lo nought (pos 0) d h.some h.low (zero_above (pos 0) d (omega (arith, ints))))
    ∙ across nought x.hi (pos 0) d h.some (zero_below (pos 0) d (omega (arith, ints))) h.high

not_both : (t : Bool) → t ≡ true → not t ≡ true → ⊥
not_both true e f = absurd (cc)
not_both false e f = absurd (cc)

-- a - b stands to 0 as a stands to b
none_stand : (r : Relation) (a b : ℤ) (d : ℕ) (x : Bounds) → Lies (a -ℤ b) d x → none_stands r x ≡ true → Stands r a b → ⊥
none_stand Eq a b d x l t s =
    let e : (a -ℤ b) ≡ pos 0 = omega (arith, ints) in not_both (holds x nought) (holds_zero d x (subst (λ m. Lies m d x) e l)) t
none_stand Le a b d x l t s = let p = positive x.lo (a -ℤ b) d l.some t l.low in omega (arith, ints)
none_stand Lt a b d x l t s = let p = from_zero x.lo (a -ℤ b) d t l.low in omega (arith, ints)
none_stand Ge a b d x l t s = let p = negative x.hi (a -ℤ b) d l.some t l.high in omega (arith, ints)
none_stand Gt a b d x l t s = let p = to_zero x.hi (a -ℤ b) d t l.high in omega (arith, ints)

equal_ends : (a b : ℤ) → pos 0 ≤ℤ (a -ℤ b) → (a -ℤ b) ≤ℤ pos 0 → a ≡ b
equal_ends a b h k = omega (arith, ints)

all_so : (r : Relation) (a b : ℤ) (d : ℕ) (x : Bounds) → Lies (a -ℤ b) d x → all_stand r x ≡ true → Stands r a b
all_so Eq a b d x l t =
    let lo = same_end x.lo nought (left_true (same_number x.lo nought) (same_number x.hi nought) t) in
    let hi = same_end x.hi nought (right_true (same_number x.lo nought) (same_number x.hi nought) t) in
    equal_ends a b (below_zero (a -ℤ b) d (subst (λ e. IsBelow e (a -ℤ b) d) lo l.low)) (above_zero (a -ℤ b) d (subst (λ e. IsAbove e (a -ℤ b) d) hi l.high))
all_so Le a b d x l t = let p = to_zero x.hi (a -ℤ b) d t l.high in omega (arith, ints)
all_so Lt a b d x l t = let p = negative x.hi (a -ℤ b) d l.some t l.high in omega (arith, ints)
all_so Ge a b d x l t = let p = from_zero x.lo (a -ℤ b) d t l.low in omega (arith, ints)
all_so Gt a b d x l t = let p = positive x.lo (a -ℤ b) d l.some t l.low in omega (arith, ints)

none_some : (r : Relation) (a b : ℤ) (d : ℕ) (o : Option Bounds) → LiesInSome (a -ℤ b) d o → none_in r o ≡ true → Stands r a b → ⊥
none_some r a b d None l t s = l
none_some r a b d (Some x) l t s = none_stand r a b d x l t s

all_some : (r : Relation) (a b : ℤ) (d : ℕ) (o : Option Bounds) → LiesInSome (a -ℤ b) d o → all_in r o ≡ true → Stands r a b
all_some r a b d None l t = absurd l
all_some r a b d (Some x) l t = all_so r a b d x l t

-- ---- constraints

gap_value : (s : Sides) (x : Point) (f g : Fraction) → value_at s.left x.places x.under ≡ Some f → value_at s.right x.places x.under ≡ Some g
    → value_at (gap_of s) x.places x.under ≡ Some (minus f g)
gap_value s x f g e h = ap (λ o. with_two Sub o (value_at s.right x.places x.under)) e ∙ ap (with_two Sub (Some f)) h

-- a constraint that is centered-none on a box holds at no point of it
pub none_holds : CenteredEncloses → (s : Sides) (b : List Bounds) (x : Point) → AreOver (length b) s → IsBox b → PointIn x b → centered_none s b ≡ true → HoldsAt s x → ⊥
none_holds enc s b x o i h t m =
    none_some s.relation (m.v.top *ℤ pos m.w.under) (m.w.top *ℤ pos m.v.under) _ (centered_of b (gap_of s))
    (enc (gap_of s) b o i x (minus m.v m.w) h (gap_value s x m.v m.w m.left_is m.right_is)) t m.stands

-- a constraint that is centered-sure on a box holds at each point of it
pub sure_holds : CenteredEncloses → (s : Sides) (b : List Bounds) (x : Point) → AreOver (length b) s → IsBox b → PointIn x b → centered_sure s b ≡ true → HoldsAt s x
sure_holds enc s b x o i h t =
    let total = left_true (total_of b (gap_of s)) _ t in
    let first = value_defined x b s.left o.0 h (left_true (total_of b s.left) _ total) in
    let second = value_defined x b s.right o.1 h (left_true (total_of b s.right) true (right_true (total_of b s.left) _ total)) in
    record {
      v = first.v;
      w = second.v;
      left_is = first.is;
      right_is = second.is;
      stands = all_some s.relation (first.v.top *ℤ pos second.v.under) (second.v.top *ℤ pos first.v.under) _ (centered_of b (gap_of s))
          (enc (gap_of s) b o i x (minus first.v second.v) h (gap_value s x first.v second.v first.is second.is)) (right_true (total_of b (gap_of s)) _ t);
    }

either_true : (s t : Bool) → s || t ≡ true → (s ≡ true) ⊎ (t ≡ true)
either_true true t e = inl refl
either_true false t e = inr e

pub counts_holds : CenteredEncloses → (s : Sides) (b : List Bounds) (x : Point) → AreOver (length b) s → IsBox b → PointIn x b → counts_as_sure s b ≡ true → HoldsAt s x
counts_holds enc s b x o i h t =
    elim (either_true (sure_of s b) (centered_sure s b) t) [
      | inl e ↦ sure-holds s b x o.0 o.1 h e
      | inr e ↦ sure_holds enc s b x o i h e
    ]

-- ---- programs

truth : (t : Bool) → (t ≡ true → ⊥) → t ≡ false
truth true h = absurd (h refl)
truth false h = refl

pub test_of : (f : Sides → Bool) (ss : List Sides) (k : ℕ) → k < length ss → test_at (map f ss) k ≡ f (side_at ss k)
test_of f ss k h = get_or-map f ss k (record { left = place 0; relation = Eq; right = place 0 }) false h

no_more : (t : Bool) (ts : List Bool) (q m : ℕ) → t ≡ false → q + count_true ts ≤ m → suc q + count_true (t ∷ ts) ≤ suc m
no_more true ts q m e h = absurd (cc)
no_more false ts q m e h = omega arith

one_more : (t : Bool) (ts : List Bool) (q m : ℕ) → q + count_true ts ≤ m → q + count_true (t ∷ ts) ≤ suc m
one_more true ts q m h = omega arith
one_more false ts q m h = omega arith

counted_none : (t : Bool) (ts : List Bool) → t ≡ false → count_true ts ≡ 0 → count_true (t ∷ ts) ≡ 0
counted_none true ts e h = absurd (cc)
counted_none false ts e h = omega arith

all_counted : (ts : List Bool) → all_true ts ≡ true → count_true ts ≡ length ts
all_counted [] e = refl
all_counted (true ∷ ts) e = let h = all_counted ts e in omega arith
all_counted (false ∷ ts) e = absurd (cc)

none_length : (ts : List Bool) (ps : Plans) → length (none_by_each ts ps) ≡ plan_count ps
none_length ts no_plan = refl
none_length ts (plan_and p ps) = let h = none_length ts ps in omega arith

no_test : (n : ℕ) → n ≡ 0 → nat_le 1 n ≡ true → ⊥
no_test n e h = grind (arith, nat_tests)

few_tests : (q m n : ℕ) → q + n ≤ m → nat_lt (m - q) n ≡ true → ⊥
few_tests q m n h t = grind (arith, nat_tests)

all_hold_none : CenteredEncloses → (n : ℕ) (ss : List Sides) → AllOver n ss → (b : List Bounds) → length b ≡ n → IsBox b → (x : Point) → PointIn x b → AllHold ss x → count_true (none_tests ss b) ≡ 0
all_hold_none enc n [] o b l i x h m = refl
all_hold_none enc n (s ∷ ss) o b l i x h m =
    counted_none (centered_none s b) (none_tests ss b)
    (truth (centered_none s b) (λ t. none_holds enc s b x (subst (λ k. AreOver k s) (sym l) o.0) i h t m.0))
    (all_hold_none enc n ss o.1 b l i x h m.1)

mutual
  none_excludes : CenteredEncloses → (n : ℕ) (ss : List Sides) → AllOver n ss → (p : Plan) → IsFor (length ss) p → (b : List Bounds) → length b ≡ n → IsBox b → (x : Point) → PointIn x b
      → program_none ss p b ≡ true → IsMember ss p x → ⊥
  none_excludes enc n ss o (hc4 k) f b l i x h t m =
      let v = subst (λ m. AreOver m (side_at ss k)) (sym l) (over_at n ss k o f) in
      none_holds enc (side_at ss k) b x v i h (sym (test_of (λ s. centered_none s b) ss k f) ∙ t) m
  none_excludes enc n ss o (compose ps) f b l i x h t m = no_test _ (in_all enc n ss o ps f.1 b l i x h m) t
  none_excludes enc n ss o (union ps) f b l i x h t m =
      let c : 1 + count_true (none_by_each (none_tests ss b) ps) ≤ plan_count ps = in_many enc n ss o ps f.1 b l i x h 1 m in
      let e = all_counted (none_by_each (none_tests ss b) ps) t in
      let g = none_length (none_tests ss b) ps in omega arith
  none_excludes enc n ss o (qinter q ps) f b l i x h t m = few_tests q (plan_count ps) _ (in_many enc n ss o ps f.2 b l i x h q m) t
  none_excludes enc n ss o (fix k p) f b l i x h t m = none_excludes enc n ss o p f.2 b l i x h t m
  none_excludes enc n ss o (prop k) f b l i x h t m = no_test _ (all_hold_none enc n ss o b l i x h m) t

  -- no part excludes a member of all
  in_all : CenteredEncloses → (n : ℕ) (ss : List Sides) → AllOver n ss → (ps : Plans) → AreFor (length ss) ps → (b : List Bounds) → length b ≡ n → IsBox b → (x : Point) → PointIn x b
      → IsInAll ss ps x → count_true (none_by_each (none_tests ss b) ps) ≡ 0
  in_all enc n ss o no_plan f b l i x h m = refl
  in_all enc n ss o (plan_and p ps) f b l i x h m =
      counted_none (none_by (none_tests ss b) p) (none_by_each (none_tests ss b) ps)
      (truth (none_by (none_tests ss b) p) (λ t. none_excludes enc n ss o p f.0 b l i x h t m.0)) (in_all enc n ss o ps f.1 b l i x h m.1)

  -- the parts that exclude a member of q parts are at most the others
  in_many : CenteredEncloses → (n : ℕ) (ss : List Sides) → AllOver n ss → (ps : Plans) → AreFor (length ss) ps → (b : List Bounds) → length b ≡ n → IsBox b → (x : Point) → PointIn x b
      → (q : ℕ) → IsInSoMany ss ps x q → q + count_true (none_by_each (none_tests ss b) ps) ≤ plan_count ps
  in_many enc n ss o no_plan f b l i x h zero m = omega arith
  in_many enc n ss o no_plan f b l i x h (suc q) m = absurd m
  in_many enc n ss o (plan_and p ps) f b l i x h zero m =
      let c = one_more (none_by (none_tests ss b) p) (none_by_each (none_tests ss b) ps) 0 (plan_count ps) (in_many enc n ss o ps f.1 b l i x h 0 (none_wanted ss ps x)) in omega arith
  in_many enc n ss o (plan_and p ps) f b l i x h (suc q) (inl m) =
      let c = no_more (none_by (none_tests ss b) p) (none_by_each (none_tests ss b) ps) q (plan_count ps)
      (truth (none_by (none_tests ss b) p) (λ t. none_excludes enc n ss o p f.0 b l i x h t m.0)) (in_many enc n ss o ps f.1 b l i x h q m.1) in omega arith
  in_many enc n ss o (plan_and p ps) f b l i x h (suc q) (inr m) =
      let c = one_more (none_by (none_tests ss b) p) (none_by_each (none_tests ss b) ps) (suc q) (plan_count ps) (in_many enc n ss o ps f.1 b l i x h (suc q) m) in omega arith

  none_wanted : (ss : List Sides) (ps : Plans) (x : Point) → IsInSoMany ss ps x 0
  none_wanted ss no_plan x = tt
  none_wanted ss (plan_and p ps) x = tt

-- where a program has no point in a box, none of its points is a member
pub none-excludes : CenteredEncloses → (ss : List Sides) (p : Plan) (b : List Bounds) (x : Point) → AllOver (length b) ss → IsFor (length ss) p → IsBox b → PointIn x b
    → program_none ss p b ≡ true → IsMember ss p x → ⊥
none-excludes enc ss p b x o f i h t m = none_excludes enc (length b) ss o p f b refl i x h t m

-- ---- the sure test

first_true : (t : Bool) (ts : List Bool) → all_true (t ∷ ts) ≡ true → (t ≡ true) × (all_true ts ≡ true)
first_true true ts h = (refl, h)
first_true false ts h = absurd (cc)

fewer : (q n : ℕ) → nat_le (suc q) (1 + n) ≡ true → nat_le q n ≡ true
fewer q n h = grind (arith, nat_tests)

as_many : (q n : ℕ) → nat_le (suc q) (0 + n) ≡ true → nat_le (suc q) n ≡ true
as_many q n h = grind (arith, nat_tests)

too_few : (q : ℕ) → nat_le (suc q) 0 ≡ true → ⊥
too_few q h = grind (arith, nat_tests)

-- either the first test holds and one fewer is wanted behind it, or as many are
first_counts : (q : ℕ) (t : Bool) (ts : List Bool) → nat_le (suc q) (count_true (t ∷ ts)) ≡ true → ((t ≡ true) × (nat_le q (count_true ts) ≡ true)) ⊎ (nat_le (suc q) (count_true ts) ≡ true)
first_counts q true ts h = inl (refl, fewer q (count_true ts) h)
first_counts q false ts h = inr (as_many q (count_true ts) h)

all_hold : CenteredEncloses → (n : ℕ) (ss : List Sides) → AllOver n ss → (b : List Bounds) → length b ≡ n → IsBox b → (x : Point) → PointIn x b → all_true (sure_tests ss b) ≡ true → AllHold ss x
all_hold enc n [] o b l i x h t = tt
all_hold enc n (s ∷ ss) o b l i x h t =
    let e = first_true (counts_as_sure s b) (sure_tests ss b) t in
    (counts_holds enc s b x (subst (λ k. AreOver k s) (sym l) o.0) i h e.0, all_hold enc n ss o.1 b l i x h e.1)

mutual
  sure_members : CenteredEncloses → (n : ℕ) (ss : List Sides) → AllOver n ss → (p : Plan) → IsFor (length ss) p → (b : List Bounds) → length b ≡ n → IsBox b → (x : Point) → PointIn x b
      → program_sure ss p b ≡ true → IsMember ss p x
  sure_members enc n ss o (hc4 k) f b l i x h t =
      let v = subst (λ m. AreOver m (side_at ss k)) (sym l) (over_at n ss k o f) in
      counts_holds enc (side_at ss k) b x v i h (sym (test_of (λ s. counts_as_sure s b) ss k f) ∙ t)
  sure_members enc n ss o (compose ps) f b l i x h t = all_members enc n ss o ps f.1 b l i x h t
  sure_members enc n ss o (union ps) f b l i x h t = some_members enc n ss o ps f.1 b l i x h 1 t
  sure_members enc n ss o (qinter q ps) f b l i x h t = some_members enc n ss o ps f.2 b l i x h q t
  sure_members enc n ss o (fix k p) f b l i x h t = sure_members enc n ss o p f.2 b l i x h t
  sure_members enc n ss o (prop k) f b l i x h t = all_hold enc n ss o b l i x h t

  all_members : CenteredEncloses → (n : ℕ) (ss : List Sides) → AllOver n ss → (ps : Plans) → AreFor (length ss) ps → (b : List Bounds) → length b ≡ n → IsBox b → (x : Point) → PointIn x b
      → all_true (sure_by_each (sure_tests ss b) ps) ≡ true → IsInAll ss ps x
  all_members enc n ss o no_plan f b l i x h t = tt
  all_members enc n ss o (plan_and p ps) f b l i x h t =
      let e = first_true (sure_by (sure_tests ss b) p) (sure_by_each (sure_tests ss b) ps) t in
      (sure_members enc n ss o p f.0 b l i x h e.0, all_members enc n ss o ps f.1 b l i x h e.1)

  some_members : CenteredEncloses → (n : ℕ) (ss : List Sides) → AllOver n ss → (ps : Plans) → AreFor (length ss) ps → (b : List Bounds) → length b ≡ n → IsBox b → (x : Point) → PointIn x b
      → (q : ℕ) → nat_le q (count_true (sure_by_each (sure_tests ss b) ps)) ≡ true → IsInSoMany ss ps x q
  some_members enc n ss o no_plan f b l i x h zero t = tt
  some_members enc n ss o no_plan f b l i x h (suc q) t = absurd (too_few q t)
  some_members enc n ss o (plan_and p ps) f b l i x h zero t = tt
  some_members enc n ss o (plan_and p ps) f b l i x h (suc q) t =
      elim (first_counts q (sure_by (sure_tests ss b) p) (sure_by_each (sure_tests ss b) ps) t) [
        | inl e ↦ inl (sure_members enc n ss o p f.0 b l i x h e.0, some_members enc n ss o ps f.1 b l i x h q e.1)
        | inr e ↦ inr (some_members enc n ss o ps f.1 b l i x h (suc q) e)
      ]

-- where a program is sure on a box by either test, each point of it is a member
pub sure-members : CenteredEncloses → (ss : List Sides) (p : Plan) (b : List Bounds) (x : Point) → AllOver (length b) ss → IsFor (length ss) p → IsBox b → PointIn x b
    → program_sure ss p b ≡ true → IsMember ss p x
sure-members enc ss p b x o f i h t = sure_members enc (length b) ss o p f b refl i x h t
