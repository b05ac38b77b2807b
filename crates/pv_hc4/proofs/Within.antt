-- What a revision leaves lies in the box, and is a box.
use Rattle.std.proofs.Common.{◌≡◌, ◌≢◌, ℕ, zero, suc, ◌+◌, ◌%◌, ◌<◌, ◌≤◌, List, [], ◌∷◌, ◌++◌, length, refl, ap, sym, subst, arith, eqb}
use Rattle.std.specs.Prelude.{IsTrue, Option, Some, None, Bool, true, false, ◌&&◌, nat_eq, All, pos, if◌then◌else◌}
use Rattle.pv_num.specs.Extended.{Extended, NegInf, Fin, PosInf}
use Rattle.pv_num.specs.Grid.{unit}
use Rattle.pv_num.specs.Order.{le, lt, lesser, greater}
use Rattle.pv_num.specs.Arithmetic.{neg_of, root_of}
use Rattle.pv_num.specs.declared.num.End.TheVariants.{Down, Up}
use Rattle.pv_interval.specs.Bounds.{Bounds, IsInterval, between, everything}
use Rattle.pv_interval.specs.Tables.{nought, has_nought, is_nought, holds, meet_of, negated, quotient_of, sum_of, difference_of, product_of}
use Rattle.pv_interval.proofs.Choices.{lesser_left, greater_left, lesser_either, greater_either}
use Rattle.pv_interval.proofs.Ends.{le_refl, le_trans, le_of_false, lt_from}
use Rattle.pv_interval.proofs.Intervals.{sum_interval, difference_interval, product_interval, least_interval, greatest_interval, hull_interval, negated_interval, absolute_interval, power_interval, quotient_interval}
use Rattle.pv_interval.proofs.Orders.{cond_keeps}
use Rattle.pv_project.specs.Projections.{chain as chain_there, narrowed, factor_of, least_side, greatest_side, hull_of_parts, both_signs, odd_low, odd_high, even_roots, back_add_of, back_sub_of, back_mul_of, back_div_of, back_min_of, back_max_of, back_neg_of, back_abs_of, back_pow_of}
use Rattle.pv_project.proofs.Roots.{root_down_open, root_up_open, neg_not_pos, neg_not_neg}
use Rattle.pv_box.specs.Boxes.{IsBox}
use Rattle.pv_expr.specs.Systems.{IsOver}
use Rattle.pv_expr.specs.declared.constraint.Relation.{Relation}
use Rattle.pv_expr.specs.declared.constraint.Relation.TheVariants.{Eq, Le, Ge, Lt, Gt}
use Rattle.pv_expr.specs.declared.operators.UnaryOp.{UnaryOp}
use Rattle.pv_expr.specs.declared.operators.UnaryOp.TheVariants.{Neg, Abs, Pow}
use Rattle.pv_expr.specs.declared.operators.BinaryOp.{BinaryOp}
use Rattle.pv_expr.specs.declared.operators.BinaryOp.TheVariants.{Add, Sub, Mul, Div, Min, Max}
use Rattle.pv_expr.specs.Terms.{Term, constant, place, one, two}
use Rattle.pv_hc4.specs.Chain.{chain, at}
use Rattle.pv_hc4.specs.Forward.{forward_of, unary_of, binary_of}
use Rattle.pv_hc4.specs.Revise.{back_1, back_2, Target, joined, targets_of, place_of, places_from, Sides, ordered_of, swapped, related_of, both_targets, revised}
use Rattle.pv_hc4.specs.Members.{AreWithin}
use Rattle.pv_hc4.proofs.Constants.{constant_interval}

-- ---- each place lies in its old interval

-- the new interval, if it is there, lies in the old one
abbrev pub Inside : Bounds → Option Bounds → Type 0
Inside x None = Unit {0}
Inside x (Some y) = IsTrue (le x.lo y.lo) × IsTrue (le y.hi x.hi)

pub meet_inside : (x y : Bounds) → Inside x (meet_of x y)
unfolding meet_of
meet_inside x y = cond_keeps (Inside x) (le (greater x.lo y.lo) (lesser x.hi y.hi))
    (Some (record { lo = greater x.lo y.lo; hi = lesser x.hi y.hi })) None
    (λ t. (greater_left x.lo y.lo, lesser_left x.hi y.hi)) (λ t. tt)

inside_trans : (x y : Bounds) (o : Option Bounds) → Inside x (Some y) → Inside y o → Inside x o
inside_trans x y None h k = tt
inside_trans x y (Some z) h k = (le_trans x.lo y.lo z.lo h.0 k.0, le_trans z.hi y.hi x.hi k.1 h.1)

inside_chain : (x : Bounds) (o : Option Bounds) (f : Bounds → Option Bounds) → Inside x o → ((y : Bounds) → Inside y (f y)) → Inside x (chain o f)
inside_chain x None f h k = tt
inside_chain x (Some y) f h k = inside_trans x y (f y) h (k y)

place_inside : (i : ℕ) (ts : List Target) (x : Bounds) → Inside x (place_of i ts x)
place_inside i [] x = (le_refl x.lo, le_refl x.hi)
place_inside i (s ∷ ts) x =
    cond_keeps (Inside x) (nat_eq s.var i) (chain (meet_of x s.within) (place_of i ts)) (place_of i ts x)
    (λ t. inside_chain x (meet_of x s.within) (place_of i ts) (meet_inside x s.within) (place_inside i ts))
    (λ t. place_inside i ts x)

abbrev pub WithinSome : Option (List Bounds) → List Bounds → Type 0
WithinSome None b = Unit {0}
WithinSome (Some c) b = AreWithin c b

cons_within : (x : Bounds) (b : List Bounds) (o : Option Bounds) (p : Option (List Bounds)) → Inside x o → WithinSome p b → WithinSome (chain o (λ y. chain p (λ c. Some (y ∷ c)))) (x ∷ b)
cons_within x b None p h k = tt
cons_within x b (Some y) None h k = tt
cons_within x b (Some y) (Some c) h k = (h.0, h.1, k)

places_within : (i : ℕ) (ts : List Target) (b : List Bounds) → WithinSome (places_from i ts b) b
places_within i ts [] = tt
places_within i ts (x ∷ b) =
    cons_within x b (place_of i ts x) (places_from (i + 1) ts b) (place_inside i ts x) (places_within (i + 1) ts b)

within_chain : {A : Type 0} (b : List Bounds) (o : Option A) (f : A → Option (List Bounds)) → ((x : A) → WithinSome (f x) b) → WithinSome (chain o f) b
within_chain b None f h = tt
within_chain b (Some x) f h = h x

from_some : (o : Option (List Bounds)) (b c : List Bounds) → o ≡ Some c → WithinSome o b → AreWithin c b
from_some None b c e h = absurd (cc)
from_some (Some d) b c e h = let f : d ≡ c = cc in subst (λ x. AreWithin x b) f h

-- what a revision leaves lies in the box
pub revised-within : (s : Sides) (b c : List Bounds) → revised s b ≡ Some c → AreWithin c b
revised-within s b c e = from_some (revised s b) b c e
    (within_chain b (forward_of b s.left) _ (λ x. within_chain b (forward_of b s.right) _ (λ y.
    within_chain b (related_of s.relation x y) _ (λ p. within_chain b (both_targets b s p) _ (λ ts. places_within 0 ts b)))))

-- ---- each interval on the way is one

abbrev pub Fine : Option Bounds → Type 0
Fine None = Unit {0}
Fine (Some x) = IsInterval x

abbrev pub FinePair : Option (Bounds × Bounds) → Type 0
FinePair None = Unit {0}
FinePair (Some p) = IsInterval p.0 × IsInterval p.1

meet_open : (x y : Bounds) → IsInterval x → y.lo ≢ PosInf → y.hi ≢ NegInf → Fine (meet_of x y)
unfolding meet_of
meet_open x y h l k = cond_keeps Fine (le (greater x.lo y.lo) (lesser x.hi y.hi))
    (Some (record { lo = greater x.lo y.lo; hi = lesser x.hi y.hi })) None
    (λ t. record {
      ordered = t;
      lo_open = greater_either (λ e. e ≢ PosInf) x.lo y.lo h.lo_open l;
      hi_open = lesser_either (λ e. e ≢ NegInf) x.hi y.hi h.hi_open k;
    })
    (λ t. tt)

meet_fine : (x y : Bounds) → IsInterval x → IsInterval y → Fine (meet_of x y)
meet_fine x y h k = meet_open x y h k.lo_open k.hi_open

quotient_fine : (x y : Bounds) → IsInterval x → IsInterval y → Fine (quotient_of x y)
quotient_fine x y h k = by_value (quotient_of x y) refl
  where
    by_value : (o : Option Bounds) → quotient_of x y ≡ o → Fine o
    by_value None e = tt
    by_value (Some z) e = quotient_interval x y z h k e

there_fine : (o : Option Bounds) (f : Bounds → Option Bounds) → Fine o → ((x : Bounds) → IsInterval x → Fine (f x)) → Fine (chain_there o f)
there_fine None f h k = tt
there_fine (Some x) f h k = k x h

pair_fine : (x : Bounds) (o : Option Bounds) → IsInterval x → Fine o → FinePair (chain_there o (λ y. Some (x, y)))
pair_fine x None h k = tt
pair_fine x (Some y) h k = (h, k)

narrowed_fine : (o : Option Bounds) (f : Bounds → Option Bounds) → Fine o → ((x : Bounds) → IsInterval x → Fine (f x)) → FinePair (narrowed o f)
narrowed_fine None f h k = tt
narrowed_fine (Some x) f h k = pair_fine x (f x) h (k x h)

everything_fine : IsInterval everything
everything_fine = record { ordered = refl; lo_open = λ e. cc; hi_open = λ e. cc }

factor_fine : (z y : Bounds) → IsInterval z → IsInterval y → Fine (factor_of z y)
factor_fine z y h k = cond_keeps Fine (has_nought z && has_nought y) (Some everything) (quotient_of z y) (λ t. everything_fine) (λ t. quotient_fine z y h k)

met_factor : (x z y : Bounds) → IsInterval x → IsInterval z → IsInterval y → Fine (chain_there (factor_of z y) (λ q. meet_of x q))
met_factor x z y i h k = there_fine (factor_of z y) (λ q. meet_of x q) (factor_fine z y h k) (λ q j. meet_fine x q i j)

add_fine : (z x y : Bounds) → IsInterval z → IsInterval x → IsInterval y → FinePair (back_add_of z x y)
unfolding back_add_of
add_fine z x y k h i = narrowed_fine (meet_of x (difference_of z y)) (λ x'. meet_of y (difference_of z x'))
    (meet_fine x (difference_of z y) h (difference_interval z y k i)) (λ x' j. meet_fine y (difference_of z x') i (difference_interval z x' k j))

sub_fine : (z x y : Bounds) → IsInterval z → IsInterval x → IsInterval y → FinePair (back_sub_of z x y)
unfolding back_sub_of
sub_fine z x y k h i = narrowed_fine (meet_of x (sum_of z y)) (λ x'. meet_of y (difference_of x' z))
    (meet_fine x (sum_of z y) h (sum_interval z y k i)) (λ x' j. meet_fine y (difference_of x' z) i (difference_interval x' z j k))

mul_fine : (z x y : Bounds) → IsInterval z → IsInterval x → IsInterval y → FinePair (back_mul_of z x y)
unfolding back_mul_of
mul_fine z x y k h i = narrowed_fine (chain_there (factor_of z y) (λ q. meet_of x q)) (λ x'. chain_there (factor_of z x') (λ q. meet_of y q))
    (met_factor x z y h k i) (λ x' j. met_factor y z x' i k j)

div_fine : (z x y : Bounds) → IsInterval z → IsInterval x → IsInterval y → FinePair (back_div_of z x y)
unfolding back_div_of
div_fine z x y k h i = cond_keeps FinePair (is_nought y) None (narrowed (meet_of x (product_of z y)) (λ x'. chain_there (factor_of x' z) (λ q. meet_of y q)))
    (λ t. tt)
    (λ t. narrowed_fine (meet_of x (product_of z y)) (λ x'. chain_there (factor_of x' z) (λ q. meet_of y q))
    (meet_fine x (product_of z y) h (product_interval z y k i)) (λ x' j. met_factor y x' z i j k))

-- ends that leave room for a number
abbrev pub IsOpen : Bounds → Type 0
IsOpen x = (x.lo ≢ PosInf) × (x.hi ≢ NegInf)

least_open : (z y : Bounds) → IsInterval z → IsOpen (least_side z y)
least_open z y k = cond_keeps IsOpen (lt z.hi y.lo) z (between z.lo PosInf) (λ t. (k.lo_open, k.hi_open)) (λ t. (k.lo_open, λ e. cc))

greatest_open : (z y : Bounds) → IsInterval z → IsOpen (greatest_side z y)
greatest_open z y k = cond_keeps IsOpen (lt y.hi z.lo) z (between NegInf z.hi) (λ t. (k.lo_open, k.hi_open)) (λ t. (λ e. cc, k.hi_open))

min_fine : (z x y : Bounds) → IsInterval z → IsInterval x → IsInterval y → FinePair (back_min_of z x y)
unfolding back_min_of
min_fine z x y k h i = narrowed_fine (meet_of x (least_side z y)) (λ x'. meet_of y (least_side z x'))
    (let o = least_open z y k in meet_open x (least_side z y) h o.0 o.1) (λ x' j. let o = least_open z x' k in meet_open y (least_side z x') i o.0 o.1)

max_fine : (z x y : Bounds) → IsInterval z → IsInterval x → IsInterval y → FinePair (back_max_of z x y)
unfolding back_max_of
max_fine z x y k h i = narrowed_fine (meet_of x (greatest_side z y)) (λ x'. meet_of y (greatest_side z x'))
    (let o = greatest_open z y k in meet_open x (greatest_side z y) h o.0 o.1) (λ x' j. let o = greatest_open z x' k in meet_open y (greatest_side z x') i o.0 o.1)

parts_fine : (a c : Option Bounds) → Fine a → Fine c → Fine (hull_of_parts a c)
parts_fine None None h k = tt
parts_fine None (Some y) h k = k
parts_fine (Some x) None h k = h
parts_fine (Some x) (Some y) h k = hull_interval x y h

negated_open : (w : Bounds) → IsOpen w → IsOpen (negated w)
unfolding negated
negated_open w o = (neg_not_pos w.hi o.1, neg_not_neg w.lo o.0)

signs_fine : (x w : Bounds) → IsInterval x → IsOpen w → Fine (both_signs x w)
signs_fine x w h o = let n = negated_open w o in
    parts_fine (meet_of x w) (meet_of x (negated w)) (meet_open x w h o.0 o.1) (meet_open x (negated w) h n.0 n.1)

neg_fine : (z x : Bounds) → IsInterval z → IsInterval x → Fine (back_neg_of z x)
unfolding back_neg_of
neg_fine z x k h = meet_fine x (negated z) h (negated_interval z k)

from_nought_fine : (z : Bounds) → IsInterval z → Fine (meet_of z (between nought PosInf))
from_nought_fine z k = meet_open z (between nought PosInf) k (λ e. cc) (λ e. cc)

abs_fine : (z x : Bounds) → IsInterval z → IsInterval x → Fine (back_abs_of z x)
unfolding back_abs_of
abs_fine z x k h = there_fine (meet_of z (between nought PosInf)) (λ w. both_signs x w) (from_nought_fine z k) (λ w j. signs_fine x w h (j.lo_open, j.hi_open))

odd_low_open : (e : Extended) (n : ℕ) → odd_low e n ≢ PosInf
odd_low_open NegInf n = λ e. cc
odd_low_open (Fin a) n = cond_keeps (λ e. e ≢ PosInf) (le nought (Fin a)) (root_of Down (Fin a) n) (neg_of (root_of Up (neg_of (Fin a)) n))
    (λ t. root_down_open (Fin a) n) (λ t. neg_not_pos (root_of Up (neg_of (Fin a)) n) (root_up_open (neg_of (Fin a)) n))
odd_low_open PosInf n = root_down_open PosInf n

odd_high_open : (e : Extended) (n : ℕ) → odd_high e n ≢ NegInf
odd_high_open e n = cond_keeps (λ e. e ≢ NegInf) (le nought e) (root_of Up e n) (neg_of (root_of Down (neg_of e) n))
    (λ t. root_up_open e n) (λ t. neg_not_neg (root_of Down (neg_of e) n) (root_down_open (neg_of e) n))

pow_fine : (z x : Bounds) (n : ℕ) → IsInterval z → IsInterval x → Fine (back_pow_of z x n)
unfolding back_pow_of
pow_fine z x n k h =
    let even = chain_there (meet_of z (between nought PosInf)) (λ w. both_signs x (even_roots w n)) in
    let odd = meet_of x (between (odd_low z.lo n) (odd_high z.hi n)) in
    cond_keeps Fine (eqb n 0) (if holds z (Fin (pos unit)) then Some x else None) (if eqb (n % 2) 0 then even else odd)
    (λ t. cond_keeps Fine (holds z (Fin (pos unit))) (Some x) None (λ t. h) (λ t. tt))
    (λ t. cond_keeps Fine (eqb (n % 2) 0) even odd
    (λ t. there_fine (meet_of z (between nought PosInf)) (λ w. both_signs x (even_roots w n)) (from_nought_fine z k)
    (λ w j. signs_fine x (even_roots w n) h (root_down_open w.lo n, root_up_open w.hi n)))
    (λ t. meet_open x (between (odd_low z.lo n) (odd_high z.hi n)) h (odd_low_open z.lo n) (odd_high_open z.hi n)))

pub unary_back_fine : (u : UnaryOp) (z x : Bounds) → IsInterval z → IsInterval x → Fine (back_1 u z x)
unary_back_fine Neg z x k h = neg_fine z x k h
unary_back_fine Abs z x k h = abs_fine z x k h
unary_back_fine (Pow n) z x k h = pow_fine z x n k h

pub binary_back_fine : (o : BinaryOp) (z x y : Bounds) → IsInterval z → IsInterval x → IsInterval y → FinePair (back_2 o z x y)
binary_back_fine Add z x y k h i = add_fine z x y k h i
binary_back_fine Sub z x y k h i = sub_fine z x y k h i
binary_back_fine Mul z x y k h i = mul_fine z x y k h i
binary_back_fine Div z x y k h i = div_fine z x y k h i
binary_back_fine Min z x y k h i = min_fine z x y k h i
binary_back_fine Max z x y k h i = max_fine z x y k h i

-- ---- the pass up

pub unary_fine : (u : UnaryOp) (x : Bounds) → IsInterval x → IsInterval (unary_of u x)
unary_fine Neg x h = negated_interval x h
unary_fine Abs x h = absolute_interval x h
unary_fine (Pow n) x h = power_interval x n h

binary_fine : (o : BinaryOp) (x y : Bounds) → IsInterval x → IsInterval y → Fine (binary_of o x y)
binary_fine Add x y h k = sum_interval x y h k
binary_fine Sub x y h k = difference_interval x y h k
binary_fine Mul x y h k = product_interval x y h k
binary_fine Div x y h k = quotient_fine x y h k
binary_fine Min x y h k = least_interval x y h k
binary_fine Max x y h k = greatest_interval x y h k

one_fine : (u : UnaryOp) (o : Option Bounds) → Fine o → Fine (chain o (λ x. Some (unary_of u x)))
one_fine u None h = tt
one_fine u (Some x) h = unary_fine u x h

two_fine : (k : BinaryOp) (o p : Option Bounds) → Fine o → Fine p → Fine (chain o (λ x. chain p (λ y. binary_of k x y)))
two_fine k None p h i = tt
two_fine k (Some x) None h i = tt
two_fine k (Some x) (Some y) h i = binary_fine k x y h i

pub at_fine : (b : List Bounds) (i : ℕ) → All IsInterval b → IsInterval (at b i)
at_fine b i h = by_length b i h
  where
    by_length : (b : List Bounds) (i : ℕ) → All IsInterval b → IsInterval (at b i)
    by_length [] i h = everything_fine
    by_length (x ∷ b) zero h = h 0 everything (omega arith)
    by_length (x ∷ b) (suc i) h = by_length b i (λ k d l. h (suc k) d (omega arith))

pub forward_fine : (n : ℕ) (b : List Bounds) (t : Term) → IsOver n t → All IsInterval b → Fine (forward_of b t)
forward_fine n b (constant p q) o h = constant_interval p q o.under_above
forward_fine n b (place i) o h = at_fine b i h
forward_fine n b (one u t) o h = one_fine u (forward_of b t) (forward_fine n b t o.1 h)
forward_fine n b (two k t u) o h = two_fine k (forward_of b t) (forward_of b u) (forward_fine n b t o.0 h) (forward_fine n b u o.1 h)

-- ---- the targets

abbrev pub AllFine : List Target → Type 0
AllFine [] = Unit {0}
AllFine (s ∷ ts) = IsInterval s.within × AllFine ts

abbrev pub FineTargets : Option (List Target) → Type 0
FineTargets None = Unit {0}
FineTargets (Some ts) = AllFine ts

AllFine-append : (xs ys : List Target) → AllFine xs → AllFine ys → AllFine (xs ++ ys)
AllFine-append [] ys h k = k
AllFine-append (s ∷ xs) ys h k = (h.0, AllFine-append xs ys h.1 k)

joined_fine : (o p : Option (List Target)) → FineTargets o → FineTargets p → FineTargets (joined o p)
joined_fine None p h k = tt
joined_fine (Some xs) None h k = tt
joined_fine (Some xs) (Some ys) h k = AllFine-append xs ys h k

one_then : (o : Option Bounds) (f : Bounds → Option (List Target)) → Fine o → ((x : Bounds) → IsInterval x → FineTargets (f x)) → FineTargets (chain o f)
one_then None f h k = tt
one_then (Some x) f h k = k x h

two_then : (o : Option (Bounds × Bounds)) (f : Bounds × Bounds → Option (List Target)) → FinePair o → ((p : Bounds × Bounds) → IsInterval p.0 → IsInterval p.1 → FineTargets (f p)) → FineTargets (chain o f)
two_then None f h k = tt
two_then (Some p) f h k = k p h.0 h.1

targets_fine : (n : ℕ) (b : List Bounds) (t : Term) (z : Bounds) → IsOver n t → All IsInterval b → IsInterval z → FineTargets (targets_of b t z)
targets_fine n b (constant p q) z o h k = tt
targets_fine n b (place i) z o h k = (k, tt)
targets_fine n b (one u t) z o h k =
    one_then (forward_of b t) (λ x. chain (back_1 u z x) (λ y. targets_of b t y)) (forward_fine n b t o.1 h)
    (λ x i. one_then (back_1 u z x) (λ y. targets_of b t y) (unary_back_fine u z x k i) (λ y j. targets_fine n b t y o.1 h j))
targets_fine n b (two c t u) z o h k =
    one_then (forward_of b t) (λ x. chain (forward_of b u) (λ y. chain (back_2 c z x y) (λ p. joined (targets_of b t p.0) (targets_of b u p.1)))) (forward_fine n b t o.0 h)
    (λ x i. one_then (forward_of b u) (λ y. chain (back_2 c z x y) (λ p. joined (targets_of b t p.0) (targets_of b u p.1))) (forward_fine n b u o.1 h)
    (λ y j. two_then (back_2 c z x y) (λ p. joined (targets_of b t p.0) (targets_of b u p.1)) (binary_back_fine c z x y k i j)
    (λ p l m. joined_fine (targets_of b t p.0) (targets_of b u p.1) (targets_fine n b t p.0 o.0 h l) (targets_fine n b u p.1 o.1 h m))))

both_fine : (o : Option Bounds) → Fine o → FinePair (chain o (λ m. Some (m, m)))
both_fine None h = tt
both_fine (Some m) h = (h, h)

ordered_fine : (l r : Bounds) → IsInterval l → IsInterval r → IsTrue (le l.lo r.hi) → IsInterval (ordered_of l r).0 × IsInterval (ordered_of l r).1
ordered_fine l r h k e = (
  record {
    ordered = lesser_either (λ a. IsTrue (le l.lo a)) l.hi r.hi h.ordered e;
    lo_open = h.lo_open;
    hi_open = lesser_either (λ a. a ≢ NegInf) l.hi r.hi h.hi_open k.hi_open;
  },
  record {
    ordered = greater_either (λ a. IsTrue (le a r.hi)) r.lo l.lo k.ordered e;
    lo_open = greater_either (λ a. a ≢ PosInf) r.lo l.lo k.lo_open h.lo_open;
    hi_open = k.hi_open;
  },
)

not_over : (a c : Extended) → lt a c ≡ false → IsTrue (le c a)
not_over a c e = by_test (le c a) refl
  where
    by_test : (t : Bool) → le c a ≡ t → IsTrue (le c a)
    by_test true f = f
    by_test false f = let g = lt_from a c f in absurd (cc)

related_fine : (c : Relation) (l r : Bounds) → IsInterval l → IsInterval r → FinePair (related_of c l r)
related_fine Eq l r h k = both_fine (meet_of l r) (meet_fine l r h k)
related_fine Le l r h k = cond_keeps FinePair (lt r.hi l.lo) None (Some (ordered_of l r)) (λ t. tt) (λ t. ordered_fine l r h k (not_over r.hi l.lo t))
related_fine Lt l r h k = cond_keeps FinePair (le r.hi l.lo) None (Some (ordered_of l r)) (λ t. tt) (λ t. ordered_fine l r h k (le_of_false r.hi l.lo t))
related_fine Ge l r h k = cond_keeps FinePair (lt l.hi r.lo) None (Some (swapped (ordered_of r l))) (λ t. tt)
    (λ t. let p = ordered_fine r l k h (not_over l.hi r.lo t) in (p.1, p.0))
related_fine Gt l r h k = cond_keeps FinePair (le l.hi r.lo) None (Some (swapped (ordered_of r l))) (λ t. tt)
    (λ t. let p = ordered_fine r l k h (le_of_false l.hi r.lo t) in (p.1, p.0))

-- ---- the places

here_fine : (o : Option Bounds) (f : Bounds → Option Bounds) → Fine o → ((x : Bounds) → IsInterval x → Fine (f x)) → Fine (chain o f)
here_fine None f h k = tt
here_fine (Some x) f h k = k x h

place_fine : (i : ℕ) (ts : List Target) (x : Bounds) → AllFine ts → IsInterval x → Fine (place_of i ts x)
place_fine i [] x a h = h
place_fine i (s ∷ ts) x a h =
    cond_keeps Fine (nat_eq s.var i) (chain (meet_of x s.within) (place_of i ts)) (place_of i ts x)
    (λ t. here_fine (meet_of x s.within) (place_of i ts) (meet_fine x s.within h a.0) (λ y k. place_fine i ts y a.1 k))
    (λ t. place_fine i ts x a.1 h)

pub record IsFineBox (n : ℕ) (c : List Bounds) : Type 0 where
  pub same : length c ≡ n
  pub intervals : All IsInterval c

abbrev pub FineBox : ℕ → Option (List Bounds) → Type 0
FineBox n None = Unit {0}
FineBox n (Some c) = IsFineBox n c

all_cons : (y : Bounds) (c : List Bounds) → IsInterval y → All IsInterval c → All IsInterval (y ∷ c)
all_cons y c h k zero d l = h
all_cons y c h k (suc i) d l = let m : i < length c = omega arith in k i d m

cons_fine : (n : ℕ) (o : Option Bounds) (p : Option (List Bounds)) → Fine o → FineBox n p → FineBox (suc n) (chain o (λ y. chain p (λ c. Some (y ∷ c))))
cons_fine n None p h k = tt
cons_fine n (Some y) None h k = tt
cons_fine n (Some y) (Some c) h k = record { same = ap suc k.same; intervals = all_cons y c h k.intervals }

places_fine : (i : ℕ) (ts : List Target) (b : List Bounds) → AllFine ts → All IsInterval b → FineBox (length b) (places_from i ts b)
places_fine i ts [] a h = record { same = refl; intervals = h }
places_fine i ts (x ∷ b) a h =
    cons_fine (length b) (place_of i ts x) (places_from (i + 1) ts b) (place_fine i ts x a (h 0 x (omega arith)))
    (places_fine (i + 1) ts b a (λ k d l. h (suc k) d (omega arith)))

step_fine : (n : ℕ) (o : Option Bounds) (f : Bounds → Option (List Bounds)) → Fine o → ((x : Bounds) → IsInterval x → FineBox n (f x)) → FineBox n (chain o f)
step_fine n None f h k = tt
step_fine n (Some x) f h k = k x h

pair_step : (n : ℕ) (o : Option (Bounds × Bounds)) (f : Bounds × Bounds → Option (List Bounds)) → FinePair o → ((p : Bounds × Bounds) → IsInterval p.0 → IsInterval p.1 → FineBox n (f p)) → FineBox n (chain o f)
pair_step n None f h k = tt
pair_step n (Some p) f h k = k p h.0 h.1

last_step : (b : List Bounds) (o : Option (List Target)) → FineTargets o → All IsInterval b → FineBox (length b) (chain o (λ ts. places_from 0 ts b))
last_step b None h k = tt
last_step b (Some ts) h k = places_fine 0 ts b h k

whole_fine : (s : Sides) (n : ℕ) (b : List Bounds) → IsOver n s.left → IsOver n s.right → All IsInterval b → FineBox (length b) (revised s b)
whole_fine s n b o p h =
    step_fine (length b) (forward_of b s.left) _ (forward_fine n b s.left o h) (λ x i.
    step_fine (length b) (forward_of b s.right) _ (forward_fine n b s.right p h) (λ y j.
    pair_step (length b) (related_of s.relation x y) _ (related_fine s.relation x y i j) (λ q k l.
    last_step b (both_targets b s q) (joined_fine (targets_of b s.left q.0) (targets_of b s.right q.1) (targets_fine n b s.left q.0 o h k) (targets_fine n b s.right q.1 p h l)) h)))

box_from : (o : Option (List Bounds)) (b c : List Bounds) → o ≡ Some c → IsBox b → FineBox (length b) o → IsBox c
box_from None b c e h k = absurd (cc)
box_from (Some d) b c e h k =
    let f : d ≡ c = cc in
    subst IsBox f (record { some = subst (λ n. 0 < n) (sym k.same) h.some; few = subst (λ n. n ≤ 12) (sym k.same) h.few; intervals = k.intervals })

-- what a revision leaves of a box is a box
pub revised-box : (s : Sides) (n : ℕ) (b c : List Bounds) → IsOver n s.left → IsOver n s.right → IsBox b → revised s b ≡ Some c → IsBox c
revised-box s n b c o p h e = box_from (revised s b) b c e h (whole_fine s n b o p h.intervals)
