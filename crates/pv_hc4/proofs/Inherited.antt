-- Forward intervals, totality and the sure test go over to the parts of a box.
use Rattle.std.proofs.Common.{◌≡◌, ℕ, zero, suc, List, [], ◌∷◌, refl, ap, sym, ◌∙◌, subst}
use Rattle.std.specs.Prelude.{IsTrue, Option, Some, None, Bool, true, false, not, ◌&&◌, All}
use Rattle.pv_num.specs.Extended.{Extended}
use Rattle.pv_num.specs.Order.{le, lt}
use Rattle.pv_interval.specs.Bounds.{Bounds, IsInterval, everything}
use Rattle.pv_interval.specs.Subsets.{IsSubset, IsSubsetSome}
use Rattle.pv_interval.specs.Tables.{nought, has_nought, quotient_of, of_ends}
use Rattle.pv_num.specs.Arithmetic.{div_of}
use Rattle.pv_interval.proofs.Ends.{le_refl, le_trans, le_antisym, lt_from, lt_not}
use Rattle.pv_interval.proofs.Cases.{quotient_positive, quotient_negative}
use Rattle.pv_interval.proofs.Contained.{sum_contained, difference_contained, product_contained, least_contained, greatest_contained, negated_contained, absolute_contained, power_contained}
use Rattle.pv_interval.proofs.ContainedQuotients.{quotient_contained}
use Rattle.pv_expr.specs.Systems.{IsOver}
use Rattle.pv_expr.specs.declared.constraint.Relation.{Relation}
use Rattle.pv_expr.specs.declared.constraint.Relation.TheVariants.{Eq, Le, Ge, Lt, Gt}
use Rattle.pv_expr.specs.declared.operators.UnaryOp.{UnaryOp}
use Rattle.pv_expr.specs.declared.operators.UnaryOp.TheVariants.{Neg, Abs, Pow}
use Rattle.pv_expr.specs.declared.operators.BinaryOp.{BinaryOp}
use Rattle.pv_expr.specs.declared.operators.BinaryOp.TheVariants.{Add, Sub, Mul, Div, Min, Max}
use Rattle.pv_expr.specs.Terms.{Term, constant, place, one, two}
use Rattle.pv_hc4.specs.Chain.{chain, at}
use Rattle.pv_hc4.specs.Forward.{constant_of, forward_of, unary_of, binary_of}
use Rattle.pv_hc4.specs.Members.{AreWithin}
use Rattle.pv_hc4.specs.Revise.{Sides}
use Rattle.pv_hc4.specs.Totality.{divides_well, total_of, same_number, ends_decide, decided, sure_of}
use Rattle.pv_hc4.proofs.Sureness.{left_true, right_true, decided_total}
use Rattle.pv_hc4.proofs.Comparing.{same_end}
use Rattle.pv_hc4.proofs.Within.{Fine, forward_fine}
use Rattle.std.proofs.lemmas.Bool.{not-true}

-- ---- forward intervals

at_within : (b c : List Bounds) (i : ℕ) → AreWithin b c → IsSubset (at b i) (at c i)
at_within [] [] i h = record { low = le_refl everything.lo; high = le_refl everything.hi }
at_within [] (y ∷ c) i h = absurd h
at_within (x ∷ b) [] i h = absurd h
at_within (x ∷ b) (y ∷ c) zero h = record { low = h.0; high = h.1 }
at_within (x ∷ b) (y ∷ c) (suc i) h = at_within b c i h.2

pub unary_contained : (u : UnaryOp) (x v : Bounds) → IsInterval x → IsSubset x v → IsSubset (unary_of u x) (unary_of u v)
unary_contained Neg x v i h = negated_contained x v h
unary_contained Abs x v i h = absolute_contained x v i h
unary_contained (Pow n) x v i h = power_contained x v n i h

pub binary_contained : (o : BinaryOp) (x y v w : Bounds) → IsInterval x → IsInterval y → IsSubset x v → IsSubset y w → IsSubsetSome (binary_of o x y) (binary_of o v w)
binary_contained Add x y v w i j h k = sum_contained x y v w h k
binary_contained Sub x y v w i j h k = difference_contained x y v w h k
binary_contained Mul x y v w i j h k = product_contained x y v w i j h k
binary_contained Div x y v w i j h k = quotient_contained x y v w i j h k
binary_contained Min x y v w i j h k = least_contained x y v w h k
binary_contained Max x y v w i j h k = greatest_contained x y v w h k

one_contained : (u : UnaryOp) (o p : Option Bounds) → Fine o → IsSubsetSome o p → IsSubsetSome (chain o (λ x. Some (unary_of u x))) (chain p (λ x. Some (unary_of u x)))
one_contained u None p f h = tt
one_contained u (Some x) None f h = absurd h
one_contained u (Some x) (Some v) f h = unary_contained u x v f h

two_contained : (k : BinaryOp) (o p q r : Option Bounds) → Fine o → Fine p → IsSubsetSome o q → IsSubsetSome p r
    → IsSubsetSome (chain o (λ x. chain p (λ y. binary_of k x y))) (chain q (λ x. chain r (λ y. binary_of k x y)))
two_contained k None p q r f g h i = tt
two_contained k (Some x) None q r f g h i = tt
two_contained k (Some x) (Some y) None r f g h i = absurd h
two_contained k (Some x) (Some y) (Some v) None f g h i = absurd i
two_contained k (Some x) (Some y) (Some v) (Some w) f g h i = binary_contained k x y v w f g h i

pub forward-contained : (n : ℕ) (t : Term) (b c : List Bounds) → IsOver n t → All IsInterval b → AreWithin b c → IsSubsetSome (forward_of b t) (forward_of c t)
forward-contained n (constant p q) b c o h k = record { low = le_refl (constant_of p q).lo; high = le_refl (constant_of p q).hi }
forward-contained n (place i) b c o h k = at_within b c i k
forward-contained n (one u t) b c o h k =
    one_contained u (forward_of b t) (forward_of c t) (forward_fine n b t o.1 h) (forward-contained n t b c o.1 h k)
forward-contained n (two d t u) b c o h k =
    two_contained d (forward_of b t) (forward_of b u) (forward_of c t) (forward_of c u) (forward_fine n b t o.0 h) (forward_fine n b u o.1 h)
    (forward-contained n t b c o.0 h k) (forward-contained n u b c o.1 h k)

-- ---- totality

abbrev IsThere : Option Bounds → Type 0
IsThere None = ⊥
IsThere (Some x) = Unit {0}

one_side : {P : Type 0} (s t : Bool) → (s && t) ≡ false → (s ≡ false → P) → (t ≡ false → P) → P
one_side true t e f g = g e
one_side false t e f g = f refl

is_there : (o : Option Bounds) (x : Bounds) → o ≡ Some x → IsThere o
is_there o x e = subst IsThere (sym e) tt

quotient_there : (x y : Bounds) → IsInterval y → has_nought y ≡ false → IsThere (quotient_of x y)
quotient_there x y i n =
    one_side (le y.lo nought) (le nought y.hi) n
    (λ a. is_there (quotient_of x y) (of_ends div_of x y) (quotient_positive x y i (lt_from nought y.lo a)))
    (λ a. is_there (quotient_of x y) (of_ends div_of x y) (quotient_negative x y i (lt_from y.hi nought a)))

binary_there : (k : BinaryOp) (x y : Bounds) → IsInterval y → divides_well k (Some y) ≡ true → IsThere (binary_of k x y)
binary_there Add x y i d = tt
binary_there Sub x y i d = tt
binary_there Mul x y i d = tt
binary_there Div x y i d = quotient_there x y i (not-true (has_nought y) d)
binary_there Min x y i d = tt
binary_there Max x y i d = tt

one_there : (u : UnaryOp) (o : Option Bounds) → IsThere o → IsThere (chain o (λ x. Some (unary_of u x)))
one_there u None h = absurd h
one_there u (Some x) h = tt

two_there : (k : BinaryOp) (o p : Option Bounds) → Fine p → IsThere o → IsThere p → divides_well k p ≡ true
    → IsThere (chain o (λ x. chain p (λ y. binary_of k x y)))
two_there k None p f h i d = absurd h
two_there k (Some x) None f h i d = absurd i
two_there k (Some x) (Some y) f h i d = binary_there k x y f d

-- a total term has an interval
total_there : (n : ℕ) (t : Term) (b : List Bounds) → IsOver n t → All IsInterval b → total_of b t ≡ true → IsThere (forward_of b t)
total_there n (constant p q) b o h e = tt
total_there n (place i) b o h e = tt
total_there n (one u t) b o h e = one_there u (forward_of b t) (total_there n t b o.1 h e)
total_there n (two k t u) b o h e =
    let rest = right_true (total_of b t) (total_of b u && divides_well k (forward_of b u)) e in
    two_there k (forward_of b t) (forward_of b u) (forward_fine n b u o.1 h)
    (total_there n t b o.0 h (left_true (total_of b t) (total_of b u && divides_well k (forward_of b u)) e))
    (total_there n u b o.1 h (left_true (total_of b u) (divides_well k (forward_of b u)) rest))
    (right_true (total_of b u) (divides_well k (forward_of b u)) rest)

-- a part of an interval without 0 has no 0
no_nought : (y w : Bounds) → IsSubset y w → not (has_nought w) ≡ true → not (has_nought y) ≡ true
no_nought y w k e = by_value (has_nought y) refl
  where
    both : (s t : Bool) → s ≡ true → t ≡ true → (s && t) ≡ true
    both s t h k = ap (λ r. r && t) h ∙ k

    by_value : (t : Bool) → has_nought y ≡ t → not t ≡ true
    by_value false f = refl
    by_value true f =
        let a = le_trans w.lo y.lo nought k.low (left_true (le y.lo nought) (le nought y.hi) f) in
        let b = le_trans nought y.hi w.hi (right_true (le y.lo nought) (le nought y.hi) f) k.high in
        let c = both (le w.lo nought) (le nought w.hi) a b in
        let d = not-true (has_nought w) e in absurd (cc)

divides_part : (k : BinaryOp) (o p : Option Bounds) → IsThere o → IsSubsetSome o p → divides_well k p ≡ true → divides_well k o ≡ true
divides_part Add o p h i e = refl
divides_part Sub o p h i e = refl
divides_part Mul o p h i e = refl
divides_part Div None p h i e = absurd h
divides_part Div (Some y) None h i e = absurd i
divides_part Div (Some y) (Some w) h i e = no_nought y w i e
divides_part Min o p h i e = refl
divides_part Max o p h i e = refl

all_three : (s t u : Bool) → s ≡ true → t ≡ true → u ≡ true → s && (t && u) ≡ true
all_three s t u h k l = ap (λ r. r && (t && u)) h ∙ ap (λ r. r && u) k ∙ l

pub total-inherited : (n : ℕ) (t : Term) (b c : List Bounds) → IsOver n t → All IsInterval b → AreWithin b c → total_of c t ≡ true → total_of b t ≡ true
total-inherited n (constant p q) b c o h k e = refl
total-inherited n (place i) b c o h k e = refl
total-inherited n (one u t) b c o h k e = total-inherited n t b c o.1 h k e
total-inherited n (two d t u) b c o h k e =
    let rest = right_true (total_of c t) (total_of c u && divides_well d (forward_of c u)) e in
    let first = total-inherited n t b c o.0 h k (left_true (total_of c t) (total_of c u && divides_well d (forward_of c u)) e) in
    let second = total-inherited n u b c o.1 h k (left_true (total_of c u) (divides_well d (forward_of c u)) rest) in
    all_three (total_of b t) (total_of b u) (divides_well d (forward_of b u)) first second
    (divides_part d (forward_of b u) (forward_of c u) (total_there n u b o.1 h second) (forward-contained n u b c o.1 h k)
    (right_true (total_of c u) (divides_well d (forward_of c u)) rest))

-- ---- decided ends

squeezed : (x v : Bounds) → IsInterval x → IsSubset x v → v.lo ≡ v.hi → (x.lo ≡ v.lo) × (x.hi ≡ v.hi)
squeezed x v i h e =
    let up : IsTrue (le x.lo v.lo) = subst (λ a. IsTrue (le x.lo a)) (sym e) (le_trans x.lo x.hi v.hi i.ordered h.high) in
    let down : IsTrue (le v.hi x.hi) = subst (λ a. IsTrue (le a x.hi)) e (le_trans v.lo x.lo x.hi h.low i.ordered) in
    (le_antisym x.lo v.lo up h.low, le_antisym x.hi v.hi h.high down)

lt_part : (a b c d : Extended) → IsTrue (le a c) → IsTrue (le d b) → lt c d ≡ true → lt a b ≡ true
lt_part a b c d h k e = lt_from a b (by_value (le b a) refl)
  where
    by_value : (t : Bool) → le b a ≡ t → le b a ≡ false
    by_value false f = f
    by_value true f =
        let g = le_trans d b c k (le_trans b a c f h) in
        let n = lt_not c d e in absurd (cc)

ends_part : (r : Relation) (x y v w : Bounds) → IsInterval x → IsInterval y → IsSubset x v → IsSubset y w → ends_decide r v w ≡ true → ends_decide r x y ≡ true
ends_part Eq x y v w i j h k e =
    let rest = right_true (same_number v.lo v.hi) (same_number w.lo w.hi && same_number v.lo w.lo) e in
    let f = squeezed x v i h (same_end v.lo v.hi (left_true (same_number v.lo v.hi) (same_number w.lo w.hi && same_number v.lo w.lo) e)) in
    let g = squeezed y w j k (same_end w.lo w.hi (left_true (same_number w.lo w.hi) (same_number v.lo w.lo) rest)) in
    ends_same x.lo x.hi y.lo y.hi v.lo v.hi w.lo w.hi f.0 f.1 g.0 g.1 e
  where
    ends_same : (a b c d p q r s : Extended) → a ≡ p → b ≡ q → c ≡ r → d ≡ s
        → (same_number p q && (same_number r s && same_number p r)) ≡ true → (same_number a b && (same_number c d && same_number a c)) ≡ true
    ends_same a b c d p q r s e f g h k =
        ap (λ z. same_number z b && (same_number c d && same_number z c)) e
        ∙ ap (λ z. same_number p z && (same_number c d && same_number p c)) f
        ∙ ap (λ z. same_number p q && (same_number z d && same_number p z)) g
        ∙ ap (λ z. same_number p q && (same_number r z && same_number p r)) h
        ∙ k
ends_part Le x y v w i j h k e = le_trans x.hi v.hi y.lo h.high (le_trans v.hi w.lo y.lo e k.low)
ends_part Lt x y v w i j h k e = lt_part x.hi y.lo v.hi w.lo h.high k.low e
ends_part Ge x y v w i j h k e = le_trans y.hi w.hi x.lo k.high (le_trans w.hi v.lo x.lo e h.low)
ends_part Gt x y v w i j h k e = lt_part y.hi x.lo w.hi v.lo k.high h.low e

-- ---- the sure test

decided_part : (r : Relation) (o p q s : Option Bounds) (t u : Bool) → Fine o → Fine p → IsThere o → IsThere p → IsSubsetSome o q → IsSubsetSome p s → t ≡ true
    → decided r (chain q (λ x. chain s (λ y. Some (record { left = x; right = y; total = u })))) ≡ true
    → decided r (chain o (λ x. chain p (λ y. Some (record { left = x; right = y; total = t })))) ≡ true
decided_part r None p q s t u f g a b h i k e = absurd a
decided_part r (Some x) None q s t u f g a b h i k e = absurd b
decided_part r (Some x) (Some y) None s t u f g a b h i k e = absurd h
decided_part r (Some x) (Some y) (Some v) None t u f g a b h i k e = absurd i
decided_part r (Some x) (Some y) (Some v) (Some w) t u f g a b h i k e =
    ap (λ z. z && ends_decide r x y) k ∙ ends_part r x y v w f g h i (right_true u (ends_decide r v w) e)

-- a constraint that is sure on a box is sure on each part of it
pub sure-inherited : (n : ℕ) (s : Sides) (b c : List Bounds) → IsOver n s.left → IsOver n s.right → All IsInterval b → AreWithin b c → sure_of s c ≡ true → sure_of s b ≡ true
sure-inherited n s b c o p h k e =
    let all = decided_total s.relation (forward_of c s.left) (forward_of c s.right) (total_of c s.left && total_of c s.right) e in
    let first = total-inherited n s.left b c o h k (left_true (total_of c s.left) (total_of c s.right) all) in
    let second = total-inherited n s.right b c p h k (right_true (total_of c s.left) (total_of c s.right) all) in
    decided_part s.relation (forward_of b s.left) (forward_of b s.right) (forward_of c s.left) (forward_of c s.right)
    (total_of b s.left && total_of b s.right) (total_of c s.left && total_of c s.right)
    (forward_fine n b s.left o h) (forward_fine n b s.right p h) (total_there n s.left b o h first) (total_there n s.right b p h second)
    (forward-contained n s.left b c o h k) (forward-contained n s.right b c p h k)
    (ap (λ z. z && total_of b s.right) first ∙ second) e
