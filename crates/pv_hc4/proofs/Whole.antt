-- A constraint that is sure on a box narrows nothing.
use Rattle.std.proofs.Common.{◌≡◌, ℕ, suc, ◌+◌, ◌%◌, List, [], ◌∷◌, ◌++◌, refl, ap, sym, ◌∙◌, subst, arith, eqb, eqb-true}
use Rattle.std.specs.Prelude.{IsTrue, Option, Some, None, Bool, true, false, ◌&&◌, cond, nat_eq, All, ℤ, pos, ◌*ℤ◌, ◌≤ℤ◌, ◌-ℤ◌, ◌+ℤ◌, if◌then◌else◌}
use Rattle.std.proofs.lemmas.Int.{ints}
use Rattle.pv_num.specs.Extended.{Extended, NegInf, Fin, PosInf}
use Rattle.pv_num.specs.Grid.{unit}
use Rattle.pv_num.specs.Order.{le, lt, lesser, greater}
use Rattle.pv_interval.specs.Bounds.{Bounds, IsInterval, between}
use Rattle.pv_interval.specs.Fractions.{Fraction}
use Rattle.pv_interval.specs.Points.{IsBelow, IsAbove, LiesIn}
use Rattle.pv_interval.specs.Tables.{nought, is_nought, holds, meet_of, hull_of, negated, difference_of, sum_of, product_of}
use Rattle.pv_interval.proofs.Cases.{meet_some}
use Rattle.pv_interval.proofs.Choices.{lesser_first, greater_first, greater_second, lesser_either, greater_either}
use Rattle.pv_interval.proofs.Ends.{le_refl, le_trans, le_antisym, le_of_false, lt_not}
use Rattle.pv_interval.proofs.Intervals.{member, in_units}
use Rattle.pv_interval.proofs.Multiples.{unit_some}
use Rattle.pv_interval.proofs.Orders.{cond_keeps}
use Rattle.pv_interval.proofs.Products.{times_pos, cancel_pos}
use Rattle.pv_interval.proofs.Values.{across, above_le, below_le}
use Rattle.pv_project.specs.Kept.{PairIn}
use Rattle.pv_project.specs.Projections.{chain as chain_there, narrowed, factor_of, least_side, greatest_side, hull_of_parts, both_signs, odd_low, odd_high, even_roots, back_add_of, back_sub_of, back_mul_of, back_div_of, back_min_of, back_max_of, back_neg_of, back_abs_of, back_pow_of}
use Rattle.pv_expr.specs.Systems.{IsOver}
use Rattle.pv_expr.specs.declared.constraint.Relation.{Relation}
use Rattle.pv_expr.specs.declared.constraint.Relation.TheVariants.{Eq, Le, Ge, Lt, Gt}
use Rattle.pv_expr.specs.declared.operators.UnaryOp.{UnaryOp}
use Rattle.pv_expr.specs.declared.operators.UnaryOp.TheVariants.{Neg, Abs, Pow}
use Rattle.pv_expr.specs.declared.operators.BinaryOp.{BinaryOp}
use Rattle.pv_expr.specs.declared.operators.BinaryOp.TheVariants.{Add, Sub, Mul, Div, Min, Max}
use Rattle.pv_expr.specs.Terms.{Term, constant, place, one, two}
use Rattle.pv_hc4.specs.Chain.{chain, at}
use Rattle.pv_hc4.specs.Forward.{forward_of, unary_of, binary_of}
use Rattle.pv_hc4.specs.Revise.{back_1, back_2, Target, joined, targets_of, place_of, places_from, Sides, ordered_of, swapped, related_of, both_targets, revised}
use Rattle.pv_hc4.specs.Totality.{divides_well, total_of, same_number, ends_decide, decided, sure_of}
use Rattle.pv_hc4.proofs.Comparing.{same_end}
use Rattle.pv_hc4.proofs.Keeping.{unary_back, binary_back}
use Rattle.pv_hc4.proofs.Lying.{InSome, unary_lies, binary_lies}
use Rattle.pv_hc4.specs.Graphs.{IsAnswer}
use Rattle.pv_hc4.specs.declared.revised.Revised.TheVariants.{Kept}
use Rattle.pv_hc4.proofs.Revising.{came, revised_from}
use Rattle.pv_hc4.proofs.Sureness.{left_true, right_true, binary_defined}
use Rattle.pv_hc4.proofs.Within.{Inside, meet_inside, Fine, FinePair, unary_back_fine, binary_back_fine, unary_fine, forward_fine}

-- ---- an interval that lies in another and has all its numbers is that one

unit_lies : (e : ℤ) (x : Bounds) → IsBelow x.lo e unit → IsAbove x.hi e unit → LiesIn (record { top = e; under = unit }) x
unit_lies e x h k = record { some = unit_some; low = h; high = k }

low_end : (a c : Extended) (x y : Bounds) → x.lo ≡ a → y.lo ≡ c → IsInterval x → IsInterval y → Inside x (Some y) → ((f : Fraction) → LiesIn f x → LiesIn f y) → IsTrue (le c a)
low_end a NegInf x y e f h k i all = below_all a
  where
    below_all : (a : Extended) → IsTrue (le NegInf a)
    below_all NegInf = refl
    below_all (Fin e) = refl
    below_all PosInf = refl
low_end NegInf (Fin c) x y e f h k i all =
    let less : ((c -ℤ pos 1) *ℤ pos unit) ≤ℤ (c *ℤ pos unit) = times_pos unit (c -ℤ pos 1) c (omega (arith, ints)) in
    let under : IsTrue (le (Fin c) x.hi) = le_trans (Fin c) y.hi x.hi (subst (λ w. IsTrue (le w y.hi)) f k.ordered) i.1 in
    let lies = all (record { top = c -ℤ pos 1; under = unit })
    (unit_lies (c -ℤ pos 1) x (subst (λ w. IsBelow w (c -ℤ pos 1) unit) (sym e) tt) (above_le (Fin c) x.hi (c -ℤ pos 1) unit under less)) in
    let low : IsBelow (Fin c) (c -ℤ pos 1) unit = subst (λ w. IsBelow w (c -ℤ pos 1) unit) f lies.low in
    let wrong = cancel_pos unit c (c -ℤ pos 1) unit_some low in
    absurd (omega (arith, ints))
low_end NegInf PosInf x y e f h k i all = absurd (k.lo_open f)
low_end (Fin a) (Fin c) x y e f h k i all = low_from a (Fin c) x y e f h all
  where
    low_from : (a : ℤ) (c : Extended) (x y : Bounds) → x.lo ≡ Fin a → y.lo ≡ c → IsInterval x → ((f : Fraction) → LiesIn f x → LiesIn f y) → IsTrue (le c (Fin a))
    low_from a c x y e f h all =
        let lies = all (record { top = a; under = unit })
        (unit_lies a x (subst (λ w. IsBelow w a unit) (sym e) (omega (arith, ints)))
        (above_le (Fin a) x.hi a unit (subst (λ w. IsTrue (le w x.hi)) e h.ordered) (omega (arith, ints)))) in
        across c (Fin a) a unit unit_some (subst (λ w. IsBelow w a unit) f lies.low) (omega (arith, ints))
low_end (Fin a) PosInf x y e f h k i all = absurd (k.lo_open f)
low_end PosInf c x y e f h k i all = absurd (h.lo_open e)

high_end : (a c : Extended) (x y : Bounds) → x.hi ≡ a → y.hi ≡ c → IsInterval x → IsInterval y → Inside x (Some y) → ((f : Fraction) → LiesIn f x → LiesIn f y) → IsTrue (le a c)
high_end a PosInf x y e f h k i all = above_all a
  where
    above_all : (a : Extended) → IsTrue (le a PosInf)
    above_all NegInf = refl
    above_all (Fin e) = refl
    above_all PosInf = refl
high_end PosInf (Fin c) x y e f h k i all =
    let more : (c *ℤ pos unit) ≤ℤ ((c +ℤ pos 1) *ℤ pos unit) = times_pos unit c (c +ℤ pos 1) (omega (arith, ints)) in
    let over : IsTrue (le x.lo (Fin c)) = le_trans x.lo y.lo (Fin c) i.0 (subst (λ w. IsTrue (le y.lo w)) f k.ordered) in
    let lies = all (record { top = c +ℤ pos 1; under = unit })
    (unit_lies (c +ℤ pos 1) x (below_le x.lo (Fin c) (c +ℤ pos 1) unit over more) (subst (λ w. IsAbove w (c +ℤ pos 1) unit) (sym e) tt)) in
    let high : IsAbove (Fin c) (c +ℤ pos 1) unit = subst (λ w. IsAbove w (c +ℤ pos 1) unit) f lies.high in
    let wrong = cancel_pos unit (c +ℤ pos 1) c unit_some high in
    absurd (omega (arith, ints))
high_end PosInf NegInf x y e f h k i all = absurd (k.hi_open f)
high_end (Fin a) (Fin c) x y e f h k i all = high_from a (Fin c) x y e f h all
  where
    high_from : (a : ℤ) (c : Extended) (x y : Bounds) → x.hi ≡ Fin a → y.hi ≡ c → IsInterval x → ((f : Fraction) → LiesIn f x → LiesIn f y) → IsTrue (le (Fin a) c)
    high_from a c x y e f h all =
        let lies = all (record { top = a; under = unit })
        (unit_lies a x (below_le x.lo (Fin a) a unit (subst (λ w. IsTrue (le x.lo w)) e h.ordered) (omega (arith, ints)))
        (subst (λ w. IsAbove w a unit) (sym e) (omega (arith, ints)))) in
        across (Fin a) c a unit unit_some (omega (arith, ints)) (subst (λ w. IsAbove w a unit) f lies.high)
high_end (Fin a) NegInf x y e f h k i all = absurd (k.hi_open f)
high_end NegInf c x y e f h k i all = absurd (h.hi_open e)

bounds_same : (x y : Bounds) → IsInterval x → IsInterval y → Inside x (Some y) → ((f : Fraction) → LiesIn f x → LiesIn f y) → y ≡ x
bounds_same x y h k i all =
    let low = le_antisym y.lo x.lo (low_end x.lo y.lo x y refl refl h k i all) i.0 in
    let high = le_antisym y.hi x.hi i.1 (high_end x.hi y.hi x y refl refl h k i all) in
    ap (λ w. between w y.hi) low ∙ ap (between x.lo) high

-- ---- each projection lies in its arguments

abbrev pub InsidePair : Bounds → Bounds → Option (Bounds × Bounds) → Type 0
InsidePair x y None = Unit {0}
InsidePair x y (Some p) = Inside x (Some p.0) × Inside y (Some p.1)

there_inside : (x : Bounds) (o : Option Bounds) (f : Bounds → Option Bounds) → ((q : Bounds) → Inside x (f q)) → Inside x (chain_there o f)
there_inside x None f h = tt
there_inside x (Some q) f h = h q

pair_inside : (x y w : Bounds) (o : Option Bounds) → Inside x (Some w) → Inside y o → InsidePair x y (chain_there o (λ v. Some (w, v)))
pair_inside x y w None h k = tt
pair_inside x y w (Some v) h k = (h, k)

narrowed_inside : (x y : Bounds) (o : Option Bounds) (f : Bounds → Option Bounds) → Inside x o → ((w : Bounds) → Inside y (f w)) → InsidePair x y (narrowed o f)
narrowed_inside x y None f h k = tt
narrowed_inside x y (Some w) f h k = pair_inside x y w (f w) h (k w)

factor_inside : (x z y : Bounds) → Inside x (chain_there (factor_of z y) (λ q. meet_of x q))
factor_inside x z y = there_inside x (factor_of z y) (λ q. meet_of x q) (meet_inside x)

add_inside : (z x y : Bounds) → InsidePair x y (back_add_of z x y)
unfolding back_add_of
add_inside z x y = narrowed_inside x y (meet_of x (difference_of z y)) (λ w. meet_of y (difference_of z w)) (meet_inside x (difference_of z y)) (λ w. meet_inside y (difference_of z w))

sub_inside : (z x y : Bounds) → InsidePair x y (back_sub_of z x y)
unfolding back_sub_of
sub_inside z x y = narrowed_inside x y (meet_of x (sum_of z y)) (λ w. meet_of y (difference_of w z)) (meet_inside x (sum_of z y)) (λ w. meet_inside y (difference_of w z))

mul_inside : (z x y : Bounds) → InsidePair x y (back_mul_of z x y)
unfolding back_mul_of
mul_inside z x y = narrowed_inside x y (chain_there (factor_of z y) (λ q. meet_of x q)) (λ w. chain_there (factor_of z w) (λ q. meet_of y q))
    (factor_inside x z y) (λ w. factor_inside y z w)

div_inside : (z x y : Bounds) → InsidePair x y (back_div_of z x y)
unfolding back_div_of
div_inside z x y = cond_keeps (InsidePair x y) (is_nought y) None (narrowed (meet_of x (product_of z y)) (λ w. chain_there (factor_of w z) (λ q. meet_of y q)))
    (λ t. tt)
    (λ t. narrowed_inside x y (meet_of x (product_of z y)) (λ w. chain_there (factor_of w z) (λ q. meet_of y q)) (meet_inside x (product_of z y)) (λ w. factor_inside y w z))

min_inside : (z x y : Bounds) → InsidePair x y (back_min_of z x y)
unfolding back_min_of
min_inside z x y = narrowed_inside x y (meet_of x (least_side z y)) (λ w. meet_of y (least_side z w)) (meet_inside x (least_side z y)) (λ w. meet_inside y (least_side z w))

max_inside : (z x y : Bounds) → InsidePair x y (back_max_of z x y)
unfolding back_max_of
max_inside z x y = narrowed_inside x y (meet_of x (greatest_side z y)) (λ w. meet_of y (greatest_side z w)) (meet_inside x (greatest_side z y)) (λ w. meet_inside y (greatest_side z w))

hull_inside : (x a c : Bounds) → Inside x (Some a) → Inside x (Some c) → Inside x (Some (hull_of a c))
unfolding hull_of
hull_inside x a c h k = (lesser_either (λ e. IsTrue (le x.lo e)) a.lo c.lo h.0 k.0, greater_either (λ e. IsTrue (le e x.hi)) a.hi c.hi h.1 k.1)

parts_inside : (x : Bounds) (a c : Option Bounds) → Inside x a → Inside x c → Inside x (hull_of_parts a c)
parts_inside x None None h k = tt
parts_inside x None (Some c) h k = k
parts_inside x (Some a) None h k = h
parts_inside x (Some a) (Some c) h k = hull_inside x a c h k

signs_inside : (x w : Bounds) → Inside x (both_signs x w)
signs_inside x w = parts_inside x (meet_of x w) (meet_of x (negated w)) (meet_inside x w) (meet_inside x (negated w))

neg_inside : (z x : Bounds) → Inside x (back_neg_of z x)
unfolding back_neg_of
neg_inside z x = meet_inside x (negated z)

abs_inside : (z x : Bounds) → Inside x (back_abs_of z x)
unfolding back_abs_of
abs_inside z x = there_inside x (meet_of z (between nought PosInf)) (λ w. both_signs x w) (signs_inside x)

pow_inside : (z x : Bounds) (n : ℕ) → Inside x (back_pow_of z x n)
unfolding back_pow_of
pow_inside z x n =
    let even = chain_there (meet_of z (between nought PosInf)) (λ w. both_signs x (even_roots w n)) in
    let odd = meet_of x (between (odd_low z.lo n) (odd_high z.hi n)) in
    cond_keeps (Inside x) (eqb n 0) (if holds z (Fin (pos unit)) then Some x else None) (if eqb (n % 2) 0 then even else odd)
    (λ t. cond_keeps (Inside x) (holds z (Fin (pos unit))) (Some x) None (λ t. (le_refl x.lo, le_refl x.hi)) (λ t. tt))
    (λ t. cond_keeps (Inside x) (eqb (n % 2) 0) even odd
    (λ t. there_inside x (meet_of z (between nought PosInf)) (λ w. both_signs x (even_roots w n)) (λ w. signs_inside x (even_roots w n)))
    (λ t. meet_inside x (between (odd_low z.lo n) (odd_high z.hi n))))

unary_inside : (u : UnaryOp) (z x : Bounds) → Inside x (back_1 u z x)
unary_inside Neg z x = neg_inside z x
unary_inside Abs z x = abs_inside z x
unary_inside (Pow n) z x = pow_inside z x n

binary_inside : (k : BinaryOp) (z x y : Bounds) → InsidePair x y (back_2 k z x y)
binary_inside Add z x y = add_inside z x y
binary_inside Sub z x y = sub_inside z x y
binary_inside Mul z x y = mul_inside z x y
binary_inside Div z x y = div_inside z x y
binary_inside Min z x y = min_inside z x y
binary_inside Max z x y = max_inside z x y

-- ---- from its own forward interval an operation narrows nothing

single_whole : (x : Bounds) (o : Option Bounds) → IsInterval x → Fine o → Inside x o → ((f : Fraction) → LiesIn f x → InSome f o) → o ≡ Some x
single_whole x None h k i all = let m = member x h in absurd (all (in_units m.number) m.lies)
single_whole x (Some y) h k i all = ap Some (bounds_same x y h k i all)

pair_whole : (x y : Bounds) (o : Option (Bounds × Bounds)) → IsInterval x → IsInterval y → FinePair o → InsidePair x y o → ((f g : Fraction) → LiesIn f x → LiesIn g y → PairIn f g o) → o ≡ Some (x, y)
pair_whole x y None h k p i all = let m = member x h in let n = member y k in absurd (all (in_units m.number) (in_units n.number) m.lies n.lies)
pair_whole x y (Some r) h k p i all =
    let m = member x h in
    let n = member y k in
    ap (λ w. Some (w, r.1)) (bounds_same x r.0 h p.0 i.0 (λ f l. (all f (in_units n.number) l n.lies).0))
    ∙ ap (λ w. Some (x, w)) (bounds_same y r.1 k p.1 i.1 (λ g l. (all (in_units m.number) g m.lies l).1))

unary_whole : (u : UnaryOp) (x : Bounds) → IsInterval x → back_1 u (unary_of u x) x ≡ Some x
unary_whole u x h =
    single_whole x (back_1 u (unary_of u x) x) h (unary_back_fine u (unary_of u x) x (unary_fine u x h) h) (unary_inside u (unary_of u x) x)
    (λ f l. unary_back u f (unary_of u x) x l (unary_lies u f x l))

binary_whole : (k : BinaryOp) (x y z : Bounds) → IsInterval x → IsInterval y → IsInterval z → divides_well k (Some y) ≡ true → binary_of k x y ≡ Some z → back_2 k z x y ≡ Some (x, y)
binary_whole k x y z h i j d e =
    pair_whole x y (back_2 k z x y) h i (binary_back_fine k z x y j h i) (binary_inside k z x y)
    (λ f g l m. let v = binary_defined k f g (Some y) m d in
    binary_back k f g v.v z x y v.is l m (subst (InSome v.v) e (binary_lies k f g v.v x y v.is l m)))

-- ---- the targets of a total term are its places

abbrev pub AllOwn : List Bounds → List Target → Type 0
AllOwn b [] = Unit {0}
AllOwn b (s ∷ ts) = (s.within ≡ at b s.var) × AllOwn b ts

abbrev pub OwnTargets : List Bounds → Option (List Target) → Type 0
OwnTargets b None = ⊥
OwnTargets b (Some ts) = AllOwn b ts

AllOwn-append : (b : List Bounds) (xs ys : List Target) → AllOwn b xs → AllOwn b ys → AllOwn b (xs ++ ys)
AllOwn-append b [] ys h k = k
AllOwn-append b (s ∷ xs) ys h k = (h.0, AllOwn-append b xs ys h.1 k)

joined_own : (b : List Bounds) (o p : Option (List Target)) → OwnTargets b o → OwnTargets b p → OwnTargets b (joined o p)
joined_own b None p h k = absurd h
joined_own b (Some xs) None h k = absurd k
joined_own b (Some xs) (Some ys) h k = AllOwn-append b xs ys h k

same_bounds : (x y : Bounds) → Some x ≡ Some y → x ≡ y
same_bounds x y e = cc

fine_is : (o : Option Bounds) (x : Bounds) → o ≡ Some x → Fine o → IsInterval x
fine_is o x e h = subst Fine e h

pub targets_whole : (n : ℕ) (b : List Bounds) (t : Term) (z : Bounds) → IsOver n t → All IsInterval b → total_of b t ≡ true → forward_of b t ≡ Some z → OwnTargets b (targets_of b t z)
targets_whole n b (constant p q) z o h d e = tt
targets_whole n b (place i) z o h d e = (sym (same_bounds (at b i) z e), tt)
targets_whole n b (one u t) z o h d e =
    let c = came (forward_of b t) (λ x. Some (unary_of u x)) z e in
    let x_fine = fine_is (forward_of b t) c.from c.first (forward_fine n b t o.1 h) in
    let z_is = same_bounds (unary_of u c.from) z c.then_is in
    subst (OwnTargets b)
    (sym (ap (λ o. chain o (λ x. chain (back_1 u z x) (λ y. targets_of b t y))) c.first
    ∙ ap (λ o. chain o (λ y. targets_of b t y)) (ap (λ w. back_1 u w c.from) (sym z_is) ∙ unary_whole u c.from x_fine)))
    (targets_whole n b t c.from o.1 h d c.first)
targets_whole n b (two k t u) z o h d e =
    let c = came (forward_of b t) (λ x. chain (forward_of b u) (λ y. binary_of k x y)) z e in
    let r = came (forward_of b u) (λ y. binary_of k c.from y) z c.then_is in
    let x_fine = fine_is (forward_of b t) c.from c.first (forward_fine n b t o.0 h) in
    let y_fine = fine_is (forward_of b u) r.from r.first (forward_fine n b u o.1 h) in
    let z_fine = fine_is (forward_of b (two k t u)) z e (forward_fine n b (two k t u) o h) in
    let first = left_true (total_of b t) (total_of b u && divides_well k (forward_of b u)) d in
    let rest = right_true (total_of b t) (total_of b u && divides_well k (forward_of b u)) d in
    let second = left_true (total_of b u) (divides_well k (forward_of b u)) rest in
    let well = subst (λ o. divides_well k o ≡ true) r.first (right_true (total_of b u) (divides_well k (forward_of b u)) rest) in
    subst (OwnTargets b)
    (sym (ap (λ o. chain o (λ x. chain (forward_of b u) (λ y. chain (back_2 k z x y) (λ p. joined (targets_of b t p.0) (targets_of b u p.1))))) c.first
    ∙ ap (λ o. chain o (λ y. chain (back_2 k z c.from y) (λ p. joined (targets_of b t p.0) (targets_of b u p.1)))) r.first
    ∙ ap (λ o. chain o (λ p. joined (targets_of b t p.0) (targets_of b u p.1))) (binary_whole k c.from r.from z x_fine y_fine z_fine well r.then_is)))
    (joined_own b (targets_of b t c.from) (targets_of b u r.from) (targets_whole n b t c.from o.0 h first c.first) (targets_whole n b u r.from o.1 h second r.first))

-- ---- decided ends stay

meet_self : (x : Bounds) → IsInterval x → meet_of x x ≡ Some x
meet_self x h =
    let low = greater_second x.lo x.lo (le_refl x.lo) in
    let high = lesser_first x.hi x.hi (le_refl x.hi) in
    meet_some x x (ap (λ w. le w (lesser x.hi x.hi)) low ∙ ap (le x.lo) high ∙ h.ordered)
    ∙ ap (λ w. Some (between w (lesser x.hi x.hi))) low ∙ ap (λ w. Some (between x.lo w)) high

lt_le : (a c : Extended) → lt a c ≡ true → IsTrue (le a c)
lt_le a c e = le_of_false c a (lt_not a c e)

not_lt : (a c : Extended) → IsTrue (le c a) → lt a c ≡ false
not_lt a c h = by_value (lt a c) refl
  where
    by_value : (t : Bool) → lt a c ≡ t → lt a c ≡ false
    by_value true e = let f = lt_not a c e in absurd (cc)
    by_value false e = e

ordered_stays : (l r : Bounds) → IsInterval l → IsInterval r → IsTrue (le l.hi r.lo) → ordered_of l r ≡ (l, r)
ordered_stays l r h k e =
    ap (λ w. (between l.lo w, between (greater r.lo l.lo) r.hi)) (lesser_first l.hi r.hi (le_trans l.hi r.lo r.hi e k.ordered))
    ∙ ap (λ w. (l, between w r.hi)) (greater_first r.lo l.lo (le_trans l.lo l.hi r.lo h.ordered e))

loose_stays : (l r : Bounds) → IsInterval l → IsInterval r → IsTrue (le l.hi r.lo) → lt r.hi l.lo ≡ false
loose_stays l r h k e = not_lt r.hi l.lo (le_trans l.lo l.hi r.hi h.ordered (le_trans l.hi r.lo r.hi e k.ordered))

strict_stays : (l r : Bounds) → IsInterval l → IsInterval r → lt l.hi r.lo ≡ true → le r.hi l.lo ≡ false
strict_stays l r h k e = by_value (le r.hi l.lo) refl
  where
    by_value : (t : Bool) → le r.hi l.lo ≡ t → le r.hi l.lo ≡ false
    by_value true f =
        let g = lt_not l.hi r.lo e in
        let i = le_trans r.lo r.hi l.hi k.ordered (le_trans r.hi l.lo l.hi f h.ordered) in
        absurd (cc)
    by_value false f = f

if_false : {A : Type 0} (t : Bool) (a c : A) → t ≡ false → cond t a c ≡ c
if_false t a c e = ap (λ w. cond w a c) e

related_whole : (c : Relation) (l r : Bounds) → IsInterval l → IsInterval r → ends_decide c l r ≡ true → related_of c l r ≡ Some (l, r)
related_whole Eq l r h k e =
    let rest = right_true (same_number l.lo l.hi) (same_number r.lo r.hi && same_number l.lo r.lo) e in
    let f = same_end l.lo l.hi (left_true (same_number l.lo l.hi) (same_number r.lo r.hi && same_number l.lo r.lo) e) in
    let g = same_end r.lo r.hi (left_true (same_number r.lo r.hi) (same_number l.lo r.lo) rest) in
    let i = same_end l.lo r.lo (right_true (same_number r.lo r.hi) (same_number l.lo r.lo) rest) in
    let same : r ≡ l = ap (λ w. between w r.hi) (sym i) ∙ ap (between l.lo) (sym g ∙ sym i ∙ f) in
    ap (λ w. chain (meet_of l w) (λ m. Some (m, m))) same
    ∙ ap (λ o. chain o (λ m. Some (m, m))) (meet_self l h)
    ∙ ap (λ w. Some (l, w)) (sym same)
related_whole Le l r h k e = if_false (lt r.hi l.lo) None (Some (ordered_of l r)) (loose_stays l r h k e) ∙ ap Some (ordered_stays l r h k e)
related_whole Lt l r h k e = if_false (le r.hi l.lo) None (Some (ordered_of l r)) (strict_stays l r h k e) ∙ ap Some (ordered_stays l r h k (lt_le l.hi r.lo e))
related_whole Ge l r h k e = if_false (lt l.hi r.lo) None (Some (swapped (ordered_of r l))) (loose_stays r l k h e)
    ∙ ap (λ p. Some (swapped p)) (ordered_stays r l k h e)
related_whole Gt l r h k e = if_false (le l.hi r.lo) None (Some (swapped (ordered_of r l))) (strict_stays r l k h e)
    ∙ ap (λ p. Some (swapped p)) (ordered_stays r l k h (lt_le r.hi l.lo e))

-- ---- the places stay

place_own : (b : List Bounds) (i : ℕ) (ts : List Target) (x : Bounds) → IsInterval x → at b i ≡ x → AllOwn b ts → place_of i ts x ≡ Some x
place_own b i [] x h e a = refl
place_own b i (s ∷ ts) x h e a =
    cond_keeps (λ o. o ≡ Some x) (nat_eq s.var i) (chain (meet_of x s.within) (place_of i ts)) (place_of i ts x)
    (λ t. let w_is : s.within ≡ x = a.0 ∙ ap (at b) (eqb-true s.var i t) ∙ e in
    ap (λ w. chain (meet_of x w) (place_of i ts)) w_is ∙ ap (λ o. chain o (place_of i ts)) (meet_self x h) ∙ place_own b i ts x h e a.1)
    (λ t. place_own b i ts x h e a.1)

places_own : (whole : List Bounds) (i : ℕ) (ts : List Target) (b : List Bounds) → ((j m : ℕ) → m ≡ i + j → at whole m ≡ at b j) → All IsInterval b → AllOwn whole ts → places_from i ts b ≡ Some b
places_own whole i ts [] e h a = refl
places_own whole i ts (x ∷ b) e h a =
    let here : i ≡ i + 0 = omega arith in
    ap (λ o. chain o (λ y. chain (places_from (i + 1) ts b) (λ c. Some (y ∷ c)))) (place_own whole i ts x (h 0 x (omega arith)) (e 0 i here) a)
    ∙ ap (λ o. chain o (λ c. Some (x ∷ c)))
    (places_own whole (i + 1) ts b (λ j m q. let r : m ≡ i + suc j = omega arith in e (suc j) m r) (λ k d l. h (suc k) d (omega arith)) a)

own_then : (b : List Bounds) (o : Option (List Target)) → All IsInterval b → OwnTargets b o → chain o (λ ts. places_from 0 ts b) ≡ Some b
own_then b None h a = absurd a
own_then b (Some ts) h a = places_own b 0 ts b (λ j m e. let r : m ≡ j = omega arith in ap (at b) r) h a

-- ---- the whole

record IsSure (c : Relation) (o p : Option Bounds) (t : Bool) : Type 0 where
  pub left : Bounds
  pub right : Bounds
  pub left_is : o ≡ Some left
  pub right_is : p ≡ Some right
  pub total : t ≡ true
  pub decides : ends_decide c left right ≡ true

is_sure : (c : Relation) (o p : Option Bounds) (t : Bool) → decided c (chain o (λ l. chain p (λ r. Some (record { left = l; right = r; total = t })))) ≡ true → IsSure c o p t
is_sure c None p t e = absurd (cc)
is_sure c (Some l) None t e = absurd (cc)
is_sure c (Some l) (Some r) t e = record {
  left = l;
  right = r;
  left_is = refl;
  right_is = refl;
  total = left_true t (ends_decide c l r) e;
  decides = right_true t (ends_decide c l r) e;
}

-- a revision by decided ends of total sides leaves the box as it is
pub decided-keeps : (s : Sides) (n : ℕ) (b : List Bounds) (l r : Bounds) → IsOver n s.left → IsOver n s.right → All IsInterval b
    → forward_of b s.left ≡ Some l → forward_of b s.right ≡ Some r → total_of b s.left ≡ true → total_of b s.right ≡ true
    → ends_decide s.relation l r ≡ true → revised s b ≡ Some b
decided-keeps s n b l r o p h e f d g i =
    let l_fine = fine_is (forward_of b s.left) l e (forward_fine n b s.left o h) in
    let r_fine = fine_is (forward_of b s.right) r f (forward_fine n b s.right p h) in
    revised_from s b l r (Some (l, r)) e f (sym (related_whole s.relation l r l_fine r_fine i))
    ∙ own_then b (both_targets b s (l, r)) h
    (joined_own b (targets_of b s.left l) (targets_of b s.right r) (targets_whole n b s.left l o h d e) (targets_whole n b s.right r p h g f))

-- a constraint that is sure on a box leaves it as it is
pub sure-keeps : (s : Sides) (n : ℕ) (b : List Bounds) → IsOver n s.left → IsOver n s.right → All IsInterval b → IsTrue (sure_of s b) → revised s b ≡ Some b
sure-keeps s n b o p h e =
    let q = is_sure s.relation (forward_of b s.left) (forward_of b s.right) (total_of b s.left && total_of b s.right) e in
    decided-keeps s n b q.left q.right o p h q.left_is q.right_is
    (left_true (total_of b s.left) (total_of b s.right) q.total) (right_true (total_of b s.left) (total_of b s.right) q.total) q.decides

pub kept_whole : (o : Option (List Bounds)) (b : List Bounds) → o ≡ Some b → IsAnswer o Kept b b
kept_whole o b e = subst (λ p. IsAnswer p Kept b b) (sym e) (refl, refl)
