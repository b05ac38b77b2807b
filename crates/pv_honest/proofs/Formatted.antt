-- Each stage of the open search box is in numbers of the format.
use Rattle.std.proofs.Common.{◌≡◌, ℕ, zero, suc, ◌+◌, ◌-◌, ◌%◌, Bool, true, false, List, [], ◌∷◌, ◌++◌, map, length, refl, sym, subst, ℤ, drop}
use Rattle.std.specs.Prelude.{Option, Some, None, nat_eq, ◌||◌, ◌&&◌, option_and_then}
use Rattle.pv_num.specs.Extended.{Extended, NegInf, Fin, PosInf}
use Rattle.pv_num.specs.Order.{le, lt}
use Rattle.pv_num.specs.Parts.{IsNumber}
use Rattle.pv_num.specs.Arithmetic as number
use Rattle.pv_num.specs.declared.num.End.{End}
use Rattle.pv_num.specs.declared.num.End.TheVariants.{Down, Up}
use Rattle.pv_interval.specs.Bounds.{Bounds, between, interval_from}
use Rattle.pv_interval.specs.Tables.{meet_of, nought, width_of}
use Rattle.pv_box.specs.Boxes.{hull_boxes, lower_half, upper_half}
use Rattle.pv_box.specs.QHull.{column, is_in_enough, lower_of, upper_of, least_end, greatest_end, place_hull_of, q_hull_of}
use Rattle.pv_box.specs.QHull as hulls
use Rattle.pv_box.specs.Choice.{strictly_between, cut_below, cut_above, cut_between, cut_of, wider, widest_from, choice_of, at_or_later, first_from, or_else, choose_of, is_small_of}
use Rattle.pv_box.specs.declared.choice.Bisector.{Bisector}
use Rattle.pv_box.specs.declared.choice.Bisector.TheVariants.{Largest, Round}
use Rattle.pv_expr.specs.declared.operators.UnaryOp.{UnaryOp}
use Rattle.pv_expr.specs.declared.operators.UnaryOp.TheVariants.{Neg, Abs, Pow}
use Rattle.pv_expr.specs.declared.operators.BinaryOp.{BinaryOp}
use Rattle.pv_expr.specs.declared.operators.BinaryOp.TheVariants.{Add, Sub, Mul, Div, Min, Max}
use Rattle.pv_expr.specs.Terms.{Term, constant, place, one, two}
use Rattle.pv_expr.specs.Searches.{search_bounds}
use Rattle.pv_expr.specs.Searches as search_ends
use Rattle.pv_expr.specs.declared.domain.Bound.{Bound}
use Rattle.pv_expr.specs.declared.domain.Bound.TheVariants.{MinusOo, Value, PlusOo}
use Rattle.pv_expr.specs.declared.domain.Domain.{Domain}
use Rattle.pv_expr.specs.declared.constraint.Relation.{Relation}
use Rattle.pv_expr.specs.declared.constraint.Relation.TheVariants.{Eq, Le, Ge, Lt, Gt}
use Rattle.pv_hc4.specs.Chain.{chain, at}
use Rattle.pv_hc4.specs.Forward.{unary_of, binary_of, forward_of}
use Rattle.pv_hc4.specs.Revise.{back_1, back_2, Target, joined, targets_of, place_of, places_from, Sides, ordered_of, swapped, related_of, both_targets, revised}
use Rattle.pv_ctc.specs.Contracting.{sides_in, side_at, Effect, in_order, turns_of, with_result, results, hull_with, hull_all, q_hull_all, all_revised, contract_of, effects}
use Rattle.pv_ctc.specs.Plans.{Plan, Plans, hc4, compose, union, qinter, fix, prop, no_plan, plan_and, plan_of}
use Rattle.pv_ctc.specs.Sureness as sure
use Rattle.pv_settle.specs.Rules.{SettlerParts}
use Rattle.pv_settle.specs.Settling as natural
use Rattle.pv_slope.specs.Settling as centered
use Rattle.pv_slope.specs.Programs as slopes
use Rattle.pv_slope.specs.Methods.{Method, settle_as, settle_by}
use Rattle.pv_slope.specs.declared.form.Form.{Form}
use Rattle.pv_slope.specs.declared.form.Form.TheVariants.{Plain, Centered}
use Rattle.pv_tree.specs.Trees.{Tree, leaf, removed, inner, small, cut, outcome_at}
use Rattle.pv_tree.specs.Stages.{Rule, full, full_of, IsStage}
use Rattle.pv_tree.specs.declared.outcome.Outcome.{Outcome}
use Rattle.pv_tree.specs.declared.outcome.Outcome.TheVariants.{Removed, Inner, Small, Cut}
use Rattle.pv_tree.proofs.StageLaws.{rest, grown, full-is}
use Rattle.pv_file.specs.Readings.{HasNumberEnds, HaveNumberEnds, HasNumbers, OutcomeHasNumbers}
use Rattle.pv_rule.specs.Systems.{search_box}
use Rattle.pv_honest.proofs.Formats.{Leaves, HaveBoth, either, chain_is, nought_is, rounded_is, everything_is, lesser_is, greater_is, sum_is, difference_is, product_is, negated_is, absolute_is, least_is, greatest_is, power_is, quotient_is, hull_is, meet_is, back_add_is, back_sub_is, back_mul_is, back_div_is, back_min_is, back_max_is, back_neg_is, back_abs_is, back_pow_is}

-- ---- Revisions

at_is : (b : List Bounds) (i : ℕ) → HaveNumberEnds b → HasNumberEnds (at b i)
at_is [] i h = everything_is
at_is (x ∷ b) zero h = h.0
at_is (x ∷ b) (suc i) h = at_is b i h.1

unary_is : (u : UnaryOp) (x : Bounds) → HasNumberEnds x → HasNumberEnds (unary_of u x)
unary_is Neg x h = negated_is x h
unary_is Abs x h = absolute_is x h
unary_is (Pow n) x h = power_is x n h

binary_is : (o : BinaryOp) (x y : Bounds) → HasNumberEnds x → HasNumberEnds y → Leaves HasNumberEnds (binary_of o x y)
binary_is Add x y h k = sum_is x y
binary_is Sub x y h k = difference_is x y
binary_is Mul x y h k = product_is x y
binary_is Div x y h k = quotient_is x y
binary_is Min x y h k = least_is x y h k
binary_is Max x y h k = greatest_is x y h k

forward_is : (b : List Bounds) (t : Term) → HaveNumberEnds b → Leaves HasNumberEnds (forward_of b t)
forward_is b (constant p q) h = record { lo = rounded_is Down _ q; hi = rounded_is Up _ q }
forward_is b (place i) h = at_is b i h
forward_is b (one u t) h = chain_is HasNumberEnds HasNumberEnds (forward_of b t) (λ x. Some (unary_of u x)) (forward_is b t h) (λ x n. unary_is u x n)
forward_is b (two o t u) h =
    chain_is HasNumberEnds HasNumberEnds (forward_of b t) (λ x. chain (forward_of b u) (λ y. binary_of o x y)) (forward_is b t h)
    (λ x n. chain_is HasNumberEnds HasNumberEnds (forward_of b u) (λ y. binary_of o x y) (forward_is b u h) (λ y m. binary_is o x y n m))

back_1_is : (u : UnaryOp) (z x : Bounds) → HasNumberEnds z → HasNumberEnds x → Leaves HasNumberEnds (back_1 u z x)
back_1_is Neg z x g h = back_neg_is z x g h
back_1_is Abs z x g h = back_abs_is z x g h
back_1_is (Pow n) z x g h = back_pow_is z x n g h

back_2_is : (o : BinaryOp) (z x y : Bounds) → HasNumberEnds z → HasNumberEnds x → HasNumberEnds y → Leaves HaveBoth (back_2 o z x y)
back_2_is Add z x y g h k = back_add_is z x y h k
back_2_is Sub z x y g h k = back_sub_is z x y h k
back_2_is Mul z x y g h k = back_mul_is z x y h k
back_2_is Div z x y g h k = back_div_is z x y h k
back_2_is Min z x y g h k = back_min_is z x y g h k
back_2_is Max z x y g h k = back_max_is z x y g h k

abbrev AreTargets : List Target → Type 0
AreTargets [] = Unit {0}
AreTargets (s ∷ ts) = HasNumberEnds s.within × AreTargets ts

both_are : (ts us : List Target) → AreTargets ts → AreTargets us → AreTargets (ts ++ us)
both_are [] us h k = k
both_are (s ∷ ts) us h k = (h.0, both_are ts us h.1 k)

joined_are : (o p : Option (List Target)) → Leaves AreTargets o → Leaves AreTargets p → Leaves AreTargets (joined o p)
joined_are o p h k =
    chain_is AreTargets AreTargets o (λ ts. chain p (λ us. Some (ts ++ us))) h
    (λ ts n. chain_is AreTargets AreTargets p (λ us. Some (ts ++ us)) k (λ us m. both_are ts us n m))

targets_are : (b : List Bounds) (t : Term) (z : Bounds) → HaveNumberEnds b → HasNumberEnds z → Leaves AreTargets (targets_of b t z)
targets_are b (constant p q) z h g = tt
targets_are b (place i) z h g = (g, tt)
targets_are b (one u t) z h g =
    chain_is HasNumberEnds AreTargets (forward_of b t) (λ x. chain (back_1 u z x) (λ y. targets_of b t y)) (forward_is b t h)
    (λ x n. chain_is HasNumberEnds AreTargets (back_1 u z x) (λ y. targets_of b t y) (back_1_is u z x g n) (λ y m. targets_are b t y h m))
targets_are b (two o t u) z h g =
    chain_is HasNumberEnds AreTargets (forward_of b t)
    (λ x. chain (forward_of b u) (λ y. chain (back_2 o z x y) (λ p. joined (targets_of b t p.0) (targets_of b u p.1)))) (forward_is b t h)
    (λ x n. chain_is HasNumberEnds AreTargets (forward_of b u)
    (λ y. chain (back_2 o z x y) (λ p. joined (targets_of b t p.0) (targets_of b u p.1))) (forward_is b u h)
    (λ y m. chain_is HaveBoth AreTargets (back_2 o z x y) (λ p. joined (targets_of b t p.0) (targets_of b u p.1)) (back_2_is o z x y g n m)
    (λ p k. joined_are (targets_of b t p.0) (targets_of b u p.1) (targets_are b t p.0 h k.0) (targets_are b u p.1 h k.1))))

place_is : (i : ℕ) (ts : List Target) (x : Bounds) → AreTargets ts → HasNumberEnds x → Leaves HasNumberEnds (place_of i ts x)
place_is i [] x h k = k
place_is i (s ∷ ts) x h k =
    either (Leaves HasNumberEnds) (nat_eq s.var i) (chain (meet_of x s.within) (place_of i ts)) (place_of i ts x)
    (chain_is HasNumberEnds HasNumberEnds (meet_of x s.within) (place_of i ts) (meet_is x s.within k h.0) (λ y n. place_is i ts y h.1 n)) (place_is i ts x h.1 k)

places_are : (i : ℕ) (ts : List Target) (b : List Bounds) → AreTargets ts → HaveNumberEnds b → Leaves HaveNumberEnds (places_from i ts b)
places_are i ts [] h k = tt
places_are i ts (x ∷ b) h k =
    chain_is HasNumberEnds HaveNumberEnds (place_of i ts x) (λ y. chain (places_from (i + 1) ts b) (λ c. Some (y ∷ c))) (place_is i ts x h k.0)
    (λ y n. chain_is HaveNumberEnds HaveNumberEnds (places_from (i + 1) ts b) (λ c. Some (y ∷ c)) (places_are (i + 1) ts b h k.1) (λ c m. (n, m)))

ordered_are : (l r : Bounds) → HasNumberEnds l → HasNumberEnds r → HaveBoth (ordered_of l r)
ordered_are l r h k = (record { lo = h.lo; hi = lesser_is l.hi r.hi h.hi k.hi }, record { lo = greater_is r.lo l.lo k.lo h.lo; hi = k.hi })

swapped_are : (p : Bounds × Bounds) → HaveBoth p → HaveBoth (swapped p)
swapped_are p h = (h.1, h.0)

related_are : (r : Relation) (x y : Bounds) → HasNumberEnds x → HasNumberEnds y → Leaves HaveBoth (related_of r x y)
related_are Eq x y h k = chain_is HasNumberEnds HaveBoth (meet_of x y) (λ m. Some (m, m)) (meet_is x y h k) (λ m n. (n, n))
related_are Le x y h k = either (Leaves HaveBoth) (lt y.hi x.lo) None (Some (ordered_of x y)) tt (ordered_are x y h k)
related_are Lt x y h k = either (Leaves HaveBoth) (le y.hi x.lo) None (Some (ordered_of x y)) tt (ordered_are x y h k)
related_are Ge x y h k = either (Leaves HaveBoth) (lt x.hi y.lo) None (Some (swapped (ordered_of y x))) tt (swapped_are (ordered_of y x) (ordered_are y x k h))
related_are Gt x y h k = either (Leaves HaveBoth) (le x.hi y.lo) None (Some (swapped (ordered_of y x))) tt (swapped_are (ordered_of y x) (ordered_are y x k h))

-- a contractor leaves numbers
abbrev Keeps : Effect → Type 0
Keeps f = (b : List Bounds) → HaveNumberEnds b → Leaves HaveNumberEnds (f b)

revised_is : (s : Sides) → Keeps (revised s)
revised_is s b h =
    chain_is HasNumberEnds HaveNumberEnds (forward_of b s.left) _ (forward_is b s.left h)
    (λ x n. chain_is HasNumberEnds HaveNumberEnds (forward_of b s.right) _ (forward_is b s.right h)
    (λ y m. chain_is HaveBoth HaveNumberEnds (related_of s.relation x y) _ (related_are s.relation x y n m)
    (λ p k. chain_is AreTargets HaveNumberEnds (both_targets b s p) _ (joined_are _ _ (targets_are b s.left p.0 h k.0) (targets_are b s.right p.1 h k.1))
    (λ ts g. places_are 0 ts b g h))))

-- ---- Programs

abbrev AllKeep : List Effect → Type 0
AllKeep [] = Unit {0}
AllKeep (f ∷ fs) = Keeps f × AllKeep fs

in_order_is : (fs : List Effect) → AllKeep fs → Keeps (in_order fs)
in_order_is [] k b h = h
in_order_is (f ∷ fs) k b h = chain_is HaveNumberEnds HaveNumberEnds (f b) (in_order fs) (k.0 b h) (λ c n. in_order_is fs k.1 c n)

turns_are : (n : ℕ) (f : Effect) → Keeps f → Keeps (turns_of n f)
turns_are zero f k b h = h
turns_are (suc n) f k b h = chain_is HaveNumberEnds HaveNumberEnds (f b) (turns_of n f) (k b h) (λ c m. turns_are n f k c m)

all_revised_are : (ss : List Sides) → AllKeep (map revised ss)
all_revised_are [] = tt
all_revised_are (s ∷ ss) = (revised_is s, all_revised_are ss)

abbrev AreBoxes : List (List Bounds) → Type 0
AreBoxes [] = Unit {0}
AreBoxes (b ∷ bs) = HaveNumberEnds b × AreBoxes bs

with_result_are : (o : Option (List Bounds)) (bs : List (List Bounds)) → Leaves HaveNumberEnds o → AreBoxes bs → AreBoxes (with_result o bs)
with_result_are None bs h k = k
with_result_are (Some b) bs h k = (h, k)

results_are : (fs : List Effect) (b : List Bounds) → AllKeep fs → HaveNumberEnds b → AreBoxes (results fs b)
results_are [] b k h = tt
results_are (f ∷ fs) b k h = with_result_are (f b) (results fs b) (k.0 b h) (results_are fs b k.1 h)

hull_boxes_are : (a b : List Bounds) → HaveNumberEnds a → HaveNumberEnds b → HaveNumberEnds (hull_boxes a b)
hull_boxes_are [] b h k = tt
hull_boxes_are (x ∷ a) [] h k = h
hull_boxes_are (x ∷ a) (y ∷ b) h k = (hull_is x y h.0 k.0, hull_boxes_are a b h.1 k.1)

hull_with_is : (b : List Bounds) (cs : List (List Bounds)) → HaveNumberEnds b → AreBoxes cs → HaveNumberEnds (hull_with b cs)
hull_with_is b [] h k = h
hull_with_is b (c ∷ cs) h k = hull_with_is (hull_boxes b c) cs (hull_boxes_are b c h k.0) k.1

hull_all_is : (bs : List (List Bounds)) → AreBoxes bs → Leaves HaveNumberEnds (hull_all bs)
hull_all_is [] h = tt
hull_all_is (b ∷ bs) h = hull_with_is b bs h.0 h.1

column_is : (k : ℕ) (bs : List (List Bounds)) → AreBoxes bs → HaveNumberEnds (column k bs)
column_is k [] h = tt
column_is k (b ∷ bs) h = (at_is b k h.0, column_is k bs h.1)

lower_is : (t : Bool) (e : Extended) (o : Option Extended) → IsNumber e → Leaves IsNumber o → Leaves IsNumber (lower_of t e o)
lower_is false e o h k = k
lower_is true e None h k = h
lower_is true e (Some f) h k = lesser_is e f h k

upper_is : (t : Bool) (e : Extended) (o : Option Extended) → IsNumber e → Leaves IsNumber o → Leaves IsNumber (upper_of t e o)
upper_is false e o h k = k
upper_is true e None h k = h
upper_is true e (Some f) h k = greater_is e f h k

least_end_is : (q : ℕ) (all xs : List Bounds) → HaveNumberEnds xs → Leaves IsNumber (least_end q all xs)
least_end_is q all [] h = tt
least_end_is q all (x ∷ xs) h = lower_is (is_in_enough q all x.lo) x.lo (least_end q all xs) h.0.lo (least_end_is q all xs h.1)

greatest_end_is : (q : ℕ) (all xs : List Bounds) → HaveNumberEnds xs → Leaves IsNumber (greatest_end q all xs)
greatest_end_is q all [] h = tt
greatest_end_is q all (x ∷ xs) h = upper_is (is_in_enough q all x.hi) x.hi (greatest_end q all xs) h.0.hi (greatest_end_is q all xs h.1)

and_then_is : {A B : Type 0} (P : A → Type 0) (Q : B → Type 0) (f : A → Option B) (o : Option A) → Leaves P o → ((x : A) → P x → Leaves Q (f x)) → Leaves Q (option_and_then f o)
and_then_is P Q f None h k = tt
and_then_is P Q f (Some x) h k = k x h

interval_is : (lo hi : Extended) → IsNumber lo → IsNumber hi → Leaves HasNumberEnds (interval_from lo hi)
interval_is lo hi h k = either (Leaves HasNumberEnds) (le lo hi && (lt lo PosInf && lt NegInf hi)) (Some (between lo hi)) None (record { lo = h; hi = k }) tt

place_hull_is : (q : ℕ) (xs : List Bounds) → HaveNumberEnds xs → Leaves HasNumberEnds (place_hull_of q xs)
unfolding place_hull_of
place_hull_is q xs h =
    and_then_is IsNumber HasNumberEnds _ (least_end q xs xs) (least_end_is q xs xs h)
    (λ l n. and_then_is IsNumber HasNumberEnds (λ u. interval_from l u) (greatest_end q xs xs) (greatest_end_is q xs xs h) (λ u m. interval_is l u n m))

hull_places_are : (q k n : ℕ) (bs : List (List Bounds)) → AreBoxes bs → Leaves HaveNumberEnds (hulls.places_from q k n bs)
hull_places_are q k zero bs h = tt
hull_places_are q k (suc n) bs h =
    and_then_is HasNumberEnds HaveNumberEnds _ (place_hull_of q (column k bs)) (place_hull_is q (column k bs) (column_is k bs h))
    (λ x m. and_then_is HaveNumberEnds HaveNumberEnds (λ xs. Some (x ∷ xs)) (hulls.places_from q (k + 1) n bs) (hull_places_are q (k + 1) n bs h) (λ xs g. (m, g)))

q_hull_is : (q : ℕ) (bs : List (List Bounds)) → AreBoxes bs → Leaves HaveNumberEnds (q_hull_all q bs)
unfolding q_hull_of
q_hull_is q [] h = tt
q_hull_is q (b ∷ bs) h = hull_places_are q 0 (length b) (b ∷ bs) h

mutual
  contract_is : (ss : List Sides) (p : Plan) → Keeps (contract_of ss p)
  contract_is ss (hc4 i) b h = revised_is (side_at ss i) b h
  contract_is ss (compose ps) b h = in_order_is (effects ss ps) (effects_are ss ps) b h
  contract_is ss (union ps) b h = hull_all_is (results (effects ss ps) b) (results_are (effects ss ps) b (effects_are ss ps) h)
  contract_is ss (qinter q ps) b h = q_hull_is q (results (effects ss ps) b) (results_are (effects ss ps) b (effects_are ss ps) h)
  contract_is ss (fix n p) b h = turns_are n (contract_of ss p) (contract_is ss p) b h
  contract_is ss (prop n) b h = turns_are n (all_revised ss) (in_order_is (map revised ss) (all_revised_are ss)) b h

  effects_are : (ss : List Sides) (ps : Plans) → AllKeep (effects ss ps)
  effects_are ss no_plan = tt
  effects_are ss (plan_and p ps) = (contract_is ss p, effects_are ss ps)

-- ---- Cuts

strictly_is : (lo c hi : Extended) → IsNumber c → Leaves IsNumber (strictly_between lo c hi)
strictly_is lo c hi h = either (Leaves IsNumber) (lt lo c && lt c hi) (Some c) None h tt

below_is : (h : ℤ) → Leaves IsNumber (cut_below h)
unfolding cut_below
below_is h = either (Leaves IsNumber) (lt nought (Fin h)) (Some nought) _ nought_is (strictly_is NegInf _ (Fin h) (rounded_is Down _ 1))

above_is : (l : ℤ) → Leaves IsNumber (cut_above l)
unfolding cut_above
above_is l = either (Leaves IsNumber) (lt (Fin l) nought) (Some nought) _ nought_is (strictly_is (Fin l) _ PosInf (rounded_is Up _ 1))

between_is : (a b c : Extended) → IsNumber c → Leaves IsNumber (number.between a b c)
between_is a b c h = either (Leaves IsNumber) (lt a c && lt c b) (Some c) None h tt

cut_between_is : (lo hi : Extended) → Leaves IsNumber (cut_between lo hi)
cut_between_is NegInf NegInf = tt
cut_between_is NegInf (Fin h) = below_is h
cut_between_is NegInf PosInf = nought_is
cut_between_is (Fin l) NegInf = tt
cut_between_is (Fin l) (Fin h) = between_is (Fin l) (Fin h) _ (either IsNumber _ _ _ (rounded_is Down _ 2) (rounded_is Up _ 2))
cut_between_is (Fin l) PosInf = above_is l
cut_between_is PosInf h = tt

cut_is : (x : Bounds) → Leaves IsNumber (cut_of x)
unfolding cut_of
cut_is x = cut_between_is x.lo x.hi

abbrev IsCut : ℕ × Extended → Type 0
IsCut c = IsNumber c.1

wider_is : (o : Option Extended) (i : ℕ) (w : Extended) (best : _) → Leaves IsNumber o → Leaves IsCut (choice_of best) → Leaves IsCut (choice_of (wider o i w best))
wider_is None i w best h k = k
wider_is (Some c) i w None h k = h
wider_is (Some c) i w (Some best) h k = either (λ o. Leaves IsCut (choice_of o)) (le best.width w) (Some (record { var = i; at = c; width = w })) (Some best) h k

widest_is : (i : ℕ) (b : List Bounds) → Leaves IsCut (choice_of (widest_from i b))
widest_is i [] = tt
widest_is i (x ∷ b) = wider_is (cut_of x) i (width_of x) (widest_from (i + 1) b) (cut_is x) (widest_is (i + 1) b)

later_is : (o : Option Extended) (i : ℕ) (later : Option (ℕ × Extended)) → Leaves IsNumber o → Leaves IsCut later → Leaves IsCut (at_or_later o i later)
later_is None i later h k = k
later_is (Some c) i later h k = h

first_is : (i : ℕ) (b : List Bounds) → Leaves IsCut (first_from i b)
first_is i [] = tt
first_is i (x ∷ b) = later_is (cut_of x) i (first_from (i + 1) b) (cut_is x) (first_is (i + 1) b)

or_is : (o p : Option (ℕ × Extended)) → Leaves IsCut o → Leaves IsCut p → Leaves IsCut (or_else o p)
or_is None p h k = k
or_is (Some c) p h k = h

chosen_is : (by : Bisector) (k : ℕ) (b : List Bounds) → Leaves IsCut (choose_of by k b)
unfolding choose_of
chosen_is Largest k b = widest_is 0 b
chosen_is Round k b = or_is (first_from (k % length b) (drop (k % length b) b)) (first_from 0 b) (first_is (k % length b) (drop (k % length b) b)) (first_is 0 b)

-- ---- Settling

cut_or_small_is : (to : List Bounds) (c : Option (ℕ × Extended)) → HaveNumberEnds to → Leaves IsCut c → OutcomeHasNumbers (natural.cut_or_small to c)
cut_or_small_is to None h k = h
cut_or_small_is to (Some c) h k = (h, k)

unsure_is : (r : SettlerParts) (to : List Bounds) (d k : ℕ) → HaveNumberEnds to → OutcomeHasNumbers (natural.settle_unsure r to d k)
unsure_is r to d k h =
    either OutcomeHasNumbers (nat_eq d 0 || is_small_of r.eps to) (Small to) (natural.cut_or_small to (choose_of r.bisector k to)) h
    (cut_or_small_is to (choose_of r.bisector k to) h (chosen_is r.bisector k to))

natural_is : (r : SettlerParts) (o : Option (List Bounds)) (d k : ℕ) → Leaves HaveNumberEnds o → OutcomeHasNumbers (natural.settle_contracted r o d k)
natural_is r None d k h = tt
natural_is r (Some to) d k h =
    either OutcomeHasNumbers (sure.program_sure (sides_in r.graphs) (plan_of r.program) to) (Inner to) (natural.settle_unsure r to d k) h (unsure_is r to d k h)

centered_is : (r : SettlerParts) (o : Option (List Bounds)) (d k : ℕ) → Leaves HaveNumberEnds o → OutcomeHasNumbers (centered.settle_contracted r o d k)
centered_is r None d k h = tt
centered_is r (Some to) d k h =
    either OutcomeHasNumbers (slopes.program_none (sides_in r.graphs) (plan_of r.program) to) Removed _ tt
    (either OutcomeHasNumbers (slopes.program_sure (sides_in r.graphs) (plan_of r.program) to) (Inner to) (natural.settle_unsure r to d k) h (unsure_is r to d k h))

settled_is : (form : Form) (r : SettlerParts) (b : List Bounds) (d k : ℕ) → HaveNumberEnds b → OutcomeHasNumbers (settle_as form r b d k)
unfolding natural.settle_by centered.settle_centered
settled_is Plain r b d k h = natural_is r (contract_of (sides_in r.graphs) (plan_of r.program) b) d k (contract_is (sides_in r.graphs) (plan_of r.program) b h)
settled_is Centered r b d k h = centered_is r (contract_of (sides_in r.graphs) (plan_of r.program) b) d k (contract_is (sides_in r.graphs) (plan_of r.program) b h)

-- ---- Trees

lower_half_is : (b : List Bounds) (v : ℕ) (a : Extended) → HaveNumberEnds b → IsNumber a → HaveNumberEnds (lower_half b v a)
lower_half_is [] v a h k = tt
lower_half_is (x ∷ b) zero a h k = (record { lo = h.0.lo; hi = k }, h.1)
lower_half_is (x ∷ b) (suc v) a h k = (h.0, lower_half_is b v a h.1 k)

upper_half_is : (b : List Bounds) (v : ℕ) (a : Extended) → HaveNumberEnds b → IsNumber a → HaveNumberEnds (upper_half b v a)
upper_half_is [] v a h k = tt
upper_half_is (x ∷ b) zero a h k = (record { lo = k; hi = h.0.hi }, h.1)
upper_half_is (x ∷ b) (suc v) a h k = (h.0, upper_half_is b v a h.1 k)

module _ (rule : Rule) (numbers : (b : List Bounds) (d k : ℕ) → HaveNumberEnds b → OutcomeHasNumbers (rule b d k)) where
  grown_is : (d k : ℕ) (o : Outcome) → OutcomeHasNumbers o → ((b : List Bounds) (j : ℕ) → HaveNumberEnds b → HasNumbers (rest rule d b j)) → HasNumbers (grown rule d k o)
  grown_is d k Removed h below = tt
  grown_is d k (Inner to) h below = h
  grown_is d k (Small to) h below = h
  grown_is d k (Cut to v a) h below =
      (h.0, h.1, below (lower_half to v a) (suc k) (lower_half_is to v a h.0 h.1), below (upper_half to v a) (suc k) (upper_half_is to v a h.0 h.1))

  full_is : (d : ℕ) (b : List Bounds) (k : ℕ) → HaveNumberEnds b → HasNumbers (full rule d b k)
  full_is zero b k h =
      subst HasNumbers (sym (full-is rule zero b k (rule b zero k) refl)) (grown_is zero k (rule b zero k) (numbers b zero k h) (λ c j n. tt))
  full_is (suc d) b k h =
      subst HasNumbers (sym (full-is rule (suc d) b k (rule b (suc d) k) refl)) (grown_is (suc d) k (rule b (suc d) k) (numbers b (suc d) k h) (full_is d))

  open_is : (depth : ℕ) (b : List Bounds) → HaveNumberEnds b → HasNumbers (full_of rule depth b leaf 0)
  unfolding full_of
  open_is depth b h = full_is (depth - 0) b 0 h

none_some : (o : Outcome) → None ≡ Some o → ⊥
none_some o e = cc

some_is : (o u : Outcome) → Some o ≡ Some u → OutcomeHasNumbers o → OutcomeHasNumbers u
some_is o u e h = subst OutcomeHasNumbers (let same : o ≡ u = cc in same) h

numbers_at : (t : Tree) (p : List Bool) (o : Outcome) → HasNumbers t → outcome_at t p ≡ Some o → OutcomeHasNumbers o
numbers_at leaf [] o h e = absurd (none_some o e)
numbers_at leaf (b ∷ p) o h e = absurd (none_some o e)
numbers_at removed [] o h e = some_is Removed o e tt
numbers_at removed (b ∷ p) o h e = absurd (none_some o e)
numbers_at (inner to) [] o h e = some_is (Inner to) o e h
numbers_at (inner to) (b ∷ p) o h e = absurd (none_some o e)
numbers_at (small to) [] o h e = some_is (Small to) o e h
numbers_at (small to) (b ∷ p) o h e = absurd (none_some o e)
numbers_at (cut to v a low high) [] o h e = some_is (Cut to v a) o e (h.0, h.1)
numbers_at (cut to v a low high) (false ∷ p) o h e = numbers_at low p o h.2 e
numbers_at (cut to v a low high) (true ∷ p) o h e = numbers_at high p o h.3 e

numbers_of : (t : Tree) → ((p : List Bool) (o : Outcome) → outcome_at t p ≡ Some o → OutcomeHasNumbers o) → HasNumbers t
numbers_of leaf f = tt
numbers_of removed f = tt
numbers_of (inner to) f = f [] (Inner to) refl
numbers_of (small to) f = f [] (Small to) refl
numbers_of (cut to v a low high) f =
    let here : OutcomeHasNumbers (Cut to v a) = f [] (Cut to v a) refl in
    (here.0, here.1, numbers_of low (λ p o e. f (false ∷ p) o e), numbers_of high (λ p o e. f (true ∷ p) o e))

bound_is : (side : End) (b : Bound) → IsNumber (search_ends.end_of side b)
bound_is side MinusOo = tt
bound_is side (Value p q) = rounded_is side _ q
bound_is side PlusOo = tt

domains_are : (ds : List Domain) → HaveNumberEnds (map search_bounds ds)
domains_are [] = tt
domains_are (d ∷ ds) = (record { lo = bound_is Down d.lo; hi = bound_is Up d.hi }, domains_are ds)

pub stage_numbers : (rule : Method) (t : Tree) → IsStage (settle_by rule) rule.parts.depth (search_box rule) leaf t → HasNumbers t
stage_numbers rule t h =
    let whole = open_is (settle_by rule) (settled_is rule.form rule.parts) rule.parts.depth (search_box rule) (domains_are rule.parts.system.domains) in
    numbers_of t (λ p o e. numbers_at (full_of (settle_by rule) rule.parts.depth (search_box rule) leaf 0) p o whole (h.grows p o e))
