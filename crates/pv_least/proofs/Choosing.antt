-- The least of some numbers and the first best of some points, as a list grows at its end.
use Rattle.std.proofs.Common.{◌≡◌, Bool, true, false, IsTrue, cond, List, [], ◌∷◌, ◌++◌, refl, sym, ◌∙◌, ap, append-nil}
use Rattle.std.specs.Prelude.{not, Option, Some, None, IfSome}
use Rattle.std.proofs.lemmas.Bool.{true≢false, not-true, not-false}
use Rattle.std.specs.Ordering.{is_lt, is_le, ordering_reverse}
use Rattle.std.specs.declared.cmp.Ordering.{Ordering}
use Rattle.std.specs.declared.cmp.Ordering.TheVariants.{Less, Equal, Greater}
use Rattle.pv_num.specs.Extended.{Extended, PosInf}
use Rattle.pv_num.specs.Order.{le, lt, lesser, order_of}
use Rattle.pv_num.specs.Laws.{order_of-total}
use Rattle.pv_num.proofs.Orders.{le-refl, le-trans, le-antisym, le-PosInf}
use Rattle.pv_interval.proofs.Ends.{le_of_false}
use Rattle.pv_interval.proofs.Choices.{lesser_first, lesser_second, lesser_left, lesser_right, lesser_either}
use Rattle.pv_least.specs.declared.found.BestPoint.{BestPoint}
use Rattle.pv_least.specs.Searches.{as_list, least_of, better, first_least, upper_of}
use Rattle.pv_least.specs.Running.{lowered, beats}

-- ---- numbers

below_both : (x a b : Extended) → IsTrue (le x a) → IsTrue (le x b) → IsTrue (le x (lesser a b))
below_both x a b h k = lesser_either (λ y. IsTrue (le x y)) a b h k

lesser-assoc : (a b c : Extended) → lesser a (lesser b c) ≡ lesser (lesser a b) c
lesser-assoc a b c =
    let first = lesser_left a (lesser b c) in
    let rest = lesser_right a (lesser b c) in
    let front = lesser_left (lesser a b) c in
    let last = lesser_right (lesser a b) c in
    le-antisym (lesser a (lesser b c)) (lesser (lesser a b) c)
    (below_both (lesser a (lesser b c)) (lesser a b) c
    (below_both (lesser a (lesser b c)) a b first (le-trans _ (lesser b c) b rest (lesser_left b c)))
    (le-trans _ (lesser b c) c rest (lesser_right b c)))
    (below_both (lesser (lesser a b) c) a (lesser b c)
    (le-trans _ (lesser a b) a front (lesser_left a b))
    (below_both (lesser (lesser a b) c) b c (le-trans _ (lesser a b) b front (lesser_right a b)) last))

pub least_of-last : (xs : List Extended) (x : Extended) → least_of (xs ++ x ∷ []) ≡ lesser (least_of xs) x
least_of-last [] x = lesser_first x PosInf (le-PosInf x) ∙ sym (lesser_second PosInf x (le-PosInf x))
least_of-last (y ∷ ys) x = ap (lesser y) (least_of-last ys x) ∙ lesser-assoc y (least_of ys) x

pub least_of-more : (xs : List Extended) (o : Option Extended) → least_of (xs ++ as_list o) ≡ lowered (least_of xs) o
least_of-more xs None = ap least_of (append-nil xs)
least_of-more xs (Some x) = least_of-last xs x

pub least_of-left : (xs ys : List Extended) → IsTrue (le (least_of (xs ++ ys)) (least_of xs))
least_of-left [] ys = le-PosInf (least_of ys)
least_of-left (x ∷ xs) ys =
    below_both (lesser x (least_of (xs ++ ys))) x (least_of xs) (lesser_left x (least_of (xs ++ ys)))
    (le-trans _ (least_of (xs ++ ys)) (least_of xs) (lesser_right x (least_of (xs ++ ys))) (least_of-left xs ys))

pub least_of-right : (xs ys : List Extended) → IsTrue (le (least_of (xs ++ ys)) (least_of ys))
least_of-right [] ys = le-refl (least_of ys)
least_of-right (x ∷ xs) ys = le-trans _ (least_of (xs ++ ys)) (least_of ys) (lesser_right x (least_of (xs ++ ys))) (least_of-right xs ys)

-- ---- points

reversed_lt : (o : Ordering) → is_lt (ordering_reverse o) ≡ not (is_le o)
reversed_lt Less = refl
reversed_lt Equal = refl
reversed_lt Greater = refl

lt_not : (a b : Extended) → lt b a ≡ not (le a b)
lt_not a b = ap is_lt (order_of-total.antisymm b a) ∙ reversed_lt (order_of a b)

above : (a b : Extended) → lt b a ≡ true → le a b ≡ false
above a b h = not-true (le a b) (sym (lt_not a b) ∙ h)

pub at_most : (a b : Extended) → lt b a ≡ false → le a b ≡ true
at_most a b h = not-false (le a b) (sym (lt_not a b) ∙ h)

still_above : (a b c : Extended) (t : Bool) → le a c ≡ t → le a b ≡ false → le b c ≡ false → t ≡ false
still_above a b c false e h k = refl
still_above a b c true e h k = absurd (true≢false (sym (le-trans b a c (le_of_false a b h) e) ∙ k))

lt_lt : (a b c : Extended) → lt b a ≡ true → lt c b ≡ true → lt c a ≡ true
lt_lt a b c h k = lt_not a c ∙ ap not (still_above a b c (le a c) refl (above a b h) (above b c k))

le_le : (a b c : Extended) → lt b a ≡ false → lt c b ≡ false → lt c a ≡ false
le_le a b c h k = lt_not a c ∙ ap not (le-trans a b c (at_most a b h) (at_most b c k))

pushed : {A B : Type 0} (f : A → B) (t : Bool) (x y : A) → f (cond t x y) ≡ cond t (f x) (f y)
pushed f true x y = refl
pushed f false x y = refl

flags_agree : {A : Type 0} (a b c : A) (t u v : Bool) → (t ≡ true → u ≡ true → v ≡ true) → (t ≡ false → u ≡ false → v ≡ false)
    → cond u (cond v c a) (cond t b a) ≡ cond t (cond u c b) (cond v c a)
flags_agree a b c true true true h k = refl
flags_agree a b c true true false h k = absurd (true≢false (sym (h refl refl)))
flags_agree a b c true false v h k = refl
flags_agree a b c false true v h k = refl
flags_agree a b c false false true h k = absurd (true≢false (k refl refl))
flags_agree a b c false false false h k = refl

better-assoc : (o p q : Option BestPoint) → better o (better p q) ≡ better (better o p) q
better-assoc None p q = refl
better-assoc (Some a) None q = refl
better-assoc (Some a) (Some b) None = sym (pushed (λ o. better o None) (lt b.upper a.upper) (Some b) (Some a))
better-assoc (Some a) (Some b) (Some c) =
    pushed (λ o. better (Some a) o) (lt c.upper b.upper) (Some c) (Some b)
    ∙ flags_agree (Some a) (Some b) (Some c) (lt b.upper a.upper) (lt c.upper b.upper) (lt c.upper a.upper)
    (lt_lt a.upper b.upper c.upper) (le_le a.upper b.upper c.upper)
    ∙ sym (pushed (λ o. better o (Some c)) (lt b.upper a.upper) (Some b) (Some a))

better-none : (o : Option BestPoint) → better o None ≡ o
better-none None = refl
better-none (Some p) = refl

first_least-last : (ps : List BestPoint) (p : BestPoint) → first_least (ps ++ p ∷ []) ≡ better (first_least ps) (Some p)
first_least-last [] p = refl
first_least-last (q ∷ qs) p = ap (better (Some q)) (first_least-last qs p) ∙ better-assoc (Some q) (first_least qs) (Some p)

pub first_least-more : (ps : List BestPoint) (o : Option BestPoint) → first_least (ps ++ as_list o) ≡ better (first_least ps) o
first_least-more ps None = ap first_least (append-nil ps) ∙ sym (better-none (first_least ps))
first_least-more ps (Some p) = first_least-last ps p

-- the bound of the best point only falls
pub better_falls : (o p : Option BestPoint) → IsTrue (le (upper_of (better o p)) (upper_of o))
better_falls None p = le-PosInf (upper_of p)
better_falls (Some a) None = le-refl a.upper
better_falls (Some a) (Some b) = by_test (lt b.upper a.upper) refl
  where
    by_test : (t : Bool) → lt b.upper a.upper ≡ t → IsTrue (le (upper_of (cond t (Some b) (Some a))) a.upper)
    by_test true e = le_of_false a.upper b.upper (above a.upper b.upper e)
    by_test false e = le-refl a.upper

-- what holds of all points holds of the first best one
abbrev pub AllPoints : (BestPoint → Type 0) → List BestPoint → Type 0
AllPoints P [] = Unit {0}
AllPoints P (p ∷ ps) = P p × AllPoints P ps

better_of_both : (P : BestPoint → Type 0) (o p : Option BestPoint) → IfSome o P → IfSome p P → IfSome (better o p) P
better_of_both P None p h k = k
better_of_both P (Some a) None h k = h
better_of_both P (Some a) (Some b) h k = by_test (lt b.upper a.upper)
  where
    by_test : (t : Bool) → IfSome (cond t (Some b) (Some a)) P
    by_test true = k
    by_test false = h

pub best_of_all : (P : BestPoint → Type 0) (ps : List BestPoint) → AllPoints P ps → IfSome (first_least ps) P
best_of_all P [] h = tt
best_of_all P (p ∷ ps) h = better_of_both P (Some p) (first_least ps) h.0 (best_of_all P ps h.1)

pub all_more : (P : BestPoint → Type 0) (ps qs : List BestPoint) → AllPoints P ps → AllPoints P qs → AllPoints P (ps ++ qs)
all_more P [] qs h k = k
all_more P (p ∷ ps) qs h k = (h.0, all_more P ps qs h.1 k)

-- the later of two points, where its bound is less, and else the earlier
pub better_later : (o : Option BestPoint) (p : BestPoint) → beats p.upper o ≡ true → better o (Some p) ≡ Some p
better_later None p h = refl
better_later (Some a) p h = ap (λ t. cond t (Some p) (Some a)) h
