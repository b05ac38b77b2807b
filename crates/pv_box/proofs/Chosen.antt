-- The choice of a place, in words.
use Rattle.std.proofs.Common.{◌≡◌, ℕ, zero, suc, ◌+◌, ◌-◌, ◌%◌, ◌<◌, ◌≤◌, List, [], ◌∷◌, length, refl, sym, ◌∙◌, ap, subst, inl, inr, arith, cond, get_or}
use Rattle.std.specs.Prelude.{Option, Some, None, IsSome, IsTrue, Bool, true, false, drop, option_and_then, slice_get}
use Rattle.std.proofs.lemmas.Bool.{true≢false, cases_eq}
use Rattle.pv_num.specs.Extended.{Extended}
use Rattle.pv_num.specs.Order.{le, lt}
use Rattle.pv_num.proofs.Orders.{le-refl, le-trans, le-antisym}
use Rattle.pv_interval.specs.Bounds.{Bounds, everything}
use Rattle.pv_interval.specs.Tables.{width_of}
use Rattle.pv_box.specs.declared.choice.Candidate.{Candidate}
use Rattle.pv_box.specs.declared.choice.Bisector.{Bisector}
use Rattle.pv_box.specs.declared.choice.Bisector.TheVariants.{Largest, Round}
use Rattle.pv_box.proofs.Hulls.{in_range}
use Rattle.pv_box.specs.Choice.{cut_of, cut_at, CanBeCut, width_at, IsNext, IsChoice, IsWidestBelow, wider, widest_from, choice_of, at_or_later, first_from, or_else, choose_of}
use Rattle.pv_interval.proofs.Ends.{le_of_false, lt_from, lt_not}

not_both : (o : Option Extended) → o ≡ None → IsSome o → ⊥
not_both o e s = none_is_not (subst IsSome e s)
  where
    none_is_not : IsSome {T = Extended} None → ⊥
    none_is_not h = true≢false (sym h)

-- ---- The widest place

-- what is found among places that are numbered from i on
record IsBest (i : ℕ) (xs : List Bounds) (c : Candidate) : Type 0 where
  pub place : ℕ
  pub is : c.var ≡ i + place
  pub cut : cut_at xs place ≡ Some c.at
  pub width : width_at xs place ≡ c.width
  pub widest : (k : ℕ) → CanBeCut xs k → IsTrue (le (width_at xs k) c.width)
  pub first : (k : ℕ) → CanBeCut xs k → width_at xs k ≡ c.width → place ≤ k

abbrev Best : ℕ → List Bounds → Option Candidate → Type 0
Best i xs None = (k : ℕ) → cut_at xs k ≡ None
Best i xs (Some c) = IsBest i xs c

none_there : (x : Bounds) (xs : List Bounds) → cut_of x ≡ None → ((k : ℕ) → cut_at xs k ≡ None) → (k : ℕ) → cut_at (x ∷ xs) k ≡ None
none_there x xs e h zero = e
none_there x xs e h (suc k) = h k

-- the first place can't be cut, or is less wide
best_later : (i : ℕ) (x : Bounds) (xs : List Bounds) (m : Candidate) → (IsSome (cut_of x) → IsTrue (le (width_of x) m.width) × (width_of x ≡ m.width → ⊥)) → IsBest (i + 1) xs m → IsBest i (x ∷ xs) m
best_later i x xs m f h = record {
  place = suc h.place;
  is = let e = h.is in omega arith;
  cut = h.cut;
  width = h.width;
  widest = wide;
  first = low;
}
  where
    wide : (k : ℕ) → CanBeCut (x ∷ xs) k → IsTrue (le (width_at (x ∷ xs) k) m.width)
    wide zero s = (f s).0
    wide (suc k) s = h.widest k s

    low : (k : ℕ) → CanBeCut (x ∷ xs) k → width_at (x ∷ xs) k ≡ m.width → suc h.place ≤ k
    low zero s e = absurd ((f s).1 e)
    low (suc k) s e = let l = h.first k s e in omega arith

-- the first place is at least as wide as the later ones
best_here : (i : ℕ) (x : Bounds) (xs : List Bounds) (a : Extended) → cut_of x ≡ Some a → ((k : ℕ) → CanBeCut xs k → IsTrue (le (width_at xs k) (width_of x))) → IsBest i (x ∷ xs) (record { var = i; at = a; width = width_of x })
best_here i x xs a e f = record {
  place = zero;
  is = omega arith;
  cut = e;
  width = refl;
  widest = wide;
  first = λ k s w. omega arith;
}
  where
    wide : (k : ℕ) → CanBeCut (x ∷ xs) k → IsTrue (le (width_at (x ∷ xs) k) (width_of x))
    wide zero s = le-refl (width_of x)
    wide (suc k) s = f k s

best_grown : (i : ℕ) (x : Bounds) (xs : List Bounds) (o : Option Extended) → cut_of x ≡ o → (best : Option Candidate) → Best (i + 1) xs best → Best i (x ∷ xs) (wider o i (width_of x) best)
best_grown i x xs None e None h = none_there x xs e h
best_grown i x xs None e (Some m) h = best_later i x xs m (λ s. absurd (not_both (cut_of x) e s)) h
best_grown i x xs (Some a) e None h = best_here i x xs a e (λ k s. absurd (not_both (cut_at xs k) (h k) s))
best_grown i x xs (Some a) e (Some m) h = go (le m.width (width_of x)) refl
  where
    go : (t : Bool) → le m.width (width_of x) ≡ t → Best i (x ∷ xs) (cond t (Some (record { var = i; at = a; width = width_of x })) (Some m))
    go true t = best_here i x xs a e (λ k s. le-trans (width_at xs k) m.width (width_of x) (h.widest k s) t)
    go false t = best_later i x xs m
        (λ s. (le_of_false m.width (width_of x) t, λ q. true≢false (sym (subst (λ w. le m.width w ≡ true) (sym q) (le-refl m.width)) ∙ t))) h

best_from : (i : ℕ) (xs : List Bounds) → Best i xs (widest_from i xs)
best_from i [] = λ k. refl
best_from i (x ∷ xs) = best_grown i x xs (cut_of x) refl (widest_from (i + 1) xs) (best_from (i + 1) xs)

-- ---- The widest of all places, with its cut

pub only_place : (b : List Bounds) → IsWidestBelow 1 b 0
only_place b = record {
  within = omega arith;
  widest = λ k l. let z : 0 ≡ k = omega arith in subst (λ j. IsTrue (le (width_at b j) (width_at b 0))) z (le-refl (width_at b 0));
  first = λ k l w. omega arith;
}

pub wider_place : (n : ℕ) (b : List Bounds) (v : ℕ) → IsWidestBelow n b v → lt (width_at b v) (width_at b n) ≡ true → IsWidestBelow (n + 1) b n
wider_place n b v h w = record {
  within = omega arith;
  widest = λ k l. elim (cases_eq k n) [
    | inl p ↦ subst (λ j. IsTrue (le (width_at b j) (width_at b n))) (sym p) (le-refl (width_at b n))
    | inr p ↦ le-trans (width_at b k) (width_at b v) (width_at b n) (h.widest k (omega (arith, p))) (le_of_false (width_at b n) (width_at b v) (lt_not (width_at b v) (width_at b n) w))
  ];
  first = λ k l e. elim (cases_eq k n) [
    | inl p ↦ omega (arith, p)
    | inr p ↦ absurd (true≢false (sym (subst (λ x. IsTrue (le x (width_at b v))) e (h.widest k (omega (arith, p)))) ∙ lt_not (width_at b v) (width_at b n) w))
  ];
}

pub same_place : (n : ℕ) (b : List Bounds) (v : ℕ) → IsWidestBelow n b v → lt (width_at b v) (width_at b n) ≡ false → IsWidestBelow (n + 1) b v
same_place n b v h w = record {
  within = let l = h.within in omega arith;
  widest = λ k l. elim (cases_eq k n) [
    | inl p ↦ subst (λ j. IsTrue (le (width_at b j) (width_at b v))) (sym p) (not_less (width_at b n) (width_at b v) w)
    | inr p ↦ h.widest k (omega (arith, p))
  ];
  first = λ k l e. elim (cases_eq k n) [
    | inl p ↦ let m = h.within in omega (arith, p)
    | inr p ↦ h.first k (omega (arith, p)) e
  ];
}
  where
    not_less : (x y : Extended) → lt y x ≡ false → IsTrue (le x y)
    not_less x y e = go (le x y) refl
      where
        go : (t : Bool) → le x y ≡ t → IsTrue (le x y)
        go true t = t
        go false t = absurd (true≢false (sym (lt_from y x t) ∙ e))

pub width_read : (b : List Bounds) (v : ℕ) (x : Bounds) → v < length b → x ≡ get_or b v x → width_of x ≡ width_at b v
width_read b v x l e = ap width_of (e ∙ in_range b v x everything l)

pub compared : (x y u w : Extended) (t : Bool) → x ≡ u → y ≡ w → lt x y ≡ t → lt u w ≡ t
compared x y u w t e f h = ap (λ z. lt z w) (sym e) ∙ ap (lt x) (sym f) ∙ h

cut_there : (b : List Bounds) (k : ℕ) (a : Extended) → cut_at b k ≡ Some a → k < length b
cut_there [] k a e = absurd (cc)
cut_there (x ∷ b) zero a e = omega arith
cut_there (x ∷ b) (suc k) a e = let l = cut_there b k a e in omega (arith, l)

cut_read : (b : List Bounds) (v : ℕ) (x : Bounds) → v < length b → x ≡ get_or b v x → cut_at b v ≡ cut_of x
cut_read [] v x l e = absurd (omega arith)
cut_read (y ∷ b) zero x l e = ap cut_of (sym e)
cut_read (y ∷ b) (suc v) x l e = cut_read b v x (omega arith) e

can_cut : (b : List Bounds) (k : ℕ) (a : Extended) → cut_at b k ≡ Some a → CanBeCut b k
can_cut b k a e = subst IsSome (sym e) refl

chosen_top : (b : List Bounds) (v : ℕ) (a : Extended) → IsWidestBelow (length b) b v → cut_at b v ≡ Some a → (o : Option Candidate) → Best 0 b o → Some (v, a) ≡ choice_of o
chosen_top b v a h e None best = absurd (let n = best v in cc)
chosen_top b v a h e (Some m) best =
    let l = cut_there b best.place m.at best.cut in
    let w : width_at b best.place ≡ width_at b v =
    le-antisym (width_at b best.place) (width_at b v) (h.widest best.place l) (subst (λ x. IsTrue (le (width_at b v) x)) (sym best.width) (best.widest v (can_cut b v a e))) in
    let below = h.first best.place l w in
    let above = best.first v (can_cut b v a e) (sym w ∙ best.width) in
    let same : best.place ≡ v = omega (arith, below, above) in
    let var : m.var ≡ v = let i = best.is in omega (arith, same, i) in
    let cut : Some m.at ≡ Some a = sym best.cut ∙ ap (cut_at b) same ∙ e in
    cc

-- where the first place of greatest width can be cut, it is chosen
pub chosen_widest : (b : List Bounds) (v : ℕ) (a : Extended) (x : Bounds) → IsWidestBelow (length b) b v → x ≡ get_or b v x → Some a ≡ cut_of x → Some (v, a) ≡ choice_of (widest_from 0 b)
chosen_widest b v a x h is e = chosen_top b v a h (cut_read b v x h.within is ∙ sym e) (widest_from 0 b) (best_from 0 b)

-- ---- The next place

record IsFirst (i : ℕ) (xs : List Bounds) (c : ℕ × Extended) : Type 0 where
  pub place : ℕ
  pub is : c.0 ≡ i + place
  pub cut : cut_at xs place ≡ Some c.1
  pub before : (k : ℕ) → k < place → cut_at xs k ≡ None

abbrev First : ℕ → List Bounds → Option (ℕ × Extended) → Type 0
First i xs None = (k : ℕ) → cut_at xs k ≡ None
First i xs (Some c) = IsFirst i xs c

first_grown : (i : ℕ) (x : Bounds) (xs : List Bounds) (o : Option Extended) → cut_of x ≡ o → (later : Option (ℕ × Extended)) → First (i + 1) xs later → First i (x ∷ xs) (at_or_later o i later)
first_grown i x xs None e None h = none_there x xs e h
first_grown i x xs None e (Some c) h = record {
  place = suc h.place;
  is = let e = h.is in omega arith;
  cut = h.cut;
  before = none;
}
  where
    none : (k : ℕ) → k < suc h.place → cut_at (x ∷ xs) k ≡ None
    none zero l = e
    none (suc k) l = h.before k (omega arith)
first_grown i x xs (Some a) e later h = record { place = zero; is = omega arith; cut = e; before = λ k l. absurd (omega arith) }

first_is : (i : ℕ) (xs : List Bounds) → First i xs (first_from i xs)
first_is i [] = λ k. refl
first_is i (x ∷ xs) = first_grown i x xs (cut_of x) refl (first_from (i + 1) xs) (first_is (i + 1) xs)

get_drop : (t : ℕ) (b : List Bounds) (k n : ℕ) → n ≡ t + k → slice_get (drop t b) k ≡ slice_get b n
get_drop zero b k n e = let m : k ≡ n = omega arith in ap (slice_get b) m
get_drop (suc t) [] k n e = sym (nothing n)
  where
    nothing : (n : ℕ) → slice_get {X = Bounds} [] n ≡ None
    nothing n = refl
get_drop (suc t) (x ∷ b) k zero e = absurd (omega arith)
get_drop (suc t) (x ∷ b) k (suc n) e = get_drop t b k n (omega arith)

dropped : (t : ℕ) (b : List Bounds) (k n : ℕ) → n ≡ t + k → cut_at (drop t b) k ≡ cut_at b n
dropped t b k n e = ap (option_and_then cut_of) (get_drop t b k n e)

-- ---- What is chosen

said_widest : (n : ℕ) (b : List Bounds) (o : Option Candidate) → Best 0 b o → IsChoice Largest n b (choice_of o)
said_widest n b None h = record { cut = tt; chosen = tt; none = h }
said_widest n b (Some c) h =
    let p : h.place ≡ c.var = let e = h.is in omega arith in
    record {
      cut = subst (λ v. cut_at b v ≡ Some c.at) p h.cut;
      chosen = record {
        widest = λ k s. subst (λ w. IsTrue (le (width_at b k) w)) (sym h.width ∙ ap (width_at b) p) (h.widest k s);
        first = λ k s w. subst (λ v. v ≤ k) p (h.first k s (w ∙ ap (width_at b) (sym p) ∙ h.width));
      };
      none = tt;
    }

said_later : (n : ℕ) (b : List Bounds) (t : ℕ) → t ≡ n % length b → (c : ℕ × Extended) → IsFirst t (drop t b) c → IsChoice Round n b (Some c)
said_later n b t e c h = record {
  cut = sym (dropped t b h.place c.0 h.is) ∙ h.cut;
  chosen = subst (λ r. IsNext r b c.0) e next;
  none = tt;
}
  where
    next : IsNext t b c.0
    next k s (inl p) = not_both (cut_at b k) (sym (dropped t b (k - t) k (omega (arith, p))) ∙ h.before (k - t) (let e = h.is in omega (arith, p, e))) s
    next k s (inr p) = let e = h.is in absurd (omega (arith, p, e))

said_first : (n : ℕ) (b : List Bounds) (t : ℕ) → t ≡ n % length b → ((k : ℕ) → cut_at (drop t b) k ≡ None) → (c : ℕ × Extended) → IsFirst 0 b c → IsChoice Round n b (Some c)
said_first n b t e none c h = record {
  cut = subst (λ v. cut_at b v ≡ Some c.1) p h.cut;
  chosen = subst (λ r. IsNext r b c.0) e next;
  none = tt;
}
  where
    p : h.place ≡ c.0
    p = let e = h.is in omega arith

    from_t : (k : ℕ) → t ≤ k → cut_at b k ≡ None
    from_t k l = sym (dropped t b (k - t) k (omega (arith, l))) ∙ none (k - t)

    next : IsNext t b c.0
    next k s (inl q) = not_both (cut_at b k) (from_t k q.0) s
    next k s (inr (l, inl q)) = not_both (cut_at b k) (from_t k q) s
    next k s (inr (l, inr q)) = not_both (cut_at b k) (h.before k (omega (arith, p, q))) s

said_round : (n : ℕ) (b : List Bounds) (t : ℕ) → t ≡ n % length b → (o p : Option (ℕ × Extended)) → First t (drop t b) o → First 0 b p → IsChoice Round n b (or_else o p)
said_round n b t e None None h g = record { cut = tt; chosen = tt; none = g }
said_round n b t e None (Some c) h g = said_first n b t e h c g
said_round n b t e (Some c) p h g = said_later n b t e c h

pub said : (by : Bisector) (n : ℕ) (b : List Bounds) → IsChoice by n b (choose_of by n b)
unfolding choose_of
said Largest n b = said_widest n b (widest_from 0 b) (best_from 0 b)
said Round n b = said_round n b (n % length b) refl (first_from (n % length b) (drop (n % length b) b)) (first_from 0 b) (first_is (n % length b) (drop (n % length b) b)) (first_is 0 b)
