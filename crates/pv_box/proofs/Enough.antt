-- Ends that lie in enough intervals. Of what lies in at least q intervals, a number or an end, take the greatest of
-- their lower ends, which lies in all of them, and the least of their upper ends.
use Rattle.std.proofs.Common.{◌≡◌, ℕ, zero, suc, ◌≤◌, List, [], ◌∷◌, sym, ◌∙◌, ap, subst, arith, refl, ◌⊎◌, inl, inr, cond}
use Rattle.std.specs.Prelude.{option_and_then, IsTrue, Bool, true, false, ◌&&◌, Option, Some, None}
use Rattle.std.proofs.lemmas.Bool.{le-leb}
use Rattle.pv_num.specs.Extended.{Extended, NegInf, PosInf}
use Rattle.pv_num.specs.Order.{le, lt, lesser, greater}
use Rattle.pv_interval.specs.Bounds.{Bounds, between, interval_from}
use Rattle.pv_interval.specs.Tables.{holds}
use Rattle.pv_interval.proofs.Ends.{le_refl, le_trans}
use Rattle.pv_interval.proofs.Choices.{lesser_left, lesser_right, greater_left, greater_right, lesser_either, greater_either}
use Rattle.pv_box.specs.QHull.{count_holding, is_in_enough, lower_of, upper_of, least_end, greatest_end, place_hull_of}

-- B is to be at most something, and A is to be at least that
pub record IsSplit (B A : Extended → Type 0) : Type 0 where
  pub cross : (e f : Extended) → B e → A f → IsTrue (le e f)
  pub down : (e f : Extended) → IsTrue (le e f) → B f → B e
  pub up : (e f : Extended) → IsTrue (le e f) → A e → A f
  pub low_open : (e : Extended) → B e → lt e PosInf ≡ true
  pub high_open : (e : Extended) → A e → lt NegInf e ≡ true

-- at least q of the intervals lie round it
abbrev pub AtLeast : (Extended → Type 0) → (Extended → Type 0) → ℕ → List Bounds → Type 0
AtLeast B A zero xs = Unit {0}
AtLeast B A (suc q) [] = ⊥
AtLeast B A (suc q) (x ∷ xs) = ((B x.lo × A x.hi) × AtLeast B A q xs) ⊎ AtLeast B A (suc q) xs

holds_yes : (x : Bounds) (e : Extended) → IsTrue (le x.lo e) → IsTrue (le e x.hi) → holds x e ≡ true
holds_yes x e h k = ap (λ w. w && le e x.hi) h ∙ k

count_more : (x : Bounds) (xs : List Bounds) (e : Extended) (m : ℕ) → m ≤ count_holding xs e → m ≤ count_holding (x ∷ xs) e
count_more x xs e m h = omega arith

count_one_more : (x : Bounds) (xs : List Bounds) (e : Extended) (m : ℕ) → holds x e ≡ true → m ≤ count_holding xs e
    → suc m ≤ count_holding (x ∷ xs) e
count_one_more x xs e m t h = let p = ap {B = ℕ} (λ w. cond w 1 0) t in omega (arith, p)

enough : (q : ℕ) (xs : List Bounds) (e : Extended) → q ≤ count_holding xs e → is_in_enough q xs e ≡ true
enough q xs e h = le-leb _ _ h

-- ---- The lower end

abbrev IsLowerEnd : Extended → List Bounds → Type 0
IsLowerEnd e [] = ⊥
IsLowerEnd e (x ∷ xs) = (e ≡ x.lo) ⊎ IsLowerEnd e xs

-- a lower end below it; what lies between the end and it lies in at least q of the intervals
record LowerEnd (B : Extended → Type 0) (q : ℕ) (xs : List Bounds) : Type 0 where
  pub at : Extended
  pub is : IsLowerEnd at xs
  pub low : B at
  pub counted : (f : Extended) → IsTrue (le at f) → B f → q ≤ count_holding xs f

first_lower : (B A : Extended → Type 0) (s : IsSplit B A) (x : Bounds) (xs : List Bounds) → B x.lo → A x.hi → LowerEnd B 1 (x ∷ xs)
first_lower B A s x xs h g = record {
  at = x.lo;
  is = inl refl;
  low = h;
  counted = λ f k l. count_one_more x xs f 0 (holds_yes x f k (s.cross f x.hi l g)) (omega arith);
}

next_lower : (B A : Extended → Type 0) (s : IsSplit B A) (q : ℕ) (x : Bounds) (xs : List Bounds) → B x.lo → A x.hi → LowerEnd B q xs
    → LowerEnd B (suc q) (x ∷ xs)
next_lower B A s q x xs h g r = record {
  at = greater x.lo r.at;
  is = greater_either (λ e. IsLowerEnd e (x ∷ xs)) x.lo r.at (inl refl) (inr r.is);
  low = greater_either B x.lo r.at h r.low;
  counted = λ f k l.
      count_one_more x xs f q
      (holds_yes x f (le_trans x.lo (greater x.lo r.at) f (greater_left x.lo r.at) k) (s.cross f x.hi l g))
      (r.counted f (le_trans r.at (greater x.lo r.at) f (greater_right x.lo r.at) k) l);
}

later_lower : (B : Extended → Type 0) (q : ℕ) (x : Bounds) (xs : List Bounds) → LowerEnd B q xs → LowerEnd B q (x ∷ xs)
later_lower B q x xs r = record {
  at = r.at;
  is = inr r.is;
  low = r.low;
  counted = λ f k l. count_more x xs f q (r.counted f k l);
}

lower_end : (B A : Extended → Type 0) (s : IsSplit B A) (q : ℕ) (xs : List Bounds) → AtLeast B A (suc q) xs → LowerEnd B (suc q) xs
lower_end B A s q [] h = absurd h
lower_end B A s zero (x ∷ xs) (inl h) = first_lower B A s x xs h.0.0 h.0.1
lower_end B A s (suc q) (x ∷ xs) (inl h) = next_lower B A s (suc q) x xs h.0.0 h.0.1 (lower_end B A s q xs h.1)
lower_end B A s q (x ∷ xs) (inr h) = later_lower B (suc q) x xs (lower_end B A s q xs h)

-- an answer that is there and at most e
abbrev IsUpTo : Extended → Option Extended → Type 0
IsUpTo e None = ⊥
IsUpTo e (Some g) = IsTrue (le g e)

takes_lower : (t : Bool) (e : Extended) (best : Option Extended) → t ≡ true → IsUpTo e (lower_of t e best)
takes_lower false e best h = absurd (cc)
takes_lower true e None h = le_refl e
takes_lower true e (Some f) h = lesser_left e f

keeps_lower : (t : Bool) (e f : Extended) (best : Option Extended) → IsUpTo e best → IsUpTo e (lower_of t f best)
keeps_lower false e f best h = h
keeps_lower true e f None h = absurd h
keeps_lower true e f (Some g) h = le_trans (lesser f g) g e (lesser_right f g) h

least_upto : (q : ℕ) (all xs : List Bounds) (e : Extended) → is_in_enough q all e ≡ true → IsLowerEnd e xs → IsUpTo e (least_end q all xs)
least_upto q all [] e h k = absurd k
least_upto q all (x ∷ xs) e h (inl k) =
    subst (λ w. IsUpTo w (lower_of (is_in_enough q all x.lo) x.lo (least_end q all xs))) (sym k)
    (takes_lower (is_in_enough q all x.lo) x.lo (least_end q all xs) (ap (λ w. is_in_enough q all w) (sym k) ∙ h))
least_upto q all (x ∷ xs) e h (inr k) =
    keeps_lower (is_in_enough q all x.lo) e x.lo (least_end q all xs) (least_upto q all xs e h k)

-- ---- The upper end

abbrev IsUpperEnd : Extended → List Bounds → Type 0
IsUpperEnd e [] = ⊥
IsUpperEnd e (x ∷ xs) = (e ≡ x.hi) ⊎ IsUpperEnd e xs

record UpperEnd (A : Extended → Type 0) (q : ℕ) (xs : List Bounds) : Type 0 where
  pub at : Extended
  pub is : IsUpperEnd at xs
  pub high : A at
  pub counted : (f : Extended) → IsTrue (le f at) → A f → q ≤ count_holding xs f

first_upper : (B A : Extended → Type 0) (s : IsSplit B A) (x : Bounds) (xs : List Bounds) → B x.lo → A x.hi → UpperEnd A 1 (x ∷ xs)
first_upper B A s x xs h g = record {
  at = x.hi;
  is = inl refl;
  high = g;
  counted = λ f k l. count_one_more x xs f 0 (holds_yes x f (s.cross x.lo f h l) k) (omega arith);
}

next_upper : (B A : Extended → Type 0) (s : IsSplit B A) (q : ℕ) (x : Bounds) (xs : List Bounds) → B x.lo → A x.hi → UpperEnd A q xs
    → UpperEnd A (suc q) (x ∷ xs)
next_upper B A s q x xs h g r = record {
  at = lesser x.hi r.at;
  is = lesser_either (λ e. IsUpperEnd e (x ∷ xs)) x.hi r.at (inl refl) (inr r.is);
  high = lesser_either A x.hi r.at g r.high;
  counted = λ f k l.
      count_one_more x xs f q
      (holds_yes x f (s.cross x.lo f h l) (le_trans f (lesser x.hi r.at) x.hi k (lesser_left x.hi r.at)))
      (r.counted f (le_trans f (lesser x.hi r.at) r.at k (lesser_right x.hi r.at)) l);
}

later_upper : (A : Extended → Type 0) (q : ℕ) (x : Bounds) (xs : List Bounds) → UpperEnd A q xs → UpperEnd A q (x ∷ xs)
later_upper A q x xs r = record {
  at = r.at;
  is = inr r.is;
  high = r.high;
  counted = λ f k l. count_more x xs f q (r.counted f k l);
}

upper_end : (B A : Extended → Type 0) (s : IsSplit B A) (q : ℕ) (xs : List Bounds) → AtLeast B A (suc q) xs → UpperEnd A (suc q) xs
upper_end B A s q [] h = absurd h
upper_end B A s zero (x ∷ xs) (inl h) = first_upper B A s x xs h.0.0 h.0.1
upper_end B A s (suc q) (x ∷ xs) (inl h) = next_upper B A s (suc q) x xs h.0.0 h.0.1 (upper_end B A s q xs h.1)
upper_end B A s q (x ∷ xs) (inr h) = later_upper A (suc q) x xs (upper_end B A s q xs h)

-- an answer that is there and at least e
abbrev IsFrom : Extended → Option Extended → Type 0
IsFrom e None = ⊥
IsFrom e (Some g) = IsTrue (le e g)

takes_upper : (t : Bool) (e : Extended) (best : Option Extended) → t ≡ true → IsFrom e (upper_of t e best)
takes_upper false e best h = absurd (cc)
takes_upper true e None h = le_refl e
takes_upper true e (Some f) h = greater_left e f

keeps_upper : (t : Bool) (e f : Extended) (best : Option Extended) → IsFrom e best → IsFrom e (upper_of t f best)
keeps_upper false e f best h = h
keeps_upper true e f None h = absurd h
keeps_upper true e f (Some g) h = le_trans e g (greater f g) h (greater_right f g)

greatest_from : (q : ℕ) (all xs : List Bounds) (e : Extended) → is_in_enough q all e ≡ true → IsUpperEnd e xs → IsFrom e (greatest_end q all xs)
greatest_from q all [] e h k = absurd k
greatest_from q all (x ∷ xs) e h (inl k) =
    subst (λ w. IsFrom w (upper_of (is_in_enough q all x.hi) x.hi (greatest_end q all xs))) (sym k)
    (takes_upper (is_in_enough q all x.hi) x.hi (greatest_end q all xs) (ap (λ w. is_in_enough q all w) (sym k) ∙ h))
greatest_from q all (x ∷ xs) e h (inr k) =
    keeps_upper (is_in_enough q all x.hi) e x.hi (greatest_end q all xs) (greatest_from q all xs e h k)

-- ---- The hull of one place

-- an interval that is there, and lies round it
pub record IsRound (B A : Extended → Type 0) (o : Option Bounds) : Type 0 where
  pub part : Bounds
  pub is : o ≡ Some part
  pub low : B part.lo
  pub high : A part.hi

pub if_all : (r s t : Bool) (x : Bounds) → r ≡ true → s ≡ true → t ≡ true → cond (r && (s && t)) (Some x) None ≡ Some x
if_all true true true x e f g = refl
if_all true true false x e f g = absurd (cc)
if_all true false t x e f g = absurd (cc)
if_all false s t x e f g = absurd (cc)

ends_hold : (B A : Extended → Type 0) (s : IsSplit B A) (l h : Extended) → B l → A h → IsRound B A (interval_from l h)
ends_hold B A s l h low high = record {
  part = between l h;
  is = if_all (le l h) (lt l PosInf) (lt NegInf h) (between l h) (s.cross l h low high) (s.low_open l low) (s.high_open h high);
  low = low;
  high = high;
}

both_ends : (B A : Extended → Type 0) (s : IsSplit B A) (l h : Option Extended) (e f : Extended) → IsUpTo e l → B e → IsFrom f h → A f
    → IsRound B A (option_and_then (λ a. option_and_then (λ b. interval_from a b) h) l)
both_ends B A s None h e f p low q high = absurd p
both_ends B A s (Some a) None e f p low q high = absurd q
both_ends B A s (Some a) (Some b) e f p low q high = ends_hold B A s a b (s.down a e p low) (s.up f b q high)

pub place_round : (B A : Extended → Type 0) (s : IsSplit B A) (q : ℕ) (xs : List Bounds) → 1 ≤ q → AtLeast B A q xs
    → IsRound B A (place_hull_of q xs)
unfolding place_hull_of
place_round B A s zero xs some h = absurd (omega arith)
place_round B A s (suc q) xs some h =
    let l = lower_end B A s q xs h in
    let u = upper_end B A s q xs h in
    both_ends B A s (least_end (suc q) xs xs) (greatest_end (suc q) xs xs) l.at u.at
    (least_upto (suc q) xs xs l.at (enough (suc q) xs l.at (l.counted l.at (le_refl l.at) l.low)) l.is) l.low
    (greatest_from (suc q) xs xs u.at (enough (suc q) xs u.at (u.counted u.at (le_refl u.at) u.high)) u.is) u.high
