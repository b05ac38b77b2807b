-- The q-hull is there exactly where each place has an end that lies in at least q of the intervals.
use Rattle.std.proofs.Common.{◌≡◌, ◌≢◌, ℕ, zero, suc, ◌+◌, ◌<◌, ◌≤◌, List, [], ◌∷◌, length, get_or, sym, ap, subst, arith, refl, inl, inr, cond, rules}
use Rattle.std.specs.Prelude.{option_and_then, All, IsTrue, Bool, true, false, Option, Some, None, IfSome, IsSome}
use Rattle.std.proofs.lemmas.Bool.{leb-true, and_parts, cases_Bool}
use Rattle.std.proofs.lemmas.Option.{IfSome_then}
use Rattle.pv_num.specs.Extended.{Extended, NegInf, Fin, PosInf}
use Rattle.pv_num.specs.Order.{le, lt}
use Rattle.pv_interval.specs.Bounds.{Bounds, IsInterval, everything, interval_from}
use Rattle.pv_interval.specs.Tables.{holds}
use Rattle.pv_interval.proofs.Ends.{le_trans}
use Rattle.pv_interval.proofs.Choices.{lesser_either}
use Rattle.pv_box.specs.Boxes.{IsBox}
use Rattle.pv_box.specs.QHull.{column, count_holding, is_in_enough, lower_of, least_end, greatest_end, place_hull_of, places_from, q_hull_of}
use Rattle.pv_box.specs.Members.{IsEnd, HasEnd, HullIsThere, HullIsMissing}
use Rattle.pv_box.proofs.Enough.{IsSplit, AtLeast, place_round}
use Rattle.pv_box.proofs.Places.{hull_missing}

-- ---- Round an end

-- a lower end at most e, and an upper one at least e
abbrev IsFrom : Extended → Extended → Type 0
IsFrom e l = IsTrue (le l e) × (lt l PosInf ≡ true)

abbrev IsTo : Extended → Extended → Type 0
IsTo e h = IsTrue (le e h) × (lt NegInf h ≡ true)

open_down : (a b : Extended) → IsTrue (le a b) → lt b PosInf ≡ true → lt a PosInf ≡ true
open_down NegInf b h k = refl
open_down (Fin a) b h k = refl
open_down PosInf NegInf h k = absurd (search rules)
open_down PosInf (Fin b) h k = absurd (search rules)
open_down PosInf PosInf h k = absurd (search rules)

open_up : (a b : Extended) → IsTrue (le a b) → lt NegInf a ≡ true → lt NegInf b ≡ true
open_up a PosInf h k = refl
open_up a (Fin b) h k = refl
open_up NegInf NegInf h k = absurd (search rules)
open_up (Fin a) NegInf h k = absurd (search rules)
open_up PosInf NegInf h k = absurd (search rules)

split_by : (e : Extended) → IsSplit (IsFrom e) (IsTo e)
split_by e = record {
  cross = λ a b h k. le_trans a e b h.0 k.0;
  down = λ a b h k. (le_trans a b e h k.0, open_down a b h k.1);
  up = λ a b h k. (le_trans e a b k.0 h, open_up a b h k.1);
  low_open = λ a h. h.1;
  high_open = λ a h. h.1;
}

lo_open : (e : Extended) → e ≢ PosInf → lt e PosInf ≡ true
lo_open NegInf h = refl
lo_open (Fin e) h = refl
lo_open PosInf h = absurd (h refl)

hi_open : (e : Extended) → e ≢ NegInf → lt NegInf e ≡ true
hi_open NegInf h = absurd (h refl)
hi_open (Fin e) h = refl
hi_open PosInf h = refl

round_one : (e : Extended) (x : Bounds) → IsInterval x → holds x e ≡ true → IsFrom e x.lo × IsTo e x.hi
round_one e x i h =
    let p = and_parts (le x.lo e) (le e x.hi) h in
    ((p.0, lo_open x.lo i.lo_open), (p.1, hi_open x.hi i.hi_open))

counted : (q : ℕ) (e : Extended) (xs : List Bounds) → All IsInterval xs → q ≤ count_holding xs e → AtLeast (IsFrom e) (IsTo e) q xs
counted zero e xs i h = tt
counted (suc q) e [] i h = absurd (omega arith)
counted (suc q) e (x ∷ xs) i h = elim (cases_Bool (holds x e)) [
  | inl t ↦
      let p = ap {B = ℕ} (λ w. cond w 1 0) t in
      inl (round_one e x (i 0 x (omega arith)) t, counted q e xs (λ j d l. i (suc j) d (omega arith)) (omega (arith, p, h)))
  | inr t ↦
      let p = ap {B = ℕ} (λ w. cond w 1 0) t in
      inr (counted (suc q) e xs (λ j d l. i (suc j) d (omega arith)) (omega (arith, p, h)))
]

column_interval : (k m : ℕ) (bs : List (List Bounds)) → All IsBox bs → All (λ b. length b ≡ m) bs → k < m
    → (i : ℕ) (d : Bounds) → i < length (column k bs) → IsInterval (get_or (column k bs) i d)
column_interval k m [] e s l i d r = absurd (omega arith)
column_interval k m (b ∷ bs) e s l zero d r =
    let same : length b ≡ m = s 0 b (omega arith) in
    (e 0 b (omega arith)).intervals k everything (omega (arith, same, l))
column_interval k m (b ∷ bs) e s l (suc i) d r =
    column_interval k m bs (λ j c t. e (suc j) c (omega arith)) (λ j c t. s (suc j) c (omega arith)) l i d (omega arith)

is_there : (o : Option Bounds) (x : Bounds) → o ≡ Some x → IsSome o
is_there None x e = absurd (cc)
is_there (Some y) x e = refl

place_there : (q : ℕ) (xs : List Bounds) → 1 ≤ q → All IsInterval xs → HasEnd q xs → IsSome (place_hull_of q xs)
place_there q xs some i h =
    let r = place_round (IsFrom h.at) (IsTo h.at) (split_by h.at) q xs some (counted q h.at xs i h.enough) in
    is_there (place_hull_of q xs) r.part r.is

both_there : (o : Option Bounds) (r : Option (List Bounds)) → IsSome o → IsSome r → IsSome (option_and_then (λ x. option_and_then (λ xs. Some (x ∷ xs)) r) o)
both_there None r h k = absurd (cc)
both_there (Some x) None h k = absurd (cc)
both_there (Some x) (Some xs) h k = refl

places_there : (q k n : ℕ) (bs : List (List Bounds)) → ((j : ℕ) → j < n → IsSome (place_hull_of q (column (k + j) bs)))
    → IsSome (places_from q k n bs)
places_there q k zero bs h = refl
places_there q k (suc n) bs h =
    let z : k + 0 ≡ k = omega arith in
    both_there (place_hull_of q (column k bs)) (places_from q (k + 1) n bs)
    (subst (λ w. IsSome (place_hull_of q (column w bs))) z (h 0 (omega arith)))
    (places_there q (k + 1) n bs (λ j l.
    let y : k + suc j ≡ k + 1 + j = omega arith in
    subst (λ w. IsSome (place_hull_of q (column w bs))) y (h (suc j) (omega arith))))

pub hull-there : HullIsThere
unfolding q_hull_of
hull-there q bs some e s h =
    let m = length (get_or bs 0 []) in
    places_there q 0 m bs (λ j l.
    let y : j ≡ 0 + j = omega arith in
    subst (λ w. IsSome (place_hull_of q (column w bs))) y
    (place_there q (column j bs) some (column_interval j m bs e s l) (h j l)))

-- ---- No end

pick_lower : (P : Extended → Type 0) (t : Bool) (e : Extended) (best : Option Extended) → (t ≡ true → P e) → IfSome best P
    → IfSome (lower_of t e best) P
pick_lower P false e best f h = h
pick_lower P true e None f h = f refl
pick_lower P true e (Some g) f h = lesser_either P e g (f refl) h

least_is_end : (q : ℕ) (all xs : List Bounds) → IfSome (least_end q all xs) (λ l. IsEnd l xs × (q ≤ count_holding all l))
least_is_end q all [] = tt
least_is_end q all (x ∷ xs) =
    pick_lower (λ l. IsEnd l (x ∷ xs) × (q ≤ count_holding all l)) (is_in_enough q all x.lo) x.lo (least_end q all xs)
    (λ t. (inl refl, leb-true _ _ t))
    (IfSome_then (least_end q all xs) (least_is_end q all xs) (λ l h. (inr (inr h.0), h.1)))

no_first : (o : Option Extended) (f : Extended → Option Bounds) → IfSome o (λ l. ⊥) → option_and_then f o ≡ None
no_first None f h = refl
no_first (Some l) f h = absurd h

place_missing : (q : ℕ) (xs : List Bounds) → (HasEnd q xs → ⊥) → place_hull_of q xs ≡ None
unfolding place_hull_of
place_missing q xs none =
    no_first (least_end q xs xs) (λ l. option_and_then (λ h. interval_from l h) (greatest_end q xs xs))
    (IfSome_then (least_end q xs xs) (least_is_end q xs xs) (λ l h. none (record { at = l; is = h.0; enough = h.1 })))

pub hull-missing : HullIsMissing
hull-missing q bs k l none = sym (hull_missing q bs k l (place_missing q (column k bs) none))
