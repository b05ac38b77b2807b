-- A place of each box, from some box on.
use Rattle.std.proofs.Common.{◌≡◌, ℕ, zero, suc, ◌+◌, ◌<◌, ◌≤◌, List, [], ◌∷◌, length, get_or, drop, sym, ◌∙◌, ap, arith, refl, add-one}
use Rattle.pv_interval.specs.Bounds.{Bounds, everything}
use Rattle.std.specs.Prelude.{Bool, true, false, Option, None, if◌then◌else◌}
use Rattle.pv_num.specs.Extended.{Extended}
use Rattle.pv_interval.specs.Tables.{holds}
use Rattle.pv_box.specs.QHull.{column, count_holding, least_end, greatest_end, lower_of, upper_of, is_in_enough}
use Rattle.pv_box.proofs.Hulls.{in_range}

pub column_end : (k : ℕ) (bs : List (List Bounds)) (at : ℕ) → length bs ≤ at → drop at (column k bs) ≡ []
column_end k [] zero h = refl
column_end k [] (suc at) h = refl
column_end k (b ∷ bs) zero h = absurd (omega arith)
column_end k (b ∷ bs) (suc at) h = column_end k bs at (omega arith)

column_next : (k : ℕ) (bs : List (List Bounds)) (at : ℕ) (b : List Bounds) → at < length bs
    → drop at (column k bs) ≡ get_or (get_or bs at b) k everything ∷ drop (suc at) (column k bs)
column_next k [] at b h = absurd (omega arith)
column_next k (c ∷ bs) zero b h = refl
column_next k (c ∷ bs) (suc at) b h = column_next k bs at b (omega arith)

-- the box of number `at` is b, with x in place k
pub column_at : (k : ℕ) (bs : List (List Bounds)) (at : ℕ) (b : List Bounds) (x : Bounds) → at < length bs → b ≡ get_or bs at b
    → k < length b → x ≡ get_or b k x → drop at (column k bs) ≡ x ∷ drop (at + 1) (column k bs)
column_at k bs at b x h is l e =
    column_next k bs at b h
    ∙ ap (λ w. get_or w k everything ∷ drop (suc at) (column k bs)) (sym is)
    ∙ ap (λ w. w ∷ drop (suc at) (column k bs)) (in_range b k everything x l ∙ sym e)
    ∙ ap (λ w. x ∷ drop w (column k bs)) (sym (add-one at))

-- the same, by what the boxes are known for
pub column_row : (k : ℕ) (bs : List (List Bounds)) (at : ℕ) (b : List Bounds) (x : Bounds) → at < length bs → b ≡ get_or bs at b
    → k < length (get_or bs at b) → x ≡ get_or b k x → drop at (column k bs) ≡ x ∷ drop (at + 1) (column k bs)
column_row k bs at b x h is l e = column_at k bs at b x h is (let p = ap length is in omega arith) e

pub count_next : (n : Extended) (xs ys : List Bounds) (x : Bounds) → xs ≡ x ∷ ys
    → count_holding xs n ≡ (if holds x n then 1 else 0) + count_holding ys n
count_next n xs ys x e = ap (λ w. count_holding w n) e

pub count_end : (n : Extended) (xs : List Bounds) → xs ≡ [] → count_holding xs n ≡ 0
count_end n xs e = ap (λ w. count_holding w n) e

pub least_next : (q : ℕ) (all xs ys : List Bounds) (x : Bounds) → xs ≡ x ∷ ys
    → least_end q all xs ≡ lower_of (is_in_enough q all x.lo) x.lo (least_end q all ys)
least_next q all xs ys x e = ap (λ w. least_end q all w) e

pub least_none : (q : ℕ) (all xs : List Bounds) → xs ≡ [] → least_end q all xs ≡ None
least_none q all xs e = ap (λ w. least_end q all w) e

pub greatest_next : (q : ℕ) (all xs ys : List Bounds) (x : Bounds) → xs ≡ x ∷ ys
    → greatest_end q all xs ≡ upper_of (is_in_enough q all x.hi) x.hi (greatest_end q all ys)
greatest_next q all xs ys x e = ap (λ w. greatest_end q all w) e

pub greatest_none : (q : ℕ) (all xs : List Bounds) → xs ≡ [] → greatest_end q all xs ≡ None
greatest_none q all xs e = ap (λ w. greatest_end q all w) e

pub least_step : (q : ℕ) (all xs ys : List Bounds) (x : Bounds) (r best : Option Extended) (t : Bool) (e : Extended) → xs ≡ x ∷ ys
    → r ≡ lower_of t e best → t ≡ is_in_enough q all e → e ≡ x.lo → best ≡ least_end q all ys → r ≡ least_end q all xs
least_step q all xs ys x r best t e is h i j k =
    h ∙ ap (λ w. lower_of w e best) i ∙ ap (λ w. lower_of (is_in_enough q all w) w best) j
    ∙ ap (λ w. lower_of (is_in_enough q all x.lo) x.lo w) k ∙ sym (least_next q all xs ys x is)

pub greatest_step : (q : ℕ) (all xs ys : List Bounds) (x : Bounds) (r best : Option Extended) (t : Bool) (e : Extended) → xs ≡ x ∷ ys
    → r ≡ upper_of t e best → t ≡ is_in_enough q all e → e ≡ x.hi → best ≡ greatest_end q all ys → r ≡ greatest_end q all xs
greatest_step q all xs ys x r best t e is h i j k =
    h ∙ ap (λ w. upper_of w e best) i ∙ ap (λ w. upper_of (is_in_enough q all w) w best) j
    ∙ ap (λ w. upper_of (is_in_enough q all x.hi) x.hi w) k ∙ sym (greatest_next q all xs ys x is)

count_by : (s : Bool) (later rest : ℕ) → later ≡ rest → s ≡ true → later + 1 ≡ (if s then 1 else 0) + rest
count_by true later rest e h = omega arith
count_by false later rest e h = absurd (cc)

count_not : (s : Bool) (later rest : ℕ) → later ≡ rest → s ≡ false → later ≡ (if s then 1 else 0) + rest
count_not true later rest e h = absurd (cc)
count_not false later rest e h = omega arith

pub count_yes : (n : Extended) (xs ys : List Bounds) (x : Bounds) (later : ℕ) → xs ≡ x ∷ ys → later ≡ count_holding ys n
    → holds x n ≡ true → later + 1 ≡ count_holding xs n
count_yes n xs ys x later is e h = count_by (holds x n) later (count_holding ys n) e h ∙ sym (count_next n xs ys x is)

pub count_no : (n : Extended) (xs ys : List Bounds) (x : Bounds) (later : ℕ) → xs ≡ x ∷ ys → later ≡ count_holding ys n
    → holds x n ≡ false → later ≡ count_holding xs n
count_no n xs ys x later is e h = count_not (holds x n) later (count_holding ys n) e h ∙ sym (count_next n xs ys x is)
