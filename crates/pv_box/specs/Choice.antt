-- Where a box is cut, and when it is small.
use Rattle.std.specs.Prelude.{◌≡◌, ◌⊎◌, ◌<◌, ◌≤◌, IsTrue, IsSome, IfSome, IfNone, option_and_then, slice_get, slice_index_or, ℕ, ◌+◌, ◌%◌, ◌+ℤ◌, ◌-ℤ◌, ◌*ℤ◌, ℤ, Bool, true, ◌&&◌, pos, Option, Some, None, List, [], ◌∷◌, length, drop, if◌then◌else◌}
use Rattle.pv_num.specs.Extended.{Extended, NegInf, Fin, PosInf}
use Rattle.pv_num.specs.Grid.{unit}
use Rattle.pv_num.specs.Order.{le, lt}
use Rattle.pv_num.specs.Rounding.{rounded}
use Rattle.pv_num.specs.Arithmetic.{middle_of}
use Rattle.pv_num.specs.declared.num.End.TheVariants.{Down, Up}
use Rattle.pv_interval.specs.Bounds.{Bounds, everything}
use Rattle.pv_interval.specs.Tables.{nought, width_of}
use Rattle.pv_box.specs.declared.choice.Candidate.{Candidate}
use Rattle.pv_box.specs.declared.choice.Bisector.{Bisector}
use Rattle.pv_box.specs.declared.choice.Bisector.TheVariants.{Largest, Round}

-- c, where it lies strictly between two ends
abbrev pub strictly_between : Extended → Extended → Extended → Option Extended
strictly_between lo c hi = if lt lo c && lt c hi then Some c else None

-- the cut of [-oo,h], all in units: 0 where h is above 0, else 2h - 1, which is exact until it is rounded down once
unfoldable pub cut_below : ℤ → Option Extended
cut_below h =
    if lt nought (Fin h) then Some nought
    else strictly_between NegInf (rounded Down (pos 2 *ℤ h -ℤ pos unit) 1) (Fin h)

-- the cut of [l,+oo], all in units: 0 where l is below 0, else 2l + 1, which is exact until it is rounded up once
unfoldable pub cut_above : ℤ → Option Extended
cut_above l =
    if lt (Fin l) nought then Some nought
    else strictly_between (Fin l) (rounded Up (pos 2 *ℤ l +ℤ pos unit) 1) PosInf

-- the cut between two ends; None where there is none
abbrev pub cut_between : Extended → Extended → Option Extended
cut_between NegInf NegInf = None
cut_between NegInf (Fin h) = cut_below h
cut_between NegInf PosInf = Some nought
cut_between (Fin l) NegInf = None
cut_between (Fin l) (Fin h) = middle_of (Fin l) (Fin h)
cut_between (Fin l) PosInf = cut_above l
cut_between PosInf h = None

-- a variable with a cut can be bisected
unfoldable pub cut_of : Bounds → Option Extended
cut_of x = cut_between x.lo x.hi

-- ---- The choice in words

-- where place v of a box is cut; None where it can't be, or where the box has no such place
abbrev pub cut_at : List Bounds → ℕ → Option Extended
cut_at b v = option_and_then cut_of (slice_get b v)

abbrev pub CanBeCut : List Bounds → ℕ → Type 0
CanBeCut b v = IsSome (cut_at b v)

abbrev pub width_at : List Bounds → ℕ → Extended
width_at b v = width_of (slice_index_or b v everything)

-- no place that can be cut is wider than place v, and none of equal width has a lower number
pub record IsWidest (b : List Bounds) (v : ℕ) : Type 0 where
  pub widest : (k : ℕ) → CanBeCut b k → IsTrue (le (width_at b k) (width_at b v))
  pub first : (k : ℕ) → CanBeCut b k → width_at b k ≡ width_at b v → v ≤ k

-- of the places below number n, whether or not they can be cut, v is the first of greatest width
pub record IsWidestBelow (n : ℕ) (b : List Bounds) (v : ℕ) : Type 0 where
  pub within : v < n
  pub widest : (k : ℕ) → k < n → IsTrue (le (width_at b k) (width_at b v))
  pub first : (k : ℕ) → k < n → width_at b k ≡ width_at b v → v ≤ k

-- going round from place t on, place k comes before place v
abbrev pub ComesBefore : ℕ → ℕ → ℕ → Type 0
ComesBefore t k v = ((t ≤ k) × (k < v)) ⊎ ((v < t) × ((t ≤ k) ⊎ (k < v)))

-- going round from place t on, no place that can be cut comes before place v
abbrev pub IsNext : ℕ → List Bounds → ℕ → Type 0
IsNext t b v = (k : ℕ) → CanBeCut b k → ComesBefore t k v → ⊥

-- of the places that can be cut, place v is the one to choose
abbrev pub IsChosen : Bisector → ℕ → List Bounds → ℕ → Type 0
IsChosen Largest path_len b v = IsWidest b v
IsChosen Round path_len b v = IsNext (path_len % length b) b v

-- a place that can be cut and its cut, the one to choose; None exactly where no place can be cut
pub record IsChoice (by : Bisector) (path_len : ℕ) (b : List Bounds) (o : Option (ℕ × Extended)) : Type 0 where
  pub cut : IfSome o (λ c. cut_at b c.0 ≡ Some c.1)
  pub chosen : IfSome o (λ c. IsChosen by path_len b c.0)
  pub none : IfNone o ((k : ℕ) → cut_at b k ≡ None)

-- ---- The choice as a function

-- the first one, if it is at least as wide as the best of the later ones
abbrev pub wider : Option Extended → ℕ → Extended → Option Candidate → Option Candidate
wider None i w best = best
wider (Some c) i w None = Some (record { var = i; at = c; width = w })
wider (Some c) i w (Some best) = if le best.width w then Some (record { var = i; at = c; width = w }) else Some best

-- of the places from number i on, one of greatest width that can be bisected, the first among equals
abbrev pub widest_from : ℕ → List Bounds → Option Candidate
widest_from i [] = None
widest_from i (x ∷ xs) = wider (cut_of x) i (width_of x) (widest_from (i + 1) xs)

abbrev pub choice_of : Option Candidate → Option (ℕ × Extended)
choice_of None = None
choice_of (Some c) = Some (c.var, c.at)

abbrev pub at_or_later : Option Extended → ℕ → Option (ℕ × Extended) → Option (ℕ × Extended)
at_or_later None i later = later
at_or_later (Some c) i later = Some (i, c)

-- the first place from number i on that can be bisected
abbrev pub first_from : ℕ → List Bounds → Option (ℕ × Extended)
first_from i [] = None
first_from i (x ∷ xs) = at_or_later (cut_of x) i (first_from (i + 1) xs)

abbrev pub or_else : Option (ℕ × Extended) → Option (ℕ × Extended) → Option (ℕ × Extended)
or_else None other = other
or_else (Some c) other = Some c

-- the first place at or behind number t that can be bisected, and else the first of all
abbrev pub round_from : ℕ → List Bounds → Option (ℕ × Extended)
round_from t b = or_else (first_from t (drop t b)) (first_from 0 b)

unfoldable pub choose_of : Bisector → ℕ → List Bounds → Option (ℕ × Extended)
choose_of Largest path_len b = choice_of (widest_from 0 b)
choose_of Round path_len b = round_from (path_len % length b) b

-- the function gives what the words say
abbrev pub ChoiceInWords : Type 0
ChoiceInWords = (by : Bisector) (path_len : ℕ) (b : List Bounds) → IsChoice by path_len b (choose_of by path_len b)

-- the width of each place is at most eps
abbrev pub is_small_of : Extended → List Bounds → Bool
is_small_of eps [] = true
is_small_of eps (x ∷ xs) = le (width_of x) eps && is_small_of eps xs
