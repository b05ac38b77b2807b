use Rattle.std.specs.Prelude.{◌≡◌, suc, zero, ℕ, ◌+◌, ◌-◌, ◌*◌, ◌/◌, ◌%◌, ◌^◌, ◌==◌, ℤ, pos, negsuc, neg_ℤ, ◌*ℤ◌, ◌<ℤ◌, ◌≤ℤ◌, Bool, ◌&&◌, ◌||◌, cond, nat_lt, Option, Some, None}
use Rattle.pv_num.specs.Extended.{Extended, NegInf, Fin, PosInf}
use Rattle.pv_num.specs.Grid.{IsGrid}
use Rattle.pv_num.specs.declared.num.End.{End}
use Rattle.pv_num.specs.declared.num.End.TheVariants.{Down, Up}

-- ---- What rounding is

-- n is the greatest format number that is at most a / b.
pub record IsGreatestBelow (a : ℤ) (b : ℕ) (n : ℤ) : Type 0 where
  pub grid : IsGrid n
  pub below : (n *ℤ pos b) ≤ℤ a
  pub greatest : (f : ℤ) → IsGrid f → (f *ℤ pos b) ≤ℤ a → f ≤ℤ n

-- n is the least format number that is at least a / b.
pub record IsLeastAbove (a : ℤ) (b : ℕ) (n : ℤ) : Type 0 where
  pub grid : IsGrid n
  pub above : a ≤ℤ (n *ℤ pos b)
  pub least : (f : ℤ) → IsGrid f → a ≤ℤ (f *ℤ pos b) → n ≤ℤ f

-- r is a / b rounded down: -oo where no format number is at most a / b.
abbrev pub IsDown : ℤ → ℕ → Extended → Type 0
IsDown a b NegInf = (f : ℤ) → IsGrid f → a <ℤ (f *ℤ pos b)
IsDown a b (Fin n) = IsGreatestBelow a b n
IsDown a b PosInf = ⊥

-- r is a / b rounded up: +oo where no format number is at least a / b.
abbrev pub IsUp : ℤ → ℕ → Extended → Type 0
IsUp a b NegInf = ⊥
IsUp a b (Fin n) = IsLeastAbove a b n
IsUp a b PosInf = (f : ℤ) → IsGrid f → (f *ℤ pos b) <ℤ a

abbrev pub IsRounded : End → ℤ → ℕ → Extended → Type 0
IsRounded Down a b r = IsDown a b r
IsRounded Up a b r = IsUp a b r

-- ---- The rounded number itself: found by going through the whole numbers one by one

-- The greatest number up to a bound that passes a test, or 0.
unfoldable pub greatest_upto : (ℕ → Bool) → ℕ → ℕ
greatest_upto p zero = 0
greatest_upto p (suc n) = cond (p (suc n)) (suc n) (greatest_upto p n)

-- The first of so many numbers, from n on, that passes a test.
unfoldable pub first_from : (ℕ → Bool) → ℕ → ℕ → Option ℕ
first_from p zero n = None
first_from p (suc count) n = cond (p n) (Some n) (first_from p count (suc n))

-- n is a multiple of 2 ^ k with a factor below 2 ^ 62, for some k up to a bound.
unfoldable pub is_size_within : ℕ → ℕ → Bool
is_size_within n zero = nat_lt n (2 ^ 62)
is_size_within n (suc k) = ((n % 2 ^ suc k == 0) && nat_lt (n / 2 ^ suc k) (2 ^ 62)) || is_size_within n k

-- n is the size of a format number.
unfoldable pub is_size : ℕ → Bool
is_size n = is_size_within n 962

-- The size of the greatest format number.
unfoldable pub top_size : ℕ
top_size = (2 ^ 62 - 1) * 2 ^ 962

unfoldable pub size_below : ℕ → ℕ
size_below n = greatest_upto is_size n

unfoldable pub size_above : ℕ → Option ℕ
size_above n = first_from is_size (suc top_size - n) n

abbrev pub at_most_minus : Option ℕ → Extended
at_most_minus None = NegInf
at_most_minus (Some n) = Fin (neg_ℤ (pos n))

abbrev pub at_least_plus : Option ℕ → Extended
at_least_plus None = PosInf
at_least_plus (Some n) = Fin (pos n)

-- a / b rounded to a side.
unfoldable pub rounded : End → ℤ → ℕ → Extended
rounded Down (pos n) b = Fin (pos (size_below (n / b)))
rounded Down (negsuc n) b = at_most_minus (size_above ((suc n + (b - 1)) / b))
rounded Up (pos n) b = at_least_plus (size_above ((n + (b - 1)) / b))
rounded Up (negsuc n) b = Fin (neg_ℤ (pos (size_below (suc n / b))))

-- Of each ratio `rounded` is the rounded number, and the only one.
pub record IsTheRounded (side : End) (a : ℤ) (b : ℕ) : Type 0 where
  pub is : IsRounded side a b (rounded side a b)
  pub one : (r : Extended) → IsRounded side a b r → r ≡ rounded side a b
