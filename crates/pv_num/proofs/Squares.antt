-- Squares beyond a number, and the index of the whole part of a square root.
use Rattle.std.proofs.Common.{◌≡◌, ◌≢◌, ℕ, suc, ◌+◌, ◌-◌, ◌*◌, ◌/◌, ◌%◌, ◌^◌, ◌<◌, ◌≤◌, IsTrue, Bool, true, false, not, arith, refl, ap, sym, subst, ◌∙◌, pos, negsuc, neg_ℤ, ◌≤ℤ◌, inl, inr}
use Rattle.std.proofs.lemmas.Int.{ints}
use Rattle.std.proofs.lemmas.Bool.{cases_lt}
use Rattle.std.proofs.lemmas.Bool.Decides.{eqb_tells}
use Rattle.std.proofs.Math.Dec.{eqb}
use Rattle.std.proofs.lemmas.Nat.{pow_pos, pow-add}
use Rattle.std.proofs.Math.Nat.{mul-le-mul, mul-pos, mul_assoc}
use Rattle.std.proofs.Math.IntN.{negsuc-*ℤ-pos}
use Rattle.pv_num.specs.Extended.{Extended, NegInf, Fin, PosInf}
use Rattle.pv_num.specs.Grid.{IsGridSize, unit}
use Rattle.pv_num.specs.Order.{le}
use Rattle.pv_num.specs.Rounding.{rounded}
use Rattle.pv_num.specs.Roots.{IsSquareOf, exponent_at, first_index, is_reached, mantissa_at, size_at}
use Rattle.pv_num.specs.declared.num.End.{End}
use Rattle.pv_num.specs.declared.num.End.TheVariants.{Down, Up}
use Rattle.pv_num.proofs.Monotone.{IsAtLeast, IsAtMost, rounded-at_least, rounded-at_most, rounded-grid, rounded-monotone}
use Rattle.pv_num.proofs.Orders.{le-Fin}
use Rattle.pv_num.proofs.Rounds.{is_grid}
use Rattle.pv_num.proofs.Scales.{by_unit, unit_pos}
use Rattle.pv_num.proofs.Searches.{same_block, size_at-suc}
use Rattle.pv_num.proofs.Signs.{le_pos, pos_le}

refuted : (b : Bool) → (IsTrue b → ⊥) → b ≡ false
refuted true h = absurd (h refl)
refuted false h = refl

-- ---- A square beside a number

times_unit : (a b u : ℕ) → a ≤ b → a * u ≤ b * u
times_unit a b u h = mul-le-mul h (omega arith)

beyond : (r : Extended) (f n : ℕ) → IsAtLeast r (pos (f * f)) unit → n * unit < f * f → le r (Fin (pos n)) ≡ false
beyond NegInf f n h k = absurd h
beyond (Fin (pos a)) f n h k = refuted (le (Fin (pos a)) (Fin (pos n))) (λ l.
    let m : a * unit ≤ n * unit = times_unit a n unit (le_pos a n (le-Fin (pos a) (pos n) l)) in
    let s : f * f ≤ a * unit = le_pos (f * f) (a * unit) h in
    omega (arith, m, s, k))
beyond (Fin (negsuc a)) f n h k =
    let s : pos (f * f) ≤ℤ neg_ℤ (pos (suc a * unit)) = subst (λ x. pos (f * f) ≤ℤ x) (negsuc-*ℤ-pos a unit) h in
    absurd (omega (arith, ints, s, k))
beyond PosInf f n h k = refl

short : (r : Extended) (f n : ℕ) → IsAtMost r (pos (f * f)) unit → f * f < n * unit → le (Fin (pos n)) r ≡ false
short NegInf f n h k = refl
short (Fin (pos a)) f n h k = refuted (le (Fin (pos n)) (Fin (pos a))) (λ l.
    let m : n * unit ≤ a * unit = times_unit n a unit (le_pos n a (le-Fin (pos n) (pos a) l)) in
    let s : a * unit ≤ f * f = le_pos (a * unit) (f * f) h in
    omega (arith, m, s, k))
short (Fin (negsuc a)) f n h k = refl
short PosInf f n h k = absurd h

down_within : (f n : ℕ) → IsGridSize n → f * f ≤ n * unit → is_reached Down (Fin (pos n)) 2 f ≡ false
down_within f n g h =
    ap not (subst (λ e. IsTrue (le (rounded Up (pos (f * f)) unit) e)) (rounded-grid Up (pos n) unit unit_pos g)
    (rounded-monotone Up (pos (f * f)) (pos (n * unit)) unit unit_pos (pos_le (f * f) (n * unit) h)))

down_beyond : (f n : ℕ) → n * unit < f * f → is_reached Down (Fin (pos n)) 2 f ≡ true
down_beyond f n h = ap not (beyond (rounded Up (pos (f * f)) unit) f n (rounded-at_least (pos (f * f)) unit unit_pos) h)

up_enough : (f n : ℕ) → IsGridSize n → n * unit ≤ f * f → is_reached Up (Fin (pos n)) 2 f ≡ true
up_enough f n g h =
    subst (λ e. IsTrue (le e (rounded Down (pos (f * f)) unit))) (rounded-grid Down (pos n) unit unit_pos g)
    (rounded-monotone Down (pos (n * unit)) (pos (f * f)) unit unit_pos (pos_le (n * unit) (f * f) h))

up_short : (f n : ℕ) → f * f < n * unit → is_reached Up (Fin (pos n)) 2 f ≡ false
up_short f n h = short (rounded Down (pos (f * f)) unit) f n (rounded-at_most (pos (f * f)) unit unit_pos) h

-- ---- The sizes about a root

pub root_block : (t r : ℕ) → 2 ^ 61 ≤ r → r < 2 ^ 62 → (t * 2 ^ 61 + r) / 2 ^ 61 ≡ t + 1
root_block t r h k = same_block (t * 2 ^ 61 + r) (t + 1) (r - 2 ^ 61) (omega arith) (omega arith)

root_exponent : (t r : ℕ) → 2 ^ 61 ≤ r → r < 2 ^ 62 → exponent_at (t * 2 ^ 61 + r) ≡ t
root_exponent t r h k = ap (λ b. b - 1) (root_block t r h k) ∙ omega arith

root_mantissa : (t r : ℕ) → 2 ^ 61 ≤ r → r < 2 ^ 62 → mantissa_at (t * 2 ^ 61 + r) ≡ r
root_mantissa t r h k = ap (λ e. t * 2 ^ 61 + r - e * 2 ^ 61) (root_exponent t r h k) ∙ omega arith

size_here : (t r : ℕ) → 2 ^ 61 ≤ r → r < 2 ^ 62 → size_at (t * 2 ^ 61 + r) ≡ r * 2 ^ t
size_here t r h k = ap (λ m. m * 2 ^ exponent_at (t * 2 ^ 61 + r)) (root_mantissa t r h k) ∙ ap (λ e. r * 2 ^ e) (root_exponent t r h k)

size_after : (t r : ℕ) → 2 ^ 61 ≤ r → r < 2 ^ 62 → size_at (t * 2 ^ 61 + r + 1) ≡ (r + 1) * 2 ^ t
size_after t r h k =
    let next : t * 2 ^ 61 + r + 1 ≡ suc (t * 2 ^ 61 + r) = omega arith in
    ap size_at next ∙ size_at-suc (t * 2 ^ 61 + r)
    ∙ ap (λ m. (m + 1) * 2 ^ exponent_at (t * 2 ^ 61 + r)) (root_mantissa t r h k) ∙ ap (λ e. (r + 1) * 2 ^ e) (root_exponent t r h k)

one_more : (a p : ℕ) → (a + 1) * p ≡ a * p + p
one_more a p = grind arith

below_that : (a b c : ℕ) → a < b → b ≤ c → a < c
below_that a b c h k = omega arith

same_most : (a w : ℕ) → a ≡ w → w ≤ a
same_most a w e = omega arith

less_most : (a b : ℕ) → a < b → a ≤ b
less_most a b h = omega arith

grows : (j : ℕ) → size_at j < size_at (suc j)
grows j =
    let more : (mantissa_at j + 1) * 2 ^ exponent_at j ≡ mantissa_at j * 2 ^ exponent_at j + 2 ^ exponent_at j = one_more (mantissa_at j) (2 ^ exponent_at j) in
    let some : 0 < 2 ^ exponent_at j = pow_pos (exponent_at j) in
    omega (arith, size_at-suc j, more, some)

-- ---- The first index

-- r is the whole part of the square root of w, and m times 2^k, times 2^512, is w times the square of 2^t
pub record IsWholeRoot (m k w t r : ℕ) : Type 0 where
  pub square : IsSquareOf m k w t
  pub grid : IsGridSize (m * 2 ^ k)
  pub least : 2 ^ 61 ≤ r
  pub most : r < 2 ^ 62
  pub within : r * r ≤ w
  pub next : w < (r + 1) * (r + 1)

scaled : (m k w t r : ℕ) → IsWholeRoot m k w t r → m * 2 ^ k * unit ≡ w * (2 ^ t * 2 ^ t)
scaled m k w t r h = sym (by_unit m k) ∙ h.square

regrouped : (r p : ℕ) → r * p * (r * p) ≡ r * r * (p * p)
regrouped r p = grind arith

at_most : (s w p v : ℕ) → v ≡ w * (p * p) → s * s ≤ w → s * p * (s * p) ≤ v
at_most s w p v e h =
    let a : s * s * (p * p) ≤ w * (p * p) = mul-le-mul h (omega arith) in
    omega (arith, e, regrouped s p, a)

at_least : (s w p v : ℕ) → v ≡ w * (p * p) → w ≤ s * s → v ≤ s * p * (s * p)
at_least s w p v e h =
    let a : w * (p * p) ≤ s * s * (p * p) = mul-le-mul h (omega arith) in
    omega (arith, e, regrouped s p, a)

above : (s w p v : ℕ) → 0 < p → v ≡ w * (p * p) → w < s * s → v < s * p * (s * p)
above s w p v some e h =
    let x : w + 1 ≤ s * s = omega (arith, h) in
    let a : (w + 1) * (p * p) ≤ s * s * (p * p) = mul-le-mul x (omega arith) in
    let b : (w + 1) * (p * p) ≡ w * (p * p) + p * p = one_more w (p * p) in
    let c : 0 < p * p = mul-pos some some in
    omega (arith, e, regrouped s p, a, b, c)

under : (s w p v : ℕ) → 0 < p → v ≡ w * (p * p) → s * s < w → s * p * (s * p) < v
under s w p v some e h =
    let x : s * s + 1 ≤ w = omega (arith, h) in
    let a : (s * s + 1) * (p * p) ≤ w * (p * p) = mul-le-mul x (omega arith) in
    let b : (s * s + 1) * (p * p) ≡ s * s * (p * p) + p * p = one_more (s * s) (p * p) in
    let c : 0 < p * p = mul-pos some some in
    omega (arith, e, regrouped s p, a, b, c)

smaller_square : (f g : ℕ) → f < g → f * f < g * g
smaller_square f g h =
    let x : f + 1 ≤ g = omega (arith, h) in
    let a : (f + 1) * (f + 1) ≤ g * g = mul-le-mul x x in
    let b : (f + 1) * (f + 1) ≡ f * f + f + f + 1 = grind arith in
    omega (arith, a, b)

pub record IsFirst (side : End) (n i : ℕ) : Type 0 where
  pub below : 0 < i → is_reached side (Fin (pos n)) 2 (size_at (i - 1)) ≡ false
  pub here : is_reached side (Fin (pos n)) 2 (size_at i) ≡ true

less_than : (a b : ℕ) → a ≤ b → a ≢ b → a < b
less_than a b h n = elim (cases_lt a b) [
  | inl l ↦ l
  | inr g ↦ absurd (n (omega (arith, h, g)))
]

abbrev IsExactly : Bool → ℕ → ℕ → Type 0
IsExactly true r w = r * r ≡ w
IsExactly false r w = r * r < w

exactly : (r w : ℕ) → r * r ≤ w → IsExactly (eqb (r * r) w) r w
exactly r w h = elim (eqb_tells (r * r) w) [
  | inl (equal, same) ↦ subst (λ b. IsExactly b r w) (sym equal) same
  | inr (apart, other) ↦ subst (λ b. IsExactly b r w) (sym apart) (less_than (r * r) w h other)
]

pub first_is : (side : End) (exact : Bool) (m k w t r : ℕ) → IsWholeRoot m k w t r → IsExactly exact r w →
    IsFirst side (m * 2 ^ k) (first_index side exact (t * 2 ^ 61 + r))
first_is Down exact m k w t r h e =
    let at : t * 2 ^ 61 + r + 1 - 1 ≡ t * 2 ^ 61 + r = omega arith in
    record {
      below = λ _. ap (λ i. is_reached Down (Fin (pos (m * 2 ^ k))) 2 (size_at i)) at
          ∙ ap (is_reached Down (Fin (pos (m * 2 ^ k))) 2) (size_here t r h.least h.most)
          ∙ down_within (r * 2 ^ t) (m * 2 ^ k) h.grid (at_most r w (2 ^ t) (m * 2 ^ k * unit) (scaled m k w t r h) h.within);
      here = ap (is_reached Down (Fin (pos (m * 2 ^ k))) 2) (size_after t r h.least h.most)
          ∙ down_beyond ((r + 1) * 2 ^ t) (m * 2 ^ k) (above (r + 1) w (2 ^ t) (m * 2 ^ k * unit) (pow_pos t) (scaled m k w t r h) h.next);
    }
first_is Up true m k w t r h e =
    let before : suc (t * 2 ^ 61 + r - 1) ≡ t * 2 ^ 61 + r = omega (arith, h.least) in
    let less : size_at (t * 2 ^ 61 + r - 1) < r * 2 ^ t =
    subst (λ s. size_at (t * 2 ^ 61 + r - 1) < s) (ap size_at before ∙ size_here t r h.least h.most) (grows (t * 2 ^ 61 + r - 1)) in
    let square : r * 2 ^ t * (r * 2 ^ t) ≤ m * 2 ^ k * unit = at_most r w (2 ^ t) (m * 2 ^ k * unit) (scaled m k w t r h) h.within in
    let smaller : size_at (t * 2 ^ 61 + r - 1) * size_at (t * 2 ^ 61 + r - 1) < r * 2 ^ t * (r * 2 ^ t) = smaller_square (size_at (t * 2 ^ 61 + r - 1)) (r * 2 ^ t) less in
    record {
      below = λ _. up_short (size_at (t * 2 ^ 61 + r - 1)) (m * 2 ^ k) (below_that _ _ _ smaller square);
      here = ap (is_reached Up (Fin (pos (m * 2 ^ k))) 2) (size_here t r h.least h.most)
          ∙ up_enough (r * 2 ^ t) (m * 2 ^ k) h.grid (at_least r w (2 ^ t) (m * 2 ^ k * unit) (scaled m k w t r h) (same_most (r * r) w e));
    }
first_is Up false m k w t r h e =
    let at : t * 2 ^ 61 + r + 1 - 1 ≡ t * 2 ^ 61 + r = omega arith in
    let most : w ≤ (r + 1) * (r + 1) = less_most w ((r + 1) * (r + 1)) h.next in
    record {
      below = λ _. ap (λ i. is_reached Up (Fin (pos (m * 2 ^ k))) 2 (size_at i)) at
          ∙ ap (is_reached Up (Fin (pos (m * 2 ^ k))) 2) (size_here t r h.least h.most)
          ∙ up_short (r * 2 ^ t) (m * 2 ^ k) (under r w (2 ^ t) (m * 2 ^ k * unit) (pow_pos t) (scaled m k w t r h) e);
      here = ap (is_reached Up (Fin (pos (m * 2 ^ k))) 2) (size_after t r h.least h.most)
          ∙ up_enough ((r + 1) * 2 ^ t) (m * 2 ^ k) h.grid (at_least (r + 1) w (2 ^ t) (m * 2 ^ k * unit) (scaled m k w t r h) most);
    }

-- the index that the code finds, from the root that it tried
pub found_first : (side : End) (m k w t r i : ℕ) → IsSquareOf m k w t → m < 2 ^ 62 → k ≤ 962 → 2 ^ 61 ≤ r → r < 2 ^ 62 → r * r ≤ w → w - r * r ≤ r * 2 →
    i ≡ first_index side (eqb (r * r) w) (t * 2 ^ 61 + r) → IsFirst side (m * 2 ^ k) i
found_first side m k w t r i square mantissa exponent least most within rest e =
    let next : (r + 1) * (r + 1) ≡ r * r + r * 2 + 1 = grind arith in
    subst (IsFirst side (m * 2 ^ k)) (sym e)
    (first_is side (eqb (r * r) w) m k w t r
    (record { square = square; grid = is_grid m k mantissa exponent; least = least; most = most; within = within; next = omega (arith, next, rest, within) })
    (exactly r w within))

-- ---- A size as a whole number times a square

halved : (m k s t : ℕ) → k + 512 ≡ s + (t + t) → IsSquareOf m k (m * 2 ^ s) t
halved m k s t e =
    ap (λ x. m * 2 ^ x) e ∙ ap (λ x. m * x) (pow-add 2 s (t + t) ∙ ap (λ x. 2 ^ s * x) (pow-add 2 t t))
    ∙ sym (mul_assoc m (2 ^ s) (2 ^ t * 2 ^ t))

pub odd_square : (m k : ℕ) → k % 2 ≡ 1 → IsSquareOf m k (m * 2 ^ 61) ((k + 451) / 2)
odd_square m k h = halved m k 61 ((k + 451) / 2) (omega arith)

pub even_square : (m k : ℕ) → k % 2 ≢ 1 → IsSquareOf m k (m * 2 ^ 62) ((k + 450) / 2)
even_square m k h = halved m k 62 ((k + 450) / 2) (omega arith)
