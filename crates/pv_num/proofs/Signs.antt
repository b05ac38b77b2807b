use Rattle.std.proofs.Common.{◌≡◌, ℕ, zero, suc, ◌*◌, ◌<◌, ◌≤◌, Bool, true, false, Option, Some, None, arith, refl, ap, sym, subst, ◌∙◌, zero-mul, ℤ, pos, negsuc, neg_ℤ, ◌*ℤ◌, ◌≤ℤ◌, ◌<ℤ◌, unsigned_abs}
use Rattle.std.proofs.lemmas.Int.{ints}
use Rattle.std.proofs.Math.IntN.{neg_ℤ-neg_ℤ, negsuc-*ℤ-pos}
use Rattle.std.proofs.Math.Nat.{mul-pos}
use Rattle.pv_num.specs.Grid.{IsGridSize, IsGrid}
use Rattle.pv_num.specs.Rounding.{IsGreatestBelow, IsLeastAbove, IsRounded}
use Rattle.pv_num.specs.Sizes.{size_of, IsFloorSize, IsCeilingSize, IsSized, signed_of, toward_of, with_sign}
use Rattle.pv_num.specs.declared.num.End.{End}
use Rattle.pv_num.specs.declared.num.End.TheVariants.{Down, Up}
use Rattle.pv_num.specs.declared.magnitude.Magnitude.{Magnitude}
use Rattle.pv_num.proofs.Rounds.{is_grid}

pub pos_le : (m n : ℕ) → m ≤ n → pos m ≤ℤ pos n
pos_le m n h = omega (arith, ints)

pub le_pos : (m n : ℕ) → pos m ≤ℤ pos n → m ≤ n
le_pos m n h = omega (arith, ints)

pub neg_le : (a b : ℤ) → a ≤ℤ b → neg_ℤ b ≤ℤ neg_ℤ a
neg_le a b h = omega (arith, ints)

pub le_neg : (a b : ℤ) → neg_ℤ b ≤ℤ neg_ℤ a → a ≤ℤ b
le_neg a b h = omega (arith, ints)

pub neg-mul : (z : ℤ) (b : ℕ) → neg_ℤ z *ℤ pos b ≡ neg_ℤ (z *ℤ pos b)
neg-mul (pos zero) b = let e : 0 * b ≡ 0 = zero-mul b in ap pos e ∙ sym (ap (λ x. neg_ℤ (pos x)) e)
neg-mul (pos (suc n)) b = negsuc-*ℤ-pos n b
neg-mul (negsuc n) b = sym (neg_ℤ-neg_ℤ (pos (suc n * b))) ∙ sym (ap neg_ℤ (negsuc-*ℤ-pos n b))

pub neg_size : (z : ℤ) → unsigned_abs (neg_ℤ z) ≡ unsigned_abs z
neg_size (pos zero) = refl
neg_size (pos (suc n)) = refl
neg_size (negsuc n) = refl

pub neg_grid : (z : ℤ) → IsGrid z → IsGrid (neg_ℤ z)
neg_grid z g = subst IsGridSize (sym (neg_size z)) g

pub zero_grid : IsGridSize 0
zero_grid = is_grid 0 0 (omega arith) (omega arith)

-- ---- Negation exchanges the sides

pub below-neg : (a : ℤ) (b : ℕ) (n : ℤ) → IsGreatestBelow a b n → IsLeastAbove (neg_ℤ a) b (neg_ℤ n)
below-neg a b n h = record {
  grid = neg_grid n h.grid;
  above = subst (λ x. neg_ℤ a ≤ℤ x) (sym (neg-mul n b)) (neg_le (n *ℤ pos b) a h.below);
  least = λ f g l.
      let l' : neg_ℤ (f *ℤ pos b) ≤ℤ a = le_neg (neg_ℤ (f *ℤ pos b)) a (subst (λ x. neg_ℤ a ≤ℤ x) (sym (neg_ℤ-neg_ℤ (f *ℤ pos b))) l) in
      let k : neg_ℤ f ≤ℤ n = h.greatest (neg_ℤ f) (neg_grid f g) (subst (λ x. x ≤ℤ a) (sym (neg-mul f b)) l') in
      subst (λ x. neg_ℤ n ≤ℤ x) (neg_ℤ-neg_ℤ f) (neg_le (neg_ℤ f) n k);
}

pub above-neg : (a : ℤ) (b : ℕ) (n : ℤ) → IsLeastAbove a b n → IsGreatestBelow (neg_ℤ a) b (neg_ℤ n)
above-neg a b n h = record {
  grid = neg_grid n h.grid;
  below = subst (λ x. x ≤ℤ neg_ℤ a) (sym (neg-mul n b)) (neg_le a (n *ℤ pos b) h.above);
  greatest = λ f g l.
      let l' : a ≤ℤ neg_ℤ (f *ℤ pos b) = le_neg a (neg_ℤ (f *ℤ pos b)) (subst (λ x. x ≤ℤ neg_ℤ a) (sym (neg_ℤ-neg_ℤ (f *ℤ pos b))) l) in
      let k : n ≤ℤ neg_ℤ f = h.least (neg_ℤ f) (neg_grid f g) (subst (λ x. a ≤ℤ x) (sym (neg-mul f b)) l') in
      subst (λ x. x ≤ℤ neg_ℤ n) (neg_ℤ-neg_ℤ f) (neg_le n (neg_ℤ f) k);
}

-- ---- From sizes to numbers

greatest_pos : (n b k : ℕ) → IsFloorSize n b k → (f : ℤ) → IsGrid f → (f *ℤ pos b) ≤ℤ pos n → f ≤ℤ pos k
greatest_pos n b k h (pos f) g l = pos_le f k (h.greatest f g (le_pos (f * b) n l))
greatest_pos n b k h (negsuc f) g l = omega (arith, ints)

pub down_pos : (n b k : ℕ) → IsFloorSize n b k → IsGreatestBelow (pos n) b (pos k)
down_pos n b k h = record { grid = h.grid; below = pos_le (k * b) n h.below; greatest = greatest_pos n b k h }

least_pos : (n b k : ℕ) → 0 < b → IsCeilingSize n b k → (f : ℤ) → IsGrid f → pos n ≤ℤ (f *ℤ pos b) → pos k ≤ℤ f
least_pos n b k p h (pos f) g l = pos_le k f (h.least f g (le_pos n (f * b) l))
least_pos n b k p h (negsuc f) g l =
    let two : 0 < suc f * b = mul-pos (omega arith) p in
    let l' : pos n ≤ℤ neg_ℤ (pos (suc f * b)) = subst (λ x. pos n ≤ℤ x) (negsuc-*ℤ-pos f b) l in
    absurd (omega (arith, ints, l', two))

pub up_pos : (n b k : ℕ) → 0 < b → IsCeilingSize n b k → IsLeastAbove (pos n) b (pos k)
up_pos n b k p h = record { grid = h.grid; above = pos_le n (k * b) h.above; least = least_pos n b k p h }

pub down_neg : (n b k : ℕ) → 0 < b → IsCeilingSize n b k → IsGreatestBelow (neg_ℤ (pos n)) b (neg_ℤ (pos k))
down_neg n b k p h = above-neg (pos n) b (pos k) (up_pos n b k p h)

pub up_neg : (n b k : ℕ) → IsFloorSize n b k → IsLeastAbove (neg_ℤ (pos n)) b (neg_ℤ (pos k))
up_neg n b k h = below-neg (pos n) b (pos k) (down_pos n b k h)

pub up_none : (n b : ℕ) → ((f : ℕ) → IsGridSize f → f * b < n) → (f : ℤ) → IsGrid f → (f *ℤ pos b) <ℤ pos n
up_none n b h (pos f) g = let l : f * b < n = h f g in omega (arith, ints, l)
up_none n b h (negsuc f) g =
    let l : 0 * b < n = h 0 zero_grid in
    let e : (negsuc f *ℤ pos b) ≡ neg_ℤ (pos (suc f * b)) = negsuc-*ℤ-pos f b in
    subst (λ x. x <ℤ pos n) (sym e) (omega (arith, ints, l, zero-mul b))

pub down_none : (n b : ℕ) → ((f : ℕ) → IsGridSize f → f * b < n) → (f : ℤ) → IsGrid f → neg_ℤ (pos n) <ℤ (f *ℤ pos b)
down_none n b h f g =
    let l : (neg_ℤ f *ℤ pos b) <ℤ pos n = up_none n b h (neg_ℤ f) (neg_grid f g) in
    let l' : neg_ℤ (f *ℤ pos b) <ℤ pos n = subst (λ x. x <ℤ pos n) (neg-mul f b) l in
    omega (arith, ints, l')

pub signed_rounded : (side : End) (s : Bool) (v b : ℕ) (r : Option Magnitude) → 0 < b → IsSized (toward_of side s) v b r → IsRounded side (with_sign s v) b (signed_of s r)
signed_rounded Down true v b None p h = down_none v b h
signed_rounded Down true v b (Some m) p h = down_neg v b (size_of m) p h
signed_rounded Down false v b None p h = h
signed_rounded Down false v b (Some m) p h = down_pos v b (size_of m) h
signed_rounded Up true v b None p h = h
signed_rounded Up true v b (Some m) p h = up_neg v b (size_of m) h
signed_rounded Up false v b None p h = up_none v b h
signed_rounded Up false v b (Some m) p h = up_pos v b (size_of m) p h
