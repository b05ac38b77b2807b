-- The difference of two absolute values is the difference of the numbers times a number from -1 to 1.
use Rattle.std.proofs.Common.{◌≡◌, ◌⊎◌, inl, inr, ℕ, zero, suc, ◌<◌, [], ◌∷◌, refl, ap, sym, subst, arith}
use Rattle.std.specs.Prelude.{ℤ, pos, negsuc, ◌-ℤ◌, ◌*ℤ◌, ◌≤ℤ◌, unsigned_abs}
use Rattle.std.proofs.lemmas.Int.{ints}
use lib.IntN.{neg_ℤ}
use Rattle.pv_num.specs.Grid.{unit}
use Rattle.pv_interval.specs.Fractions.{Fraction, size}
use Rattle.pv_interval.specs.Points.{LiesIn}
use Rattle.pv_interval.proofs.Integers.{neg_left}
use Rattle.pv_interval.proofs.Keeps.{by_sign}
use Rattle.pv_interval.proofs.Multiples.{up_from, down_to}
use Rattle.pv_interval.proofs.Orders.{size_from, size_to}
use Rattle.pv_interval.proofs.Products.{times_pos}
use Rattle.pv_slope.specs.SlopeTable.{either_slope}
use Rattle.pv_slope.proofs.Polynomials.{v, ◌⊗◌, minus, alike, follows}

-- x is at most as far from 0 as y
abbrev IsNearer : ℤ → ℤ → Type 0
IsNearer x y = ((x ≤ℤ y) × (neg_ℤ y ≤ℤ x)) ⊎ ((x ≤ℤ neg_ℤ y) × (y ≤ℤ x))

-- a number from -1 to 1 by which y is x
record Ratio (x y : ℤ) : Type 0 where
  pub top : ℤ
  pub under : ℕ
  pub some : 0 < under
  pub low : neg_ℤ (pos under) ≤ℤ top
  pub high : top ≤ℤ pos under
  pub exact : top *ℤ y ≡ pos under *ℤ x

ratio : (x y : ℤ) → IsNearer x y → Ratio x y
ratio x (pos zero) h =
    let e : x ≡ pos 0 = elim h [ inl k ↦ omega (arith, ints) | inr k ↦ omega (arith, ints) ] in
    record { top = pos 0; under = 1; some = omega arith; low = omega (arith, ints); high = omega (arith, ints); exact = sym (ap (λ z. pos 1 *ℤ z) e) }
ratio x (pos (suc m)) h = record {
  top = x;
  under = suc m;
  some = omega arith;
  low = elim h [ inl k ↦ k.1 | inr k ↦ omega (arith, ints) ];
  high = elim h [ inl k ↦ k.0 | inr k ↦ omega (arith, ints) ];
  exact = alike (x ∷ pos (suc m) ∷ []) (v 0 ⊗ v 1) (v 1 ⊗ v 0) refl;
}
ratio x (negsuc m) h = record {
  top = neg_ℤ x;
  under = suc m;
  some = omega arith;
  low = elim h [ inl k ↦ omega (arith, ints) | inr k ↦ omega (arith, ints) ];
  high = elim h [ inl k ↦ omega (arith, ints) | inr k ↦ omega (arith, ints) ];
  exact = alike (x ∷ pos (suc m) ∷ []) (minus (v 0) ⊗ minus (v 1)) (v 1 ⊗ v 0) refl;
}

own : (x : ℤ) → IsNearer x x
own x = by_sign x (λ h. inl (omega (arith, ints), omega (arith, ints))) (λ h. inr (omega (arith, ints), omega (arith, ints)))

other : (y x : ℤ) → x ≡ neg_ℤ y → IsNearer x y
other y x e = by_sign y (λ h. inl (omega (arith, ints), omega (arith, ints))) (λ h. inr (omega (arith, ints), omega (arith, ints)))

-- p d - q b beside a d - c b
abbrev AreNearer : ℤ → ℤ → ℕ → ℕ → ℤ → ℤ → Type 0
AreNearer a c b d p q = IsNearer (p *ℤ pos d -ℤ q *ℤ pos b) (a *ℤ pos d -ℤ c *ℤ pos b)

sizes_by : (a c p q : ℤ) (b d : ℕ) → pos (unsigned_abs a) ≡ p → pos (unsigned_abs c) ≡ q → AreNearer a c b d p q → AreNearer a c b d (pos (unsigned_abs a)) (pos (unsigned_abs c))
sizes_by a c p q b d e f h =
    subst (λ z. AreNearer a c b d z (pos (unsigned_abs c))) (sym e) (subst (λ z. AreNearer a c b d p z) (sym f) h)

up_down : (a c : ℤ) (b d : ℕ) → pos 0 ≤ℤ a → c ≤ℤ pos 0 → AreNearer a c b d a (neg_ℤ c)
up_down a c b d h k =
    let e = up_from a d h in let f = down_to c b k in let g = neg_left c (pos b) in inl (omega (arith, ints), omega (arith, ints))

down_up : (a c : ℤ) (b d : ℕ) → a ≤ℤ pos 0 → pos 0 ≤ℤ c → AreNearer a c b d (neg_ℤ a) c
down_up a c b d h k =
    let e = down_to a d h in let f = up_from c b k in let g = neg_left a (pos d) in inr (omega (arith, ints), omega (arith, ints))

down_down : (a c : ℤ) (b d : ℕ) → AreNearer a c b d (neg_ℤ a) (neg_ℤ c)
down_down a c b d =
    let e = neg_left a (pos d) in let f = neg_left c (pos b) in
    other (a *ℤ pos d -ℤ c *ℤ pos b) (neg_ℤ a *ℤ pos d -ℤ neg_ℤ c *ℤ pos b) (omega (arith, ints))

-- |a| d - |c| b beside a d - c b
nearer : (a c : ℤ) (b d : ℕ) → AreNearer a c b d (pos (unsigned_abs a)) (pos (unsigned_abs c))
nearer a c b d =
    by_sign a
    (λ h. by_sign c
    (λ k. sizes_by a c a c b d (size_from a h) (size_from c k) (own (a *ℤ pos d -ℤ c *ℤ pos b)))
    (λ k. sizes_by a c a (neg_ℤ c) b d (size_from a h) (size_to c k) (up_down a c b d h k)))
    (λ h. by_sign c
    (λ k. sizes_by a c (neg_ℤ a) c b d (size_to a h) (size_from c k) (down_up a c b d h k))
    (λ k. sizes_by a c (neg_ℤ a) (neg_ℤ c) b d (size_to a h) (size_to c k) (down_down a c b d)))

-- the number from -1 to 1
pub record Turn (f g : Fraction) : Type 0 where
  pub by : Fraction
  pub lies : LiesIn by either_slope
  pub exact : ((size f).top *ℤ pos g.under -ℤ (size g).top *ℤ pos f.under) *ℤ (pos by.under *ℤ (pos f.under *ℤ pos g.under))
      ≡ (by.top *ℤ (f.top *ℤ pos g.under -ℤ g.top *ℤ pos f.under)) *ℤ (pos f.under *ℤ pos g.under)

scaled : (x r m t y : ℤ) → t *ℤ y ≡ r *ℤ x → x *ℤ (r *ℤ m) ≡ (t *ℤ y) *ℤ m
scaled x r m t y e =
    follows (x ∷ r ∷ m ∷ t ∷ y ∷ []) (v 0 ⊗ (v 1 ⊗ v 2)) ((v 3 ⊗ v 4) ⊗ v 2)
    (record { by = minus (v 2); left = v 3 ⊗ v 4; right = v 1 ⊗ v 0 } ∷ []) refl (e, tt)

pub turn : (f g : Fraction) → Turn f g
turn f g =
    let r = ratio _ _ (nearer f.top g.top f.under g.under) in
    record {
      by = record { top = r.top; under = r.under };
      lies = record {
        some = r.some;
        low = let e = times_pos unit (neg_ℤ (pos r.under)) r.top r.low in
            let f = neg_left (pos r.under) (pos unit) in let g = neg_left (pos unit) (pos r.under) in
            let h = alike (pos r.under ∷ pos unit ∷ []) (v 0 ⊗ v 1) (v 1 ⊗ v 0) refl in omega (arith, ints);
        high = let e = times_pos unit r.top (pos r.under) r.high in
            let h = alike (pos r.under ∷ pos unit ∷ []) (v 0 ⊗ v 1) (v 1 ⊗ v 0) refl in omega (arith, ints);
      };
      exact = scaled _ (pos r.under) (pos f.under *ℤ pos g.under) r.top _ r.exact;
    }
