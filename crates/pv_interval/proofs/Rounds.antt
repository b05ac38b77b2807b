-- Rounding keeps the order, and each side keeps to its side.
use Rattle.std.proofs.Common.{◌≢◌, ℕ, ◌<◌, refl, arith, sym, subst}
use Rattle.std.specs.Prelude.{IsTrue, ℤ, pos, ◌*ℤ◌, ◌≤ℤ◌, ◌<ℤ◌}
use Rattle.std.proofs.Math.IntN.{zero-*ℤ}
use Rattle.std.proofs.lemmas.Int.{ints}
use Rattle.pv_num.specs.Extended.{Extended, NegInf, Fin, PosInf}
use Rattle.pv_num.specs.Grid.{IsGrid}
use Rattle.pv_num.specs.Order.{le}
use Rattle.pv_num.specs.Rounding.{IsDown, IsUp, rounded}
use Rattle.pv_num.specs.declared.num.End.{End}
use Rattle.pv_num.specs.declared.num.End.TheVariants.{Down, Up}
use Rattle.pv_num.proofs.Rounding.{rounded-is}
use Rattle.pv_interval.proofs.Integers.{swap_last}
use Rattle.pv_interval.proofs.Products.{times_pos, cancel_pos, trans}
use Rattle.pv_interval.proofs.Ends.{le_fin}

-- a / b is at most c / d
abbrev pub AtMost : ℤ → ℕ → ℤ → ℕ → Type 0
AtMost a b c d = (a *ℤ pos d) ≤ℤ (c *ℤ pos b)

-- r <= a / b <= c / d, so r <= c / d
pub below_more : (r a c : ℤ) (b d : ℕ) → 0 < b → (r *ℤ pos b) ≤ℤ a → AtMost a b c d → (r *ℤ pos d) ≤ℤ c
below_more r a c b d h k m =
    cancel_pos b (r *ℤ pos d) c h
    (let e = times_pos d (r *ℤ pos b) a k in
    let f = swap_last r (pos d) (pos b) in
    subst (λ z. z ≤ℤ (c *ℤ pos b)) (sym f) (trans _ _ _ e m))

pub above_more : (r a c : ℤ) (b d : ℕ) → 0 < b → a ≤ℤ (r *ℤ pos b) → AtMost c d a b → c ≤ℤ (r *ℤ pos d)
above_more r a c b d h k m =
    cancel_pos b c (r *ℤ pos d) h
    (let e = times_pos d a (r *ℤ pos b) k in
    let f = swap_last r (pos d) (pos b) in
    subst (λ z. (c *ℤ pos b) ≤ℤ z) (sym f) (trans _ _ _ m e))

clash : {P : Type 0} (a b : ℤ) → a ≤ℤ b → b <ℤ a → P
clash a b h k = absurd (omega (arith, ints))

down_mono : (a c : ℤ) (b d : ℕ) (r s : Extended) → 0 < b → 0 < d → AtMost a b c d → IsDown a b r → IsDown c d s → IsTrue (le r s)
down_mono a c b d NegInf NegInf p q m h k = refl
down_mono a c b d NegInf (Fin s) p q m h k = refl
down_mono a c b d (Fin r) NegInf p q m h k = clash _ _ (below_more r a c b d p h.below m) (k r h.grid)
down_mono a c b d (Fin r) (Fin s) p q m h k = le_fin r s (k.greatest r h.grid (below_more r a c b d p h.below m))
down_mono a c b d PosInf s p q m h k = absurd h
down_mono a c b d NegInf PosInf p q m h k = refl
down_mono a c b d (Fin r) PosInf p q m h k = refl

up_mono : (a c : ℤ) (b d : ℕ) (r s : Extended) → 0 < b → 0 < d → AtMost a b c d → IsUp a b r → IsUp c d s → IsTrue (le r s)
up_mono a c b d r NegInf p q m h k = absurd k
up_mono a c b d NegInf (Fin s) p q m h k = refl
up_mono a c b d NegInf PosInf p q m h k = refl
up_mono a c b d (Fin r) (Fin s) p q m h k = le_fin r s (h.least s k.grid (above_more s c a d b q k.above m))
up_mono a c b d (Fin r) PosInf p q m h k = refl
up_mono a c b d PosInf (Fin s) p q m h k = clash _ _ (above_more s c a d b q k.above m) (h s k.grid)
up_mono a c b d PosInf PosInf p q m h k = refl

down_up : (a c : ℤ) (b d : ℕ) (r s : Extended) → 0 < b → 0 < d → AtMost a b c d → IsDown a b r → IsUp c d s → IsTrue (le r s)
down_up a c b d r NegInf p q m h k = absurd k
down_up a c b d PosInf (Fin s) p q m h k = absurd h
down_up a c b d PosInf PosInf p q m h k = absurd h
down_up a c b d NegInf (Fin s) p q m h k = refl
down_up a c b d NegInf PosInf p q m h k = refl
down_up a c b d (Fin r) (Fin s) p q m h k =
    le_fin r s (cancel_pos d r s q (trans _ _ _ (below_more r a c b d p h.below m) k.above))
down_up a c b d (Fin r) PosInf p q m h k = refl

pub rounded_mono : (s : End) (a c : ℤ) (b d : ℕ) → 0 < b → 0 < d → AtMost a b c d → IsTrue (le (rounded s a b) (rounded s c d))
rounded_mono Down a c b d p q m = down_mono a c b d _ _ p q m (rounded-is Down a b p) (rounded-is Down c d q)
rounded_mono Up a c b d p q m = up_mono a c b d _ _ p q m (rounded-is Up a b p) (rounded-is Up c d q)

pub rounded_apart : (a c : ℤ) (b d : ℕ) → 0 < b → 0 < d → AtMost a b c d → IsTrue (le (rounded Down a b) (rounded Up c d))
rounded_apart a c b d p q m = down_up a c b d _ _ p q m (rounded-is Down a b p) (rounded-is Up c d q)

down_open : (a : ℤ) (b : ℕ) (r : Extended) → IsDown a b r → r ≢ PosInf
down_open a b NegInf h e = cc
down_open a b (Fin r) h e = cc
down_open a b PosInf h e = h

up_open : (a : ℤ) (b : ℕ) (r : Extended) → IsUp a b r → r ≢ NegInf
up_open a b NegInf h e = h
up_open a b (Fin r) h e = cc
up_open a b PosInf h e = cc

pub rounded_down_open : (a : ℤ) (b : ℕ) → 0 < b → rounded Down a b ≢ PosInf
rounded_down_open a b p = down_open a b _ (rounded-is Down a b p)

pub rounded_up_open : (a : ℤ) (b : ℕ) → 0 < b → rounded Up a b ≢ NegInf
rounded_up_open a b p = up_open a b _ (rounded-is Up a b p)

zero_grid : IsGrid (pos 0)
zero_grid = record { mantissa = 0; exponent = 0; mantissa_fits = omega arith; exponent_fits = omega arith; value = refl }

down_from_zero : (a : ℤ) (b : ℕ) (r : Extended) → 0 < b → pos 0 ≤ℤ a → IsDown a b r → IsTrue (le (Fin (pos 0)) r)
down_from_zero a b NegInf p h k =
    let e = k (pos 0) zero_grid in let f = zero-*ℤ (pos b) in absurd (omega (arith, ints))
down_from_zero a b (Fin r) p h k =
    le_fin (pos 0) r (k.greatest (pos 0) zero_grid (let f = zero-*ℤ (pos b) in omega (arith, ints)))
down_from_zero a b PosInf p h k = absurd k

up_from_zero : (a : ℤ) (b : ℕ) (r : Extended) → 0 < b → pos 0 ≤ℤ a → IsUp a b r → IsTrue (le (Fin (pos 0)) r)
up_from_zero a b NegInf p h k = absurd k
up_from_zero a b (Fin r) p h k =
    le_fin (pos 0) r (cancel_pos b (pos 0) r p (let f = zero-*ℤ (pos b) in trans _ _ _ (omega (arith, ints)) k.above))
up_from_zero a b PosInf p h k = refl

down_to_zero : (a : ℤ) (b : ℕ) (r : Extended) → 0 < b → a ≤ℤ pos 0 → IsDown a b r → IsTrue (le r (Fin (pos 0)))
down_to_zero a b NegInf p h k = refl
down_to_zero a b (Fin r) p h k =
    le_fin r (pos 0) (cancel_pos b r (pos 0) p (let f = zero-*ℤ (pos b) in trans _ _ _ k.below (omega (arith, ints))))
down_to_zero a b PosInf p h k = absurd k

up_to_zero : (a : ℤ) (b : ℕ) (r : Extended) → 0 < b → a ≤ℤ pos 0 → IsUp a b r → IsTrue (le r (Fin (pos 0)))
up_to_zero a b NegInf p h k = absurd k
up_to_zero a b (Fin r) p h k =
    le_fin r (pos 0) (k.least (pos 0) zero_grid (let f = zero-*ℤ (pos b) in omega (arith, ints)))
up_to_zero a b PosInf p h k =
    let e = k (pos 0) zero_grid in let f = zero-*ℤ (pos b) in absurd (omega (arith, ints))

-- 0 stays 0 on both sides
pub rounded_from_zero : (s : End) (a : ℤ) (b : ℕ) → 0 < b → pos 0 ≤ℤ a → IsTrue (le (Fin (pos 0)) (rounded s a b))
rounded_from_zero Down a b p h = down_from_zero a b _ p h (rounded-is Down a b p)
rounded_from_zero Up a b p h = up_from_zero a b _ p h (rounded-is Up a b p)

pub rounded_to_zero : (s : End) (a : ℤ) (b : ℕ) → 0 < b → a ≤ℤ pos 0 → IsTrue (le (rounded s a b) (Fin (pos 0)))
rounded_to_zero Down a b p h = down_to_zero a b _ p h (rounded-is Down a b p)
rounded_to_zero Up a b p h = up_to_zero a b _ p h (rounded-is Up a b p)
