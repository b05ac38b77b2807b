-- The halves of a cut differ from the box at the place of the cut alone.
use Rattle.std.proofs.Common.{◌≡◌, ◌≢◌, ℕ, zero, suc, ◌+◌, ◌<◌, ◌≤◌, true, false, List, [], ◌∷◌, length, refl, ap, arith}
use Rattle.std.specs.Prelude.{IsTrue}
use Rattle.pv_num.specs.Extended.{Extended, NegInf, Fin, PosInf}
use Rattle.pv_num.specs.Order.{le, lt}
use Rattle.pv_interval.specs.Bounds.{Bounds}
use Rattle.pv_interval.proofs.Ends.{le_refl, le_of_false, lt_not}
use Rattle.pv_box.specs.Boxes.{IsBox, lower_half, upper_half}
use Rattle.pv_hc4.specs.Chain.{at}
use Rattle.pv_hc4.specs.Members.{AreWithin}
use Rattle.pv_ctc.specs.Facts.{IsPartAt}
use Rattle.pv_ctc.proofs.Shrinking.{within_refl}
use Rattle.pv_tree.specs.Trees.{IsBetween, IsStrictlyInside}
use Rattle.pv_tree.proofs.StageLaws.{half_box}

pub lt_le : (a b : Extended) → IsTrue (lt a b) → IsTrue (le a b)
lt_le a b h = le_of_false b a (lt_not a b h)

above_low : (a : Extended) (x : Bounds) → IsBetween a x → IsTrue (le x.lo a)
above_low NegInf x h = absurd h
above_low (Fin n) x h = lt_le x.lo (Fin n) h.0
above_low PosInf x h = absurd h

below_high : (a : Extended) (x : Bounds) → IsBetween a x → IsTrue (le a x.hi)
below_high NegInf x h = absurd h
below_high (Fin n) x h = lt_le (Fin n) x.hi h.1
below_high PosInf x h = absurd h

lower_within : (b : List Bounds) (v : ℕ) (a : Extended) → IsStrictlyInside a v b → AreWithin (lower_half b v a) b
lower_within [] v a h = absurd h
lower_within (x ∷ b) zero a h = (le_refl x.lo, below_high a x h, within_refl b)
lower_within (x ∷ b) (suc v) a h = (le_refl x.lo, le_refl x.hi, lower_within b v a h)

upper_within : (b : List Bounds) (v : ℕ) (a : Extended) → IsStrictlyInside a v b → AreWithin (upper_half b v a) b
upper_within [] v a h = absurd h
upper_within (x ∷ b) zero a h = (above_low a x h, le_refl x.hi, within_refl b)
upper_within (x ∷ b) (suc v) a h = (le_refl x.lo, le_refl x.hi, upper_within b v a h)

lower_same : (b : List Bounds) (v : ℕ) (a : Extended) (i : ℕ) → i ≢ v → at b i ≡ at (lower_half b v a) i
lower_same [] v a i n = refl
lower_same (x ∷ b) zero a zero n = absurd (n refl)
lower_same (x ∷ b) zero a (suc i) n = refl
lower_same (x ∷ b) (suc v) a zero n = refl
lower_same (x ∷ b) (suc v) a (suc i) n = lower_same b v a i (λ e. n (ap suc e))

upper_same : (b : List Bounds) (v : ℕ) (a : Extended) (i : ℕ) → i ≢ v → at b i ≡ at (upper_half b v a) i
upper_same [] v a i n = refl
upper_same (x ∷ b) zero a zero n = absurd (n refl)
upper_same (x ∷ b) zero a (suc i) n = refl
upper_same (x ∷ b) (suc v) a zero n = refl
upper_same (x ∷ b) (suc v) a (suc i) n = upper_same b v a i (λ e. n (ap suc e))

pub lower_part : (b : List Bounds) (v : ℕ) (a : Extended) → IsBox b → IsStrictlyInside a v b → IsPartAt v b (lower_half b v a)
lower_part b v a i h = record { within = lower_within b v a h; box = half_box true b v a i h; same = lower_same b v a }

pub upper_part : (b : List Bounds) (v : ℕ) (a : Extended) → IsBox b → IsStrictlyInside a v b → IsPartAt v b (upper_half b v a)
upper_part b v a i h = record { within = upper_within b v a h; box = half_box false b v a i h; same = upper_same b v a }

pub place_below : (b : List Bounds) (v : ℕ) (a : Extended) → IsStrictlyInside a v b → v < length b
place_below [] v a h = absurd h
place_below (x ∷ b) zero a h = omega arith
place_below (x ∷ b) (suc v) a h = let k = place_below b v a h in omega arith
