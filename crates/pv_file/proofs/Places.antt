-- Cuts strictly inside a place, and what is kept of boxes.
use Rattle.std.proofs.Common.{◌∙◌, ◌≡◌, ℕ, zero, suc, ◌<◌, Bool, true, false, List, [], ◌∷◌, length, Some, None, refl, sym, ap, subst, arith}
use Rattle.std.specs.Prelude.{All, IsTrue, slice_index_or, if◌then◌else◌}
use Rattle.pv_num.specs.Extended.{Extended, NegInf, Fin, PosInf}
use Rattle.pv_num.specs.Order.{le, lt}
use Rattle.pv_num.specs.Parts.{IsNumber}
use Rattle.pv_num.proofs.Texts.{none_some, some_some}
use Rattle.pv_interval.specs.Bounds.{Bounds, IsInterval, between, interval_from}
use Rattle.pv_tree.specs.Trees.{IsBetween, IsStrictlyInside, IsWithin}
use Rattle.pv_file.specs.Readings.{HasNumberEnds, HaveNumberEnds}
use Rattle.pv_file.specs.Words.{IsPartOf, IsKeptOf}

not_above_all : (a : Extended) → IsTrue (lt PosInf a) → ⊥
not_above_all NegInf h = cc
not_above_all (Fin z) h = cc
not_above_all PosInf h = cc

not_below_all : (a : Extended) → IsTrue (lt a NegInf) → ⊥
not_below_all NegInf h = cc
not_below_all (Fin z) h = cc
not_below_all PosInf h = cc

pub is_between : (a : Extended) (x : Bounds) → IsTrue (lt x.lo a) → IsTrue (lt a x.hi) → IsBetween a x
is_between NegInf x p q = absurd (not_below_all x.lo p)
is_between (Fin z) x p q = (p, q)
is_between PosInf x p q = absurd (not_above_all x.hi q)

pub strictly_there : (a : Extended) (v : ℕ) (b : List Bounds) → IsStrictlyInside a v b → v < length b
strictly_there a v [] h = absurd h
strictly_there a zero (x ∷ xs) h = omega arith
strictly_there a (suc v) (x ∷ xs) h = let rest : v < length xs = strictly_there a v xs h in omega (arith, rest)

pub strictly_place : (a : Extended) (v : ℕ) (b : List Bounds) (d : Bounds) → IsStrictlyInside a v b → IsBetween a (slice_index_or b v d)
strictly_place a v [] d h = absurd h
strictly_place a zero (x ∷ xs) d h = h
strictly_place a (suc v) (x ∷ xs) d h = strictly_place a v xs d h

pub strictly_at : (a : Extended) (v : ℕ) (b : List Bounds) (d : Bounds) → v < length b → IsBetween a (slice_index_or b v d) → IsStrictlyInside a v b
strictly_at a v [] d l h = omega (arith, l)
strictly_at a zero (x ∷ xs) d l h = h
strictly_at a (suc v) (x ∷ xs) d l h = strictly_at a v xs d (omega (arith, l)) h

-- ---- What is kept

some_if : {X : Type 0} (b : Bool) (x y : X) → Some x ≡ (if b then Some y else None) → x ≡ y
some_if true x y e = some_some x y e
some_if false x y e = absurd (none_some x (sym e))

pub from_ends : (lo hi : Extended) (x : Bounds) → Some x ≡ interval_from lo hi → x ≡ between lo hi
from_ends lo hi x e = some_if _ x (between lo hi) e

pub part_of : (old x : Bounds) (lo hi : Extended) → Some x ≡ interval_from lo hi → IsInterval x → IsTrue (le old.lo lo) → IsTrue (le hi old.hi) → IsNumber lo → IsNumber hi
    → IsPartOf old x
part_of old x lo hi e i p q g h =
    let is : x ≡ between lo hi = from_ends lo hi x e in record {
      low = subst (λ (y : Bounds). IsTrue (le old.lo y.lo)) (sym is) p;
      high = subst (λ (y : Bounds). IsTrue (le y.hi old.hi)) (sym is) q;
      interval = i;
      numbers = subst (λ (y : Bounds). HasNumberEnds y) (sym is) (record { lo = g; hi = h });
    }

pub kept_within : (b to : List Bounds) → IsKeptOf b to → IsWithin to b
kept_within [] [] h = tt
kept_within [] (x ∷ xs) h = absurd h
kept_within (old ∷ b) [] h = absurd h
kept_within (old ∷ b) (x ∷ xs) h = (h.0.low, h.0.high, kept_within b xs h.1)

pub kept_numbers : (b to : List Bounds) → IsKeptOf b to → HaveNumberEnds to
kept_numbers [] [] h = tt
kept_numbers [] (x ∷ xs) h = absurd h
kept_numbers (old ∷ b) [] h = absurd h
kept_numbers (old ∷ b) (x ∷ xs) h = (h.0.numbers, kept_numbers b xs h.1)

pub kept_length : (b to : List Bounds) → IsKeptOf b to → length to ≡ length b
kept_length [] [] h = refl
kept_length [] (x ∷ xs) h = absurd h
kept_length (old ∷ b) [] h = absurd h
kept_length (old ∷ b) (x ∷ xs) h = ap suc (kept_length b xs h.1)

first_of : (P : Bounds → Type 0) (x : Bounds) (xs : List Bounds) → All P (x ∷ xs) → P x
first_of P x xs h = h 0 x (omega arith)

others_of : (P : Bounds → Type 0) (x : Bounds) (xs : List Bounds) → All P (x ∷ xs) → All P xs
others_of P x xs h = λ k d l. h (suc k) d (omega (arith, l))

pub kept_from : (b to : List Bounds) → IsWithin to b → All IsInterval to → HaveNumberEnds to → IsKeptOf b to
kept_from [] [] w i n = tt
kept_from (old ∷ b) [] w i n = absurd w
kept_from [] (x ∷ xs) w i n = absurd w
kept_from (old ∷ b) (x ∷ xs) w i n =
    (record { low = w.0; high = w.1; interval = first_of IsInterval x xs i; numbers = n.0 }, kept_from b xs w.2 (others_of IsInterval x xs i) n.1)
