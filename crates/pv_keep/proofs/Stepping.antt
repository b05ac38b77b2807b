-- Two paths from the same place on.
use Rattle.std.proofs.Common.{◌≡◌, ℕ, zero, suc, ◌<◌, ◌≤◌, Bool, true, false, List, [], ◌∷◌, length, drop, ltb, lt-ltb, le-ltb, refl, sym, ◌∙◌, inl, inr, ◌⊎◌, arith}
use Rattle.std.proofs.lemmas.Bool.{cases_lt}
use Rattle.pv_tree.specs.Trees.{precedes}

-- At the end of one of the paths the shorter one stands first.
pub ends_less : (a b : List Bool) (m : ℕ) → m ≤ length a → length a ≤ m → length a < length b → precedes (drop m a) (drop m b) ≡ true
ends_less [] [] m l k s = absurd (omega (arith, s))
ends_less [] (y ∷ b) zero l k s = refl
ends_less [] (y ∷ b) (suc m) l k s = absurd (omega (arith, l))
ends_less (x ∷ a) b zero l k s = absurd (omega (arith, k))
ends_less (x ∷ a) [] (suc m) l k s = absurd (omega (arith, s))
ends_less (x ∷ a) (y ∷ b) (suc m) l k s = ends_less a b m (omega (arith, l)) (omega (arith, k)) (omega (arith, s))

pub ends_more : (a b : List Bool) (m : ℕ) → m ≤ length b → length b ≤ m → length b ≤ length a → precedes (drop m a) (drop m b) ≡ false
ends_more [] [] zero l k s = refl
ends_more (x ∷ a) [] zero l k s = refl
ends_more a [] (suc m) l k s = absurd (omega (arith, l))
ends_more a (y ∷ b) zero l k s = absurd (omega (arith, k))
ends_more [] (y ∷ b) (suc m) l k s = absurd (omega (arith, s))
ends_more (x ∷ a) (y ∷ b) (suc m) l k s = ends_more a b m (omega (arith, l)) (omega (arith, k)) (omega (arith, s))

pub one_ends : (a b : List Bool) (m : ℕ) → m ≤ length a → m ≤ length b → (length a ≤ m) ⊎ (length b ≤ m) → ltb (length a) (length b) ≡ precedes (drop m a) (drop m b)
one_ends a b m l k e = elim (cases_lt (length a) (length b)) [
  | inl s ↦ lt-ltb (length a) (length b) s ∙ sym (ends_less a b m l (shorter e s) s)
  | inr s ↦ le-ltb (length a) (length b) s ∙ sym (ends_more a b m k (longer e s) s)
]
  where
    shorter : (length a ≤ m) ⊎ (length b ≤ m) → length a < length b → length a ≤ m
    shorter (inl h) s = h
    shorter (inr h) s = omega (arith, h, s)

    longer : (length a ≤ m) ⊎ (length b ≤ m) → length b ≤ length a → length b ≤ m
    longer (inl h) s = omega (arith, h, s)
    longer (inr h) s = h
