-- Preorder is a strict total order of paths.
use Rattle.std.proofs.Common.{◌≡◌, ◌≢◌, Bool, true, false, List, [], ◌∷◌, ◌++◌, refl, sym, ap}
use Rattle.std.specs.Prelude.{IsTrue}
use Rattle.pv_tree.specs.Trees.{precedes}
use Rattle.pv_join.proofs.AuditFacts.{not_false}

pub precedes_past : (p q r : List Bool) → precedes (p ++ q) (p ++ r) ≡ precedes q r
precedes_past [] q r = refl
precedes_past (false ∷ p) q r = precedes_past p q r
precedes_past (true ∷ p) q r = precedes_past p q r

pub precedes_trans : (p q r : List Bool) → IsTrue (precedes p q) → IsTrue (precedes q r) → IsTrue (precedes p r)
precedes_trans [] [] r h k = absurd (not_false h)
precedes_trans [] (c ∷ q) [] h k = absurd (not_false k)
precedes_trans [] (c ∷ q) (d ∷ r) h k = refl
precedes_trans (b ∷ p) [] r h k = absurd (not_false h)
precedes_trans (b ∷ p) (c ∷ q) [] h k = absurd (not_false k)
precedes_trans (false ∷ p) (false ∷ q) (false ∷ r) h k = precedes_trans p q r h k
precedes_trans (false ∷ p) (false ∷ q) (true ∷ r) h k = refl
precedes_trans (false ∷ p) (true ∷ q) (false ∷ r) h k = absurd (not_false k)
precedes_trans (false ∷ p) (true ∷ q) (true ∷ r) h k = refl
precedes_trans (true ∷ p) (false ∷ q) (d ∷ r) h k = absurd (not_false h)
precedes_trans (true ∷ p) (true ∷ q) (false ∷ r) h k = absurd (not_false k)
precedes_trans (true ∷ p) (true ∷ q) (true ∷ r) h k = precedes_trans p q r h k

pub not_back : (p q : List Bool) → IsTrue (precedes p q) → precedes q p ≡ false
not_back [] [] h = absurd (not_false h)
not_back [] (c ∷ q) h = refl
not_back (b ∷ p) [] h = absurd (not_false h)
not_back (false ∷ p) (false ∷ q) h = not_back p q h
not_back (false ∷ p) (true ∷ q) h = refl
not_back (true ∷ p) (false ∷ q) h = absurd (not_false h)
not_back (true ∷ p) (true ∷ q) h = not_back p q h

pub itself_not : (p : List Bool) → precedes p p ≡ false
itself_not [] = refl
itself_not (false ∷ p) = itself_not p
itself_not (true ∷ p) = itself_not p

pub or_back : (p q : List Bool) → precedes p q ≡ false → (q ≢ p) → IsTrue (precedes q p)
or_back [] [] h k = absurd (k refl)
or_back [] (c ∷ q) h k = cc
or_back (b ∷ p) [] h k = refl
or_back (false ∷ p) (false ∷ q) h k = or_back p q h (λ e. k (ap (λ (r : List Bool). false ∷ r) e))
or_back (false ∷ p) (true ∷ q) h k = cc
or_back (true ∷ p) (false ∷ q) h k = refl
or_back (true ∷ p) (true ∷ q) h k = or_back p q h (λ e. k (ap (λ (r : List Bool). true ∷ r) e))

pub unlike : (p q : List Bool) → IsTrue (precedes p q) → q ≢ p
unlike p q h = λ e. let f : precedes p p ≡ false = itself_not p in cc

pub turned : (p q : List Bool) → p ≢ q → q ≢ p
turned p q h = λ e. h (sym e)
