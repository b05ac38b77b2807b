-- Marks of constraints that would keep the box.
use Rattle.std.proofs.Common.{◌≡◌, ◌≢◌, ◌⊎◌, ℕ, zero, suc, ◌+◌, ◌<◌, ◌≤◌, List, [], ◌∷◌, ◌++◌, length, refl, ap, sym, ◌∙◌, subst, arith, get_or, set, take, inl, inr}
use Rattle.pv_interval.specs.Bounds.{everything}
use Rattle.pv_hc4.specs.Chain.{at}
use Rattle.pv_ctc.specs.Uses.{AreUses, HaveUses, AreAlikeFor, has_variable}
use Rattle.std.specs.Prelude.{Some, Bool, true, false, replicate}
use Rattle.std.proofs.lemmas.Bool.{cases_eq, true≢false}
use Rattle.std.proofs.lemmas.List.{get_or-set_other}
use Rattle.pv_interval.specs.Bounds.{Bounds}
use Rattle.pv_hc4.specs.Revise.{Sides, revised}
use Rattle.pv_ctc.specs.Contracting.{side_at}
use Rattle.pv_ctc.specs.Marks.{AreClean}

pub unmarked : (n k : ℕ) → get_or (replicate n false) k false ≡ false
unmarked zero k = refl
unmarked (suc n) zero = refl
unmarked (suc n) (suc k) = unmarked n k

pub no_marks : (ss : List Sides) (b : List Bounds) → AreClean ss (replicate 64 false) b
no_marks ss b = λ k l h. absurd (true≢false (sym h ∙ unmarked 64 k))

pub one_mark : (ss : List Sides) (marks : List Bool) (i : ℕ) (b : List Bounds) → revised (side_at ss i) b ≡ Some b → AreClean ss marks b → AreClean ss (set marks i true) b
one_mark ss marks i b e h = λ k l t.
    elim (cases_eq k i) [
      | inl q ↦ ap (λ j. revised (side_at ss j) b) q ∙ e
      | inr q ↦ h k l (sym (get_or-set_other marks i k true false q) ∙ t)
    ]

pub uses_more : (us : List (List Bool)) (u : List Bool) (ss : List Sides) (s : Sides) → HaveUses us ss → AreUses u s → HaveUses (us ++ u ∷ []) (ss ++ s ∷ [])
uses_more [] u [] s h k = (k, tt)
uses_more [] u (t ∷ ss) s h k = absurd h
uses_more (v ∷ us) u [] s h k = absurd h
uses_more (v ∷ us) u (t ∷ ss) s h k = (h.0, uses_more us u ss s h.1 k)

pub uses_at : (us : List (List Bool)) (ss : List Sides) (i : ℕ) (u : List Bool) → HaveUses us ss → i < length ss → u ≡ get_or us i u → AreUses u (side_at ss i)
uses_at [] [] i u h l e = absurd (omega arith)
uses_at [] (s ∷ ss) i u h l e = absurd h
uses_at (v ∷ us) [] i u h l e = absurd h
uses_at (v ∷ us) (s ∷ ss) zero u h l e = subst (λ w. AreUses w s) (sym e) h.0
uses_at (v ∷ us) (s ∷ ss) (suc i) u h l e = uses_at us ss i u h.1 (omega arith) e

pub uses_length : (us : List (List Bool)) (ss : List Sides) → HaveUses us ss → length us ≡ length ss
uses_length [] [] h = refl
uses_length [] (s ∷ ss) h = absurd h
uses_length (v ∷ us) [] h = absurd h
uses_length (v ∷ us) (s ∷ ss) h = ap suc (uses_length us ss h.1)

pub beyond : (b : List Bounds) (i : ℕ) → length b ≤ i → at b i ≡ everything
beyond [] i h = refl
beyond (x ∷ b) zero h = absurd (omega arith)
beyond (x ∷ b) (suc i) h = beyond b i (omega arith)

pub at_take : (b : List Bounds) (n i : ℕ) → i < n → at (take n b) i ≡ at b i
at_take b zero i h = absurd (omega arith)
at_take [] (suc n) i h = refl
at_take (x ∷ b) (suc n) zero h = refl
at_take (x ∷ b) (suc n) (suc i) h = at_take b n i (omega arith)

same_place : (s : Sides) (u : List Bool) (entry b d : List Bounds) → AreUses u s → length d ≤ 12 → length b ≡ length d → take (length d) entry ≡ b → AreAlikeFor u entry d → (i : ℕ) → has_variable i s ≡ true → (i < length d) ⊎ (length d ≤ i) → at b i ≡ at d i
same_place s u entry b d w l m t a i k (inl h) = sym (ap (λ x. at x i) t) ∙ at_take entry (length d) i h ∙ a i h (w i (omega arith) ∙ k)
same_place s u entry b d w l m t a i k (inr h) = beyond b i (omega arith) ∙ sym (beyond d i h)

pub unset : (ms : List Bool) (i : ℕ) → get_or (set ms i false) i false ≡ false
unset [] i = refl
unset (m ∷ ms) zero = refl
unset (m ∷ ms) (suc i) = unset ms i
