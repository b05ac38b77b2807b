-- The marks after a revision.
use Rattle.std.proofs.Common.{◌≡◌, ◌≢◌, ◌⊎◌, inl, inr, ℕ, zero, suc, ◌+◌, ◌<◌, ◌≤◌, List, [], ◌∷◌, length, refl, ap, sym, ◌∙◌, subst, arith, get_or, set, eq-eqb}
use Rattle.std.specs.Prelude.{Option, Some, Bool, true, false, not, ◌&&◌, ◌||◌, nat_eq, replicate}
use Rattle.std.proofs.lemmas.Bool.{cases_eq, true≢false}
use Rattle.std.proofs.lemmas.List.{get_or-set_other}
use Rattle.pv_interval.specs.Bounds.{Bounds}
use Rattle.pv_hc4.specs.Revise.{Sides, revised}
use Rattle.pv_ctc.specs.Contracting.{side_at}
use Rattle.pv_ctc.specs.Marks.{AreClean, AreMarks}
use Rattle.pv_ctc.specs.Revisions.{Revision, is_left_so, is_clean, revision, same_box, same_places}
use Rattle.pv_ctc.proofs.Locality.{stays}
use Rattle.pv_ctc.proofs.Marking.{unmarked, unset}
use Rattle.pv_ctc.proofs.Sameness.{box_refl, box_not, places_refl, alike_everywhere}
use Rattle.pv_hc4.proofs.Masks.{other_number}
use Rattle.pv_hc4.proofs.Judging.{and_none, and_right}

-- the marks so: those that there were, of the constraints with no variable whose place changed
abbrev pub AreSpared : List Sides → List Bool → List Bool → List Bounds → List Bounds → Type 0
AreSpared ss marks now b d = (k : ℕ) → k < length ss → get_or now k false ≡ (get_or marks k false && same_places 0 (side_at ss k) b d)

pub and_second : (t u : Bool) → (t && u) ≡ true → (t ≡ true) × (u ≡ true)
and_second true u h = (refl, h)
and_second false u h = absurd (true≢false (sym h))

-- one more constraint was looked at: its mark was taken away where a place of one of its variables changed
abbrev pub LookedAt : List Bool → List Bool → ℕ → Bool → Type 0
LookedAt ms now i r = ((r ≡ true) × (now ≡ set ms i false)) ⊎ ((r ≡ false) × (now ≡ ms))

pub more_spared : (ss : List Sides) (start ms now : List Bool) (i : ℕ) (b d : List Bounds) (r : Bool) → (i < length ss → not r ≡ same_places 0 (side_at ss i) b d) → LookedAt ms now i r → ((k : ℕ) → k < i → k < length ss → get_or ms k false ≡ (get_or start k false && same_places 0 (side_at ss k) b d)) → ((k : ℕ) → i ≤ k → get_or ms k false ≡ get_or start k false) → (k : ℕ) → k < i + 1 → k < length ss → get_or now k false ≡ (get_or start k false && same_places 0 (side_at ss k) b d)
more_spared ss start ms now i b d r w (inl q) done left k h l =
    elim (cases_eq k i) [
      | inl p ↦
          let il : i < length ss = omega (arith, p, l) in
          let f : same_places 0 (side_at ss i) b d ≡ false = sym (w il) ∙ ap not q.0 in
          subst (λ j. get_or now j false ≡ (get_or start j false && same_places 0 (side_at ss j) b d)) (sym p)
          (ap (λ x. get_or x i false) q.1 ∙ unset ms i ∙ sym (ap (λ t. get_or start i false && t) f ∙ and_none (get_or start i false)))
      | inr p ↦ ap (λ x. get_or x k false) q.1 ∙ get_or-set_other ms i k false false p ∙ done k (omega (arith, p, h)) l
    ]
more_spared ss start ms now i b d r w (inr q) done left k h l =
    elim (cases_eq k i) [
      | inl p ↦
          let il : i < length ss = omega (arith, p, l) in
          let ii : i ≤ i = omega arith in
          let f : same_places 0 (side_at ss i) b d ≡ true = sym (w il) ∙ ap not q.0 in
          subst (λ j. get_or now j false ≡ (get_or start j false && same_places 0 (side_at ss j) b d)) (sym p)
          (ap (λ x. get_or x i false) q.1 ∙ left i ii ∙ sym (ap (λ t. get_or start i false && t) f ∙ and_right (get_or start i false)))
      | inr p ↦ ap (λ x. get_or x k false) q.1 ∙ done k (omega (arith, p, h)) l
    ]

pub left_alone : (start ms now : List Bool) (i : ℕ) (r : Bool) → LookedAt ms now i r → ((k : ℕ) → i ≤ k → get_or ms k false ≡ get_or start k false) → (k : ℕ) → i + 1 ≤ k → get_or now k false ≡ get_or start k false
left_alone start ms now i r (inl q) left k h =
    let p : k ≢ i = λ e. absurd (omega arith) in
    ap (λ x. get_or x k false) q.1 ∙ get_or-set_other ms i k false false p ∙ left k (omega arith)
left_alone start ms now i r (inr q) left k h = ap (λ x. get_or x k false) q.1 ∙ left k (omega arith)

-- a constraint that kept its mark would keep the new box too
pub still_clean : (ss : List Sides) (marks now : List Bool) (b d : List Bounds) → length b ≡ length d → AreClean ss marks b → AreSpared ss marks now b d → AreClean ss now d
still_clean ss marks now b d l h w k i t =
    let p = and_second (get_or marks k false) (same_places 0 (side_at ss k) b d) (sym (w k i) ∙ t) in
    stays (side_at ss k) b d l (alike_everywhere (side_at ss k) b d l p.1) (h k i p.0)

-- at the start nothing is clean
pub none_clean : (ss : List Sides) → AreMarks ss [] (replicate 64 false)
none_clean ss k l = unmarked 64 k

pub kept_clean : (ss : List Sides) (made : List Revision) (i k : ℕ) (b : List Bounds) (o : Option (List Bounds)) → o ≡ Some b → is_clean ss (record { number = i; before = b; after = o } ∷ made) k ≡ (nat_eq i k || is_clean ss made k)
kept_clean ss made i k b o e =
    ap (λ p. (nat_eq i k && is_left_so p (same_box b)) || (is_clean ss made k && is_left_so p (same_places 0 (side_at ss k) b))) e
    ∙ ap (λ t. (nat_eq i k && t) || (is_clean ss made k && same_places 0 (side_at ss k) b b)) (box_refl b)
    ∙ ap (λ t. (nat_eq i k && true) || (is_clean ss made k && t)) (places_refl 0 (side_at ss k) b)
    ∙ ap (λ t. t || (is_clean ss made k && true)) (and_right (nat_eq i k))
    ∙ ap (λ t. nat_eq i k || t) (and_right (is_clean ss made k))

pub changed_clean : (ss : List Sides) (made : List Revision) (i k : ℕ) (b d : List Bounds) (o : Option (List Bounds)) → o ≡ Some d → d ≢ b → is_clean ss (record { number = i; before = b; after = o } ∷ made) k ≡ (is_clean ss made k && same_places 0 (side_at ss k) b d)
changed_clean ss made i k b d o e n =
    ap (λ p. (nat_eq i k && is_left_so p (same_box b)) || (is_clean ss made k && is_left_so p (same_places 0 (side_at ss k) b))) e
    ∙ ap (λ t. (nat_eq i k && t) || (is_clean ss made k && same_places 0 (side_at ss k) b d)) (box_not b d n)
    ∙ ap (λ t. t || (is_clean ss made k && same_places 0 (side_at ss k) b d)) (and_none (nat_eq i k))

set_here : (ms : List Bool) (i : ℕ) → i < length ms → get_or (set ms i true) i false ≡ true
set_here [] i h = absurd (omega arith)
set_here (m ∷ ms) zero h = refl
set_here (m ∷ ms) (suc i) h = set_here ms i (omega arith)

pub marks_kept : (ss : List Sides) (marks : List Bool) (made : List Revision) (i : ℕ) (b : List Bounds) → i < length marks → revised (side_at ss i) b ≡ Some b → AreMarks ss made marks → AreMarks ss (revision i (side_at ss i) b ∷ made) (set marks i true)
marks_kept ss marks made i b f e h k l =
    elim (cases_eq k i) [
      | inl p ↦
          subst (λ j. get_or (set marks i true) j false ≡ is_clean ss (revision i (side_at ss i) b ∷ made) j) (sym p)
          (set_here marks i f ∙ sym (kept_clean ss made i i b (revised (side_at ss i) b) e ∙ ap (λ t. t || is_clean ss made i) (eq-eqb i i refl)))
      | inr p ↦
          get_or-set_other marks i k true false p ∙ h k l
          ∙ sym (kept_clean ss made i k b (revised (side_at ss i) b) e ∙ ap (λ t. t || is_clean ss made k) (other_number i k p))
    ]

pub marks_changed : (ss : List Sides) (marks now : List Bool) (made : List Revision) (i : ℕ) (b d : List Bounds) → revised (side_at ss i) b ≡ Some d → d ≢ b → AreSpared ss marks now b d → AreMarks ss made marks → AreMarks ss (revision i (side_at ss i) b ∷ made) now
marks_changed ss marks now made i b d e n w h k l =
    w k l ∙ ap (λ t. t && same_places 0 (side_at ss k) b d) (h k l) ∙ sym (changed_clean ss made i k b d (revised (side_at ss i) b) e n)
