-- Tests for the same intervals, boxes and places of variables.
use Rattle.std.proofs.Common.{◌≡◌, ◌≢◌, ◌⊎◌, inl, inr, ℕ, zero, suc, ◌+◌, ◌<◌, ◌≤◌, List, [], ◌∷◌, length, take, refl, ap, sym, ◌∙◌, subst, arith}
use Rattle.std.specs.Prelude.{Bool, true, false, not, ◌&&◌, ◌||◌, IsFalse, ◌↔◌}
use Rattle.std.proofs.lemmas.Bool.{true≢false, cases_lt, and_from}
use Rattle.pv_num.proofs.Orders.{le-refl, le-antisym}
use Rattle.pv_interval.specs.Bounds.{Bounds}
use Rattle.pv_hc4.specs.Chain.{at}
use Rattle.pv_hc4.specs.Revise.{Sides}
use Rattle.pv_ctc.specs.Revisions.{same_interval, same_box, same_places}
use Rattle.pv_ctc.specs.Uses.{AreUses, AreAlikeFor, has_variable}
use Rattle.pv_ctc.proofs.Marking.{beyond, at_take}
use Rattle.pv_interval.proofs.Alike.{same_bounds}

both : (p r : Bool) → (p && r) ≡ true → (p ≡ true) × (r ≡ true)
both true r h = (refl, h)
both false r h = absurd (true≢false (sym h))

pub interval_is : (x y : Bounds) → same_interval x y ≡ true → x ≡ y
interval_is x y h =
    let p = both _ _ h in
    let l = both _ _ p.0 in
    let u = both _ _ p.1 in
    same_bounds x y (le-antisym x.lo y.lo l.0 l.1) (le-antisym x.hi y.hi u.0 u.1)

interval_refl : (x : Bounds) → same_interval x x ≡ true
interval_refl x = and_from _ _ (and_from _ _ (le-refl x.lo) (le-refl x.lo)) (and_from _ _ (le-refl x.hi) (le-refl x.hi))

pub box_is : (b c : List Bounds) → same_box b c ≡ true → b ≡ c
box_is [] [] h = refl
box_is [] (y ∷ c) h = absurd (true≢false (sym h))
box_is (x ∷ b) [] h = absurd (true≢false (sym h))
box_is (x ∷ b) (y ∷ c) h = let p = both _ _ h in ap (λ z. z ∷ b) (interval_is x y p.0) ∙ ap (λ d. y ∷ d) (box_is b c p.1)

pub box_refl : (b : List Bounds) → same_box b b ≡ true
box_refl [] = refl
box_refl (x ∷ b) = and_from _ _ (interval_refl x) (box_refl b)

pub box_not : (b c : List Bounds) → c ≢ b → same_box b c ≡ false
box_not b c n = go (same_box b c) refl
  where
    go : (t : Bool) → same_box b c ≡ t → same_box b c ≡ false
    go true e = absurd (n (sym (box_is b c e)))
    go false e = e

pub places_refl : (i : ℕ) (s : Sides) (b : List Bounds) → same_places i s b b ≡ true
places_refl i s [] = refl
places_refl i s (x ∷ b) = and_from _ _ (or_later (not (has_variable i s)) (same_interval x x) (interval_refl x)) (places_refl (i + 1) s b)
  where
    or_later : (t u : Bool) → u ≡ true → (t || u) ≡ true
    or_later true u e = refl
    or_later false u e = e

same_there : (t u : Bool) → (not t || u) ≡ true → t ≡ true → u ≡ true
same_there true u h e = h
same_there false u h e = absurd (true≢false (sym e))

there_same : (t : Bool) (x y : Bounds) → (t ≡ true → x ≡ y) → (not t || same_interval x y) ≡ true
there_same true x y h = subst (λ z. same_interval x z ≡ true) (h refl) (interval_refl x)
there_same false x y h = refl

-- the test holds exactly where the places of the constraint's variables are the same
pub alike_from : (i : ℕ) (s : Sides) (b d : List Bounds) → length b ≡ length d → same_places i s b d ≡ true → (j : ℕ) → j < length d → has_variable (i + j) s ≡ true → at b j ≡ at d j
alike_from i s [] [] l h j k v = refl
alike_from i s [] (y ∷ d) l h j k v = absurd (omega arith)
alike_from i s (x ∷ b) [] l h j k v = absurd (omega arith)
alike_from i s (x ∷ b) (y ∷ d) l h zero k v =
    let p = both (not (has_variable i s) || same_interval x y) (same_places (i + 1) s b d) h in
    let z : i + 0 ≡ i = omega arith in
    interval_is x y (same_there (has_variable i s) (same_interval x y) p.0 (ap (λ n. has_variable n s) (sym z) ∙ v))
alike_from i s (x ∷ b) (y ∷ d) l h (suc j) k v =
    let p = both (not (has_variable i s) || same_interval x y) (same_places (i + 1) s b d) h in
    let z : i + suc j ≡ (i + 1) + j = omega arith in
    let m : length b ≡ length d = omega arith in
    let n : j < length d = omega arith in
    alike_from (i + 1) s b d m p.1 j n (ap (λ n. has_variable n s) (sym z) ∙ v)

pub from_alike : (i : ℕ) (s : Sides) (b d : List Bounds) → length b ≡ length d → ((j : ℕ) → j < length d → has_variable (i + j) s ≡ true → at b j ≡ at d j) → same_places i s b d ≡ true
from_alike i s [] d l h = refl
from_alike i s (x ∷ b) [] l h = absurd (omega arith)
from_alike i s (x ∷ b) (y ∷ d) l h =
    let z : i ≡ i + 0 = omega arith in
    let m : length b ≡ length d = omega arith in
    and_from _ _ (there_same (has_variable i s) x y (λ v. h 0 (omega arith) (ap (λ n. has_variable n s) (sym z) ∙ v)))
    (from_alike (i + 1) s b d m (λ j k v. let w : i + suc j ≡ (i + 1) + j = omega arith in h (suc j) (omega arith) (ap (λ n. has_variable n s) w ∙ v)))

-- places beyond both boxes count as the same
pub alike_everywhere : (s : Sides) (b d : List Bounds) → length b ≡ length d → same_places 0 s b d ≡ true → (j : ℕ) → has_variable j s ≡ true → at b j ≡ at d j
alike_everywhere s b d l h j v = go (cases_lt j (length d))
  where
    go : (j < length d) ⊎ (length d ≤ j) → at b j ≡ at d j
    go (inl k) = let z : 0 + j ≡ j = omega arith in alike_from 0 s b d l h j k (ap (λ n. has_variable n s) z ∙ v)
    go (inr k) = let m : length b ≤ j = omega arith in beyond b j m ∙ sym (beyond d j k)

-- what the test of marks says, for the places that were copied
pub changed_is : (s : Sides) (u : List Bool) (entry b d : List Bounds) (r : Bool) → AreUses u s → length d ≤ 12 → length b ≡ length d → take (length d) entry ≡ b → (IsFalse r ↔ AreAlikeFor u entry d) → not r ≡ same_places 0 s b d
changed_is s u entry b d r w f l t h = go r (same_places 0 s b d) refl h
  where
    place_at : (j : ℕ) → j < length d → at b j ≡ at entry j
    place_at j k = sym (ap (λ x. at x j) t) ∙ at_take entry (length d) j k

    alike : same_places 0 s b d ≡ true → AreAlikeFor u entry d
    alike e j k v = let z : 0 + j ≡ j = omega arith in let m : j < 12 = omega arith in sym (place_at j k) ∙ alike_from 0 s b d l e j k (ap (λ n. has_variable n s) z ∙ sym (w j m) ∙ v)

    back : AreAlikeFor u entry d → same_places 0 s b d ≡ true
    back a = from_alike 0 s b d l (λ j k v. let z : 0 + j ≡ j = omega arith in let m : j < 12 = omega arith in place_at j k ∙ a j k (w j m ∙ ap (λ n. has_variable n s) (sym z) ∙ v))

    go : (r t : Bool) → same_places 0 s b d ≡ t → (IsFalse r ↔ AreAlikeFor u entry d) → not r ≡ same_places 0 s b d
    go false t e h = sym (back (h.0 refl))
    go true true e h = absurd (true≢false (h.1 (alike e)))
    go true false e h = sym e
