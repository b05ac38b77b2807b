-- What a path's marks say of what it holds.
use Rattle.std.proofs.Common.{◌≡◌, ℕ, zero, suc, ◌+◌, ◌-◌, ◌*◌, ◌<◌, ◌≤◌, Bool, true, false, Option, Some, None, List, [], ◌∷◌, refl, sym, ◌∙◌, ap, arith, inl, inr}
use Rattle.std.specs.Prelude.{slice_index_or, nat_eq, is_some, IfSome, IfNone}
use Rattle.std.proofs.lemmas.Bool.Decides.{eqb_tells}
use Rattle.slab.specs.Slab.{Slab, get, values}
use Rattle.pv_board.specs.declared.mark.Mark.{Mark}
use Rattle.pv_board.specs.Marks.{weigh, at, holds, marked}
use Rattle.pv_board.proofs.Slots.{amount, total, kept_total}
use Rattle.pv_board.proofs.Paths.{at_self, at_none, at_same, at_sum}

abbrev one : List Bool → Mark → ℕ
one q m = at m.path q 1

abbrev all : List Bool → Mark → ℕ
all q m = at m.path q (suc m.grant)

-- a path with no mark holds nothing
pub unmarked : (ms : List Mark) (q : List Bool) → marked ms q ≡ 0 → holds ms q ≡ 0
unmarked [] q e = refl
unmarked (m ∷ ms) q e =
    let z = at_none m.path q (suc m.grant) (omega (arith, e)) in let r = unmarked ms q (omega (arith, e)) in omega (arith, z, r)

-- and a path with a mark holds some
pub marked_holds : (ms : List Mark) (q : List Bool) → marked ms q ≤ holds ms q
marked_holds [] q = omega arith
marked_holds (m ∷ ms) q =
    let s = at_sum m.path q 1 m.grant in let r = marked_holds ms q in
    let t : at m.path q (1 + m.grant) ≡ at m.path q (suc m.grant) = ap (at m.path q) (omega arith) in
    omega (arith, s, r, t)

-- with small grants it holds at most 16
pub few_held : (ms : List Mark) (q : List Bool) → weigh (λ m. m.grant - 15) ms ≡ 0 → holds ms q ≤ 16 * marked ms q
few_held [] q e = omega arith
few_held (m ∷ ms) q e =
    let r = few_held ms q (omega (arith, e)) in
    let g : suc m.grant ≤ 16 = omega (arith, e) in
    omega (arith, r, g, at_sixteen m.path q (suc m.grant) g)
  where
    at_sixteen : (p q : List Bool) (n : ℕ) → n ≤ 16 → at p q n ≤ 16 * at p q 1
    at_sixteen [] [] n h = omega (arith, h)
    at_sixteen [] (c ∷ q) n h = omega arith
    at_sixteen (b ∷ p) [] n h = omega arith
    at_sixteen (false ∷ p) (false ∷ q) n h = at_sixteen p q n h
    at_sixteen (false ∷ p) (true ∷ q) n h = omega arith
    at_sixteen (true ∷ p) (false ∷ q) n h = omega arith
    at_sixteen (true ∷ p) (true ∷ q) n h = at_sixteen p q n h

-- a slot with a mark makes its path marked
slot_marked : (xs : List (Option Mark)) (k : ℕ) (m : Mark) → slice_index_or xs k None ≡ Some m → 0 < total (one m.path) xs
slot_marked [] k m e = cc
slot_marked (x ∷ xs) zero m e =
    let a : amount (one m.path) x ≡ at m.path m.path 1 = ap (amount (one m.path)) e in let s = at_self m.path 1 in omega (arith, a, s)
slot_marked (x ∷ xs) (suc k) m e = let r = slot_marked xs k m e in omega (arith, r)

none_total : (xs : List (Option Mark)) (q : List Bool) → total (one q) xs ≡ 0 → total (all q) xs ≡ 0
none_total [] q e = refl
none_total (None ∷ xs) q e = let r = none_total xs q (omega (arith, e)) in omega (arith, r)
none_total (Some m ∷ xs) q e = let z = at_none m.path q (suc m.grant) (omega (arith, e)) in let r = none_total xs q (omega (arith, e)) in omega (arith, z, r)

none_amount : (x : Option Mark) (q : List Bool) → amount (one q) x ≡ 0 → amount (all q) x ≡ 0
none_amount None q e = refl
none_amount (Some m) q e = at_none m.path q (suc m.grant) e

-- a path with one mark holds what the mark says
slot_holds : (xs : List (Option Mark)) (k : ℕ) (m : Mark) → slice_index_or xs k None ≡ Some m → total (one m.path) xs ≤ 1 → total (all m.path) xs ≡ suc m.grant
slot_holds [] k m e h = cc
slot_holds (x ∷ xs) zero m e h =
    let a : amount (one m.path) x ≡ at m.path m.path 1 = ap (amount (one m.path)) e in let s = at_self m.path 1 in
    let b : amount (all m.path) x ≡ at m.path m.path (suc m.grant) = ap (amount (all m.path)) e in let t = at_self m.path (suc m.grant) in
    let r = none_total xs m.path (omega (arith, a, s, h)) in omega (arith, b, t, r)
slot_holds (x ∷ xs) (suc k) m e h =
    let some = slot_marked xs k m e in
    let z = none_amount x m.path (omega (arith, some, h)) in
    let r = slot_holds xs k m e (omega (arith, h)) in omega (arith, z, r)

pub slot_current : (s : Slab Mark) (k : ℕ) (m : Mark) → get s k ≡ Some m → marked (values s) m.path ≤ 1 → holds (values s) m.path ≡ suc m.grant
slot_current s k m e h =
    let a = kept_total (one m.path) s.slots in let b = kept_total (all m.path) s.slots in
    let r = slot_holds s.slots k m e (omega (arith, a, h)) in omega (arith, b, r)

-- what holds units has a slot
pub record HasSlot (xs : List (Option Mark)) (q : List Bool) : Type 0 where
  pub slot : ℕ
  pub mark : Mark
  pub there : slice_index_or xs slot None ≡ Some mark
  pub path : mark.path ≡ q

here_or_behind : (m : Mark) (xs : List (Option Mark)) (q : List Bool) (n : ℕ) → at m.path q (suc m.grant) ≡ n → (n ≡ 0 → HasSlot xs q) → HasSlot (Some m ∷ xs) q
here_or_behind m xs q zero e h = let r = h refl in record { slot = suc r.slot; mark = r.mark; there = r.there; path = r.path }
here_or_behind m xs q (suc n) e h = record { slot = 0; mark = m; there = refl; path = at_same m.path q (suc m.grant) (omega (arith, e)) }

some_slot : (xs : List (Option Mark)) (q : List Bool) → 0 < total (all q) xs → HasSlot xs q
some_slot [] q h = absurd (omega arith)
some_slot (None ∷ xs) q h = let r = some_slot xs q (omega (arith, h)) in record { slot = suc r.slot; mark = r.mark; there = r.there; path = r.path }
some_slot (Some m ∷ xs) q h = here_or_behind m xs q (at m.path q (suc m.grant)) refl (λ e. some_slot xs q (omega (arith, h, e)))

same_mark : (m : Mark) (p : List Bool) (g : ℕ) → m.path ≡ p → suc m.grant ≡ suc g → Some m ≡ Some (record { path = p; grant = g })
same_mark m p g e f = let h : m.grant ≡ g = omega (arith, f) in λ i. Some (record { path = e i; grant = h i })

-- where no slot has a mark, it is not current
pub none_current : (s : Slab Mark) (m : Mark) → ((k : ℕ) → get s k ≡ Some m → ⊥) → marked (values s) m.path ≤ 1 → holds (values s) m.path ≡ suc m.grant → ⊥
none_current s m h few e =
    let b = kept_total (all m.path) s.slots in
    let r = some_slot s.slots m.path (omega (arith, b, e)) in
    let fewer : marked (values s) r.mark.path ≤ 1 = let w = ap (marked (values s)) r.path in omega (arith, w, few) in
    let c = slot_current s r.slot r.mark r.there fewer in
    let d = ap (holds (values s)) r.path in
    h r.slot (r.there ∙ same_mark r.mark m.path m.grant r.path (omega (arith, c, d, e)))

pub found_current : (s : Slab Mark) (m : Mark) (o : Option ℕ) → IfSome o (λ k. get s k ≡ Some m) → IfNone o ((k : ℕ) → get s k ≡ Some m → ⊥) → marked (values s) m.path ≤ 1
    → is_some o ≡ nat_eq (holds (values s) m.path) (suc m.grant)
found_current s m None found none few =
    elim (eqb_tells (holds (values s) m.path) (suc m.grant)) [ inl e ↦ absurd (none_current s m none few e.1) | inr e ↦ sym e.0 ]
found_current s m (Some k) found none few =
    elim (eqb_tells (holds (values s) m.path) (suc m.grant)) [ inl e ↦ sym e.0 | inr e ↦ absurd (e.1 (slot_current s k m found few)) ]
