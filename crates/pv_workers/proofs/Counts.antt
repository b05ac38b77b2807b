-- The counts of several workers.
use Rattle.std.proofs.Common.{◌≡◌, ℕ, zero, suc, ◌+◌, ◌-◌, ◌^◌, ◌<◌, ◌≤◌, List, [], ◌∷◌, ◌++◌, length, length-append, get_or, refl, sym, ◌∙◌, ap, arith, subst}
use Rattle.pv_board.specs.Tallies.{Tally, tally_of, joined}
use Rattle.pv_pool.specs.Counting.{AreBelow, HasServed}
use Rattle.pv_workers.specs.Accounts.{numbers_of, parts_in, AllBelow, HasRoom}

pub parts_push : (ts : List Tally) (t : Tally) → parts_in (ts ++ t ∷ []) ≡ parts_in ts + t.parts
parts_push [] t = omega arith
parts_push (u ∷ ts) t = let r = parts_push ts t in omega (arith, r)

pub below_push : (bound : ℕ) (ts : List Tally) (t : Tally) → AllBelow bound ts → AreBelow bound (numbers_of t) → AllBelow bound (ts ++ t ∷ [])
below_push bound [] t h k = (k, tt)
below_push bound (u ∷ ts) t h k = (h.0, below_push bound ts t h.1 k)

pub below_last : (bound : ℕ) (ts : List Tally) (t : Tally) → AllBelow bound (ts ++ t ∷ []) → AreBelow bound (numbers_of t)
below_last bound [] t h = h.0
below_last bound (u ∷ ts) t h = below_last bound ts t h.1

pub below_first : (bound : ℕ) (ts : List Tally) (t : Tally) → AllBelow bound (ts ++ t ∷ []) → AllBelow bound ts
below_first bound [] t h = tt
below_first bound (u ∷ ts) t h = (h.0, below_first bound ts t h.1)

-- a part was split off
pub kept_tally : (old new : Tally) → old ≡ tally_of old.parts → new ≡ record old { parts = old.parts - 1 } → new ≡ tally_of new.parts
kept_tally old new e h =
    let p : new.parts ≡ old.parts - 1 = ap (λ (t : Tally). t.parts) h in
    h ∙ ap (λ (t : Tally). record t { parts = old.parts - 1 }) e ∙ ap tally_of (sym p)

pub none_below : (t : Tally) (n : ℕ) → t ≡ tally_of n → AreBelow 1 (numbers_of t)
none_below t n e = subst (λ (t : Tally). AreBelow 1 (numbers_of t)) (sym e) (omega arith, omega arith, omega arith)

-- the first counts of the sum
pub room_first : (ts us : List Tally) (t : Tally) → us ≡ ts ++ t ∷ [] → length us ≤ 16 → AllBelow (2 ^ 71) us → HasRoom (length ts) t
room_first ts us t e few h =
    let b : AreBelow (2 ^ 71) (numbers_of t) = below_last (2 ^ 71) ts t (subst (AllBelow (2 ^ 71)) e h) in
    let n : length us ≡ length ts + 1 = ap length e ∙ length-append ts (t ∷ []) in
    record { given = omega (arith, b.0, n, few); spent = omega (arith, b.1, n, few); looks = omega (arith, b.2, n, few) }

-- and further ones
pub room_more : (ts us : List Tally) (t a new : Tally) → us ≡ ts ++ t ∷ [] → AllBelow (2 ^ 71) us → HasRoom (length us) a → new ≡ joined a t → HasRoom (length ts) new
room_more ts us t a new e h r j =
    let b : AreBelow (2 ^ 71) (numbers_of t) = below_last (2 ^ 71) ts t (subst (AllBelow (2 ^ 71)) e h) in
    let n : length us ≡ length ts + 1 = ap length e ∙ length-append ts (t ∷ []) in
    let x = r.given in let y = r.spent in let z = r.looks in
    let p : new.given ≡ a.given + t.given = ap (λ (t : Tally). t.given) j in
    let q : new.spent ≡ a.spent + t.spent = ap (λ (t : Tally). t.spent) j in
    let o : new.looks ≡ a.looks + t.looks = ap (λ (t : Tally). t.looks) j in
    record { given = omega (arith, b.0, n, x, p); spent = omega (arith, b.1, n, y, q); looks = omega (arith, b.2, n, z, o) }

pub record Joins (a t : Tally) : Type 0 where
  pub looks : a.looks + t.looks < 1267650600228229401496703205376
  pub given : a.given + t.given < 1267650600228229401496703205376
  pub spent : a.spent + t.spent < 1267650600228229401496703205376

pub can_join : (ts us : List Tally) (t a : Tally) → us ≡ ts ++ t ∷ [] → AllBelow (2 ^ 71) us → HasRoom (length us) a → Joins a t
can_join ts us t a e h r =
    let b : AreBelow (2 ^ 71) (numbers_of t) = below_last (2 ^ 71) ts t (subst (AllBelow (2 ^ 71)) e h) in
    let x = r.given in let y = r.spent in let z = r.looks in
    record { looks = omega (arith, b.2, z); given = omega (arith, b.0, x); spent = omega (arith, b.1, y) }

-- what a run of the pool leaves of them
pub record Served (before after : List Tally) : Type 0 where
  pub parts : parts_in after ≡ parts_in before
  pub below : AllBelow (2 ^ 71) after

pub served : (before after : List Tally) → length after ≡ length before → AllBelow 1 before
    → ((i : ℕ) (t : Tally) → i < length before → HasServed (numbers_of (get_or before i t)) (numbers_of (get_or after i t))) → Served before after
served [] [] e h s = record { parts = refl; below = tt }
served [] (u ∷ us) e h s = absurd (omega (arith, e))
served (t ∷ ts) [] e h s = absurd (omega (arith, e))
served (t ∷ ts) (u ∷ us) e h s =
    let one = s 0 t (omega arith) in
    let rest = served ts us (omega (arith, e)) h.1 (λ i d l. s (suc i) d (omega (arith, l))) in
    let p = one.parts in let q = rest.parts in
    let x = one.few_given in let y = one.few_back in let z = one.few_looks in
    let b = h.0 in
    record { parts = omega (arith, p, q); below = ((omega (arith, x, b.0), omega (arith, y, b.1), omega (arith, z, b.2)), rest.below) }

-- each of them is below a greater bound
pub each_below : (ts : List Tally) → AllBelow 1 ts → (i : ℕ) (t : Tally) → i < length ts → AreBelow (2 ^ 90) (numbers_of (get_or ts i t))
each_below [] h i t l = absurd (omega (arith, l))
each_below (u ∷ ts) h zero t l = let b = h.0 in (omega (arith, b.0), omega (arith, b.1), omega (arith, b.2))
each_below (u ∷ ts) h (suc i) t l = each_below ts h.1 i t (omega (arith, l))
