-- The constraints that have a variable.
use Rattle.std.proofs.Common.{◌≡◌, ◌≢◌, ◌⊎◌, inl, inr, ℕ, zero, suc, ◌+◌, ◌<◌, ◌≤◌, List, [], ◌∷◌, ◌++◌, length, refl, ap, sym, ◌∙◌, subst, arith, get_or, set, get_or-set_other}
use Rattle.std.specs.Prelude.{Bool, true, false, ◌&&◌, ◌||◌, nat_eq, replicate, map}
use Rattle.std.proofs.lemmas.Bool.{cases_eq}
use Rattle.pv_ctc.proofs.Marking.{uses_length}
use Rattle.pv_hc4.specs.MarkSets.{is_marked}
use Rattle.pv_hc4.specs.declared.marks.Marks.{Marks}
use Rattle.pv_hc4.specs.Graphs.{Parts, sides_of}
use Rattle.pv_hc4.specs.Members.{AreOver}
use Rattle.pv_hc4.specs.Revise.{Sides}
use Rattle.pv_ctc.specs.Members.{AllOver}
use Rattle.pv_ctc.specs.Contracting.{side_at}
use Rattle.pv_ctc.specs.Uses.{HaveUses, has_variable}
use Rattle.pv_ctc.specs.Users.{no_marks, has_user, AreTurned, AreUsers}
use Rattle.pv_hc4.proofs.Masks.{other_number, same_number}

and_true : (t u : Bool) → u ≡ true → (t && u) ≡ t
and_true true u e = e
and_true false u e = refl

-- one variable was looked at
abbrev pub LookedAt : List Marks → List Marks → ℕ → ℕ → Marks → Bool → Type 0
LookedAt us now v number m t =
    ((t ≡ true) × (now ≡ set us v m) × ((k : ℕ) → is_marked m k ≡ (nat_eq number k || has_user us v k))) ⊎ ((t ≡ false) × (now ≡ us))

-- the users of variable v with those of a constraint added
abbrev pub AddedAt : List Marks → List Marks → List Bool → ℕ → ℕ → Type 0
AddedAt start now used number v = (k : ℕ) → has_user now v k ≡ ((nat_eq number k && get_or used v false) || has_user start v k)

there_same : (us now : List Marks) (v w number : ℕ) (m : Marks) (t : Bool) → LookedAt us now v number m t → w ≢ v → (k : ℕ) → has_user now w k ≡ has_user us w k
there_same us now v w number m t (inl q) n k = ap (λ x. has_user x w k) q.1 ∙ ap (λ x. is_marked x k) (get_or-set_other us v w m no_marks n)
there_same us now v w number m t (inr q) n k = ap (λ x. has_user x w k) q.1

-- ---- all constraints, one after another

pub more_turned : (old now : List Marks) (uses : List (List Bool)) (i number : ℕ) → number ≡ i
    → ((v k : ℕ) → v < 12 → has_user now v k ≡ ((nat_eq number k && get_or (get_or uses i []) v false) || has_user old v k))
    → ((v k : ℕ) → v < 12 → k < i → has_user old v k ≡ get_or (get_or uses k []) v false)
    → ((v k : ℕ) → v < 12 → i ≤ k → has_user old v k ≡ false)
    → (v k : ℕ) → v < 12 → k < i + 1 → has_user now v k ≡ get_or (get_or uses k []) v false
more_turned old now uses i number e h done left v k w m = elim (cases_eq k i) [
  | inl p ↦
      let il : i ≤ k = omega (arith, p) in
      let used = get_or uses i [] in
      h v k w ∙ ap (λ t. (t && get_or used v false) || has_user old v k) (ap (λ n. nat_eq n k) e ∙ same_number i k p)
      ∙ ap (λ t. get_or used v false || t) (left v k w il) ∙ or_false (get_or used v false) ∙ ap (λ j. get_or (get_or uses j []) v false) (sym p)
  | inr p ↦
      let il : k < i = omega (arith, p, m) in
      h v k w ∙ ap (λ t. (t && get_or (get_or uses i []) v false) || has_user old v k) (ap (λ n. nat_eq n k) e ∙ other_number i k p) ∙ done v k w il
]
  where
    or_false : (t : Bool) → (t || false) ≡ t
    or_false true = refl
    or_false false = refl

pub left_turned : (old now : List Marks) (used : List Bool) (i number : ℕ) → number ≡ i
    → ((v k : ℕ) → v < 12 → has_user now v k ≡ ((nat_eq number k && get_or used v false) || has_user old v k))
    → ((v k : ℕ) → v < 12 → i ≤ k → has_user old v k ≡ false)
    → (v k : ℕ) → v < 12 → i + 1 ≤ k → has_user now v k ≡ false
left_turned old now used i number e h left v k w m =
    let p : k ≢ i = λ q. absurd (omega (arith, q, m)) in
    h v k w ∙ ap (λ t. (t && get_or used v false) || has_user old v k) (ap (λ n. nat_eq n k) e ∙ other_number i k p) ∙ left v k w (omega arith)

pub none_turned : (m : Marks) → ((k : ℕ) → is_marked m k ≡ false) → (n v k : ℕ) → v < n → has_user (replicate n m) v k ≡ false
none_turned m h zero v k l = absurd (omega arith)
none_turned m h (suc n) zero k l = h k
none_turned m h (suc n) (suc v) k l = none_turned m h n v k (omega arith)

-- turned round, the variables of the constraints
pub are_users : (users : List Marks) (uses : List (List Bool)) (ss : List Sides) → HaveUses uses ss → AreTurned users uses → AreUsers users ss
are_users users uses ss h t v k w l =
    t v k w (subst (λ n. k < n) (sym (uses_length uses ss h)) l) ∙ at_uses uses ss k h l v w
  where
    at_uses : (uses : List (List Bool)) (ss : List Sides) (k : ℕ) → HaveUses uses ss → k < length ss → (v : ℕ) → v < 12 → get_or (get_or uses k []) v false ≡ has_variable v (side_at ss k)
    at_uses [] [] k h l = absurd (omega arith)
    at_uses [] (s ∷ ss) k h l = absurd h
    at_uses (u ∷ uses) [] k h l = absurd h
    at_uses (u ∷ uses) (s ∷ ss) zero h l = h.0
    at_uses (u ∷ uses) (s ∷ ss) (suc k) h l = at_uses uses ss k h.1 (omega arith)

pub all_over_push : (n : ℕ) (gs : List Parts) (g : Parts) → AllOver n (map sides_of gs) → g.dims ≡ n → AreOver g.dims (sides_of g) → AllOver n (map sides_of (gs ++ g ∷ []))
all_over_push n [] g h e o = (subst (λ m. AreOver m (sides_of g)) e o, tt)
all_over_push n (f ∷ gs) g h e o = (h.0, all_over_push n gs g h.1 e o)
