-- A list in two parts.
use Rattle.std.proofs.Common.{◌≡◌, ℕ, zero, suc, ◌+◌, ◌-◌, ◌<◌, List, [], ◌∷◌, ◌++◌, length, slice_index_or, slice_set, inl, inr, refl, subst, sym, arith, length-append}
use Rattle.std.proofs.lemmas.Bool.{cases_lt}
use Rattle.std.proofs.lemmas.List.{get_or_append_left, get_or-append-add}
use Rattle.pv_fork.specs.Places.{AllFrom, ChangesFrom}

pub first_part : {X : Type 0} (P : ℕ → X → Type 0) (base : ℕ) (a b : List X) → AllFrom P base (a ++ b) → AllFrom P base a
first_part P base a b all = record {
  room = let r = all.room in omega (arith, length-append a b);
  each = λ k d there.
      subst (P (base + k)) (get_or_append_left a b d k there)
      (all.each k d (let w : k < length (a ++ b) = omega (arith, length-append a b) in w));
}

pub rest_part : {X : Type 0} (P : ℕ → X → Type 0) (base next : ℕ) (a b : List X) → base + length a ≡ next → AllFrom P base (a ++ b) → AllFrom P next b
rest_part P base next a b from all = record {
  room = let r = all.room in omega (arith, length-append a b);
  each = λ k d there.
      subst (λ (n : ℕ). P n (slice_index_or b k d)) (let e : base + (length a + k) ≡ next + k = omega arith in e)
      (subst (P (base + (length a + k))) (get_or-append-add a b k d)
      (all.each (length a + k) d (let w : length a + k < length (a ++ b) = omega (arith, length-append a b) in w)));
}

near : {X : Type 0} (R : ℕ → X → X → Type 0) (base : ℕ) (a b c d : List X) → ChangesFrom R base a c → (k : ℕ) (x : X) → k < length a
    → R (base + k) (slice_index_or (a ++ b) k x) (slice_index_or (c ++ d) k x)
near R base a b c d first k x there =
    let same : k < length c = let l = first.len in omega arith in
    subst (λ u. R (base + k) u (slice_index_or (c ++ d) k x)) (sym (get_or_append_left a b x k there))
    (subst (R (base + k) (slice_index_or a k x)) (sym (get_or_append_left c d x k same)) (first.each k x there))

far : {X : Type 0} (R : ℕ → X → X → Type 0) (base next : ℕ) (a b c d : List X) → base + length a ≡ next → length c ≡ length a
    → ChangesFrom R next b d → (j : ℕ) (x : X) → j < length b
    → R (base + (length a + j)) (slice_index_or (a ++ b) (length a + j) x) (slice_index_or (c ++ d) (length a + j) x)
far R base next a b c d from len rest j x there =
    let place : next + j ≡ base + (length a + j) = omega arith in
    let after = subst (λ (n : ℕ). slice_index_or (c ++ d) (n + j) x ≡ slice_index_or d j x) len (get_or-append-add c d j x) in
    subst (λ u. R (base + (length a + j)) u (slice_index_or (c ++ d) (length a + j) x)) (sym (get_or-append-add a b j x))
    (subst (R (base + (length a + j)) (slice_index_or b j x)) (sym after)
    (subst (λ (n : ℕ). R n (slice_index_or b j x) (slice_index_or d j x)) place (rest.each j x there)))

pub joined : {X : Type 0} (R : ℕ → X → X → Type 0) (base next : ℕ) (xs a b c d : List X) → xs ≡ a ++ b → base + length a ≡ next
    → ChangesFrom R base a c → ChangesFrom R next b d → ChangesFrom R base xs (c ++ d)
joined {X = X} R base next xs a b c d value from first rest = subst (λ (whole : List X). ChangesFrom R base whole (c ++ d)) (sym value) (record {
  len = let l1 = first.len in let l2 = rest.len in omega (arith, length-append a b, length-append c d);
  each = λ k x there. elim (cases_lt k (length a)) [
    | inl h ↦ near R base a b c d first k x h
    | inr h ↦
        let j : k - length a < length b = omega (arith, length-append a b) in
        subst (λ (n : ℕ). R (base + n) (slice_index_or (a ++ b) n x) (slice_index_or (c ++ d) n x)) (let e : length a + (k - length a) ≡ k = omega arith in e)
        (far R base next a b c d from first.len rest (k - length a) x j)
  ];
})

pub one_part : {X : Type 0} (R : ℕ → X → X → Type 0) (base : ℕ) (xs : List X) (d v : X) → length xs ≡ 1 → R base (slice_index_or xs 0 d) v
    → ChangesFrom R base xs (slice_set xs 0 v)
one_part R base [] d v one r = let no : ⊥ = omega arith in absurd no
one_part R base (x ∷ y ∷ xs) d v one r = let no : ⊥ = omega arith in absurd no
one_part {X = X} R base (x ∷ []) d v one r = record {
  len = refl;
  each = at;
}
  where
    at : (k : ℕ) (e : X) → k < 1 → R (base + k) (slice_index_or (x ∷ []) k e) (slice_index_or (slice_set (x ∷ []) 0 v) k e)
    at zero e there = subst (λ (n : ℕ). R n x v) (let z : base ≡ base + 0 = omega arith in z) r
    at (suc k) e there = let no : ⊥ = omega arith in absurd no
