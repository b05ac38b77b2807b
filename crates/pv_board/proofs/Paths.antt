-- Units at a path.
use Rattle.std.proofs.Common.{◌≡◌, ℕ, ◌+◌, ◌<◌, ◌≤◌, Bool, true, false, List, [], ◌∷◌, ◌++◌, map, length, refl, ap, arith}
use Rattle.pv_board.specs.Marks.{weigh, at}

pub at_self : (p : List Bool) (n : ℕ) → at p p n ≡ n
at_self [] n = refl
at_self (false ∷ p) n = at_self p n
at_self (true ∷ p) n = at_self p n

pub at_none : (p q : List Bool) (n : ℕ) → at p q 1 ≡ 0 → at p q n ≡ 0
at_none [] [] n e = cc
at_none [] (c ∷ q) n e = refl
at_none (b ∷ p) [] n e = refl
at_none (false ∷ p) (false ∷ q) n e = at_none p q n e
at_none (false ∷ p) (true ∷ q) n e = refl
at_none (true ∷ p) (false ∷ q) n e = refl
at_none (true ∷ p) (true ∷ q) n e = at_none p q n e

pub at_same : (p q : List Bool) (n : ℕ) → 0 < at p q n → p ≡ q
at_same [] [] n h = refl
at_same [] (c ∷ q) n h = absurd (omega arith)
at_same (b ∷ p) [] n h = absurd (omega arith)
at_same (false ∷ p) (false ∷ q) n h = ap (λ (r : List Bool). false ∷ r) (at_same p q n h)
at_same (false ∷ p) (true ∷ q) n h = absurd (omega arith)
at_same (true ∷ p) (false ∷ q) n h = absurd (omega arith)
at_same (true ∷ p) (true ∷ q) n h = ap (λ (r : List Bool). true ∷ r) (at_same p q n h)

pub at_sum : (p q : List Bool) (m n : ℕ) → at p q (m + n) ≡ at p q m + at p q n
at_sum [] [] m n = refl
at_sum [] (c ∷ q) m n = refl
at_sum (b ∷ p) [] m n = refl
at_sum (false ∷ p) (false ∷ q) m n = at_sum p q m n
at_sum (false ∷ p) (true ∷ q) m n = refl
at_sum (true ∷ p) (false ∷ q) m n = refl
at_sum (true ∷ p) (true ∷ q) m n = at_sum p q m n

pub at_least : (p q : List Bool) (n : ℕ) → at p q n ≤ n
at_least [] [] n = omega arith
at_least [] (c ∷ q) n = omega arith
at_least (b ∷ p) [] n = omega arith
at_least (false ∷ p) (false ∷ q) n = at_least p q n
at_least (false ∷ p) (true ∷ q) n = omega arith
at_least (true ∷ p) (false ∷ q) n = omega arith
at_least (true ∷ p) (true ∷ q) n = at_least p q n

module _ {X : Type 0} (f : X → ℕ) where
  pub weigh-append : (xs ys : List X) → weigh f (xs ++ ys) ≡ weigh f xs + weigh f ys
  weigh-append [] ys = omega arith
  weigh-append (x ∷ xs) ys = let r = weigh-append xs ys in omega (arith, r)

pub weigh-map : {X Y : Type 0} (f : Y → ℕ) (h : X → Y) (xs : List X) → weigh f (map h xs) ≡ weigh (λ (x : X). f (h x)) xs
weigh-map f h [] = refl
weigh-map f h (x ∷ xs) = ap (λ n. f (h x) + n) (weigh-map f h xs)

pub weigh-ones : {X : Type 0} (xs : List X) → weigh (λ (x : X). 1) xs ≡ length xs
weigh-ones [] = refl
weigh-ones (x ∷ xs) = let r = weigh-ones xs in omega (arith, r)
