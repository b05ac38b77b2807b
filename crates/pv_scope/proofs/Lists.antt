-- Lists of paths, and the open leaves of a tree.
use Rattle.std.proofs.Common.{◌≡◌, inl, inr, ℕ, suc, ◌<◌, Bool, true, false, Option, Some, None, List, [], ◌∷◌, ◌++◌, map, length, if◌then◌else◌, refl, sym, ◌∙◌, ap, arith, subst}
use Rattle.std.specs.Prelude.{◌⊎◌, ◌↔◌, IsSome, reverse}
use Rattle.std.proofs.lemmas.List.{reverse-append}
use Rattle.pv_tree.specs.Trees.{Tree, leaf, removed, inner, small, cut, subtree, opens}
use Rattle.pv_scope.specs.Scopes.{IsIn, picked}

abbrev pub Path : Type 0
Path = List Bool

-- No two paths of a list are the same.
abbrev pub AreApart : List Path → Type 0
AreApart [] = Unit {0}
AreApart (p ∷ ps) = (IsIn p ps → ⊥) × AreApart ps

pub in_left : (q : Path) (xs ys : List Path) → IsIn q xs → IsIn q (xs ++ ys)
in_left q [] ys h = absurd h
in_left q (x ∷ xs) ys (inl e) = inl e
in_left q (x ∷ xs) ys (inr h) = inr (in_left q xs ys h)

pub in_right : (q : Path) (xs ys : List Path) → IsIn q ys → IsIn q (xs ++ ys)
in_right q [] ys h = h
in_right q (x ∷ xs) ys h = inr (in_right q xs ys h)

either_under : (q x : Path) (xs ys : List Path) → IsIn q xs ⊎ IsIn q ys → IsIn q (x ∷ xs) ⊎ IsIn q ys
either_under q x xs ys (inl h) = inl (inr h)
either_under q x xs ys (inr h) = inr h

pub in_either : (q : Path) (xs ys : List Path) → IsIn q (xs ++ ys) → IsIn q xs ⊎ IsIn q ys
in_either q [] ys h = inr h
in_either q (x ∷ xs) ys (inl e) = inl (inl e)
in_either q (x ∷ xs) ys (inr h) = either_under q x xs ys (in_either q xs ys h)

-- ---- Paths with one step in front

pub map_in : (b : Bool) (q : Path) (ps : List Path) → IsIn q ps → IsIn (b ∷ q) (map (λ (p : Path). b ∷ p) ps)
map_in b q [] h = absurd h
map_in b q (p ∷ ps) (inl e) = inl (ap (λ (x : Path). b ∷ x) e)
map_in b q (p ∷ ps) (inr h) = inr (map_in b q ps h)

pub in_map : (b : Bool) (q : Path) (ps : List Path) → IsIn (b ∷ q) (map (λ (p : Path). b ∷ p) ps) → IsIn q ps
in_map b q [] h = absurd h
in_map b q (p ∷ ps) (inl e) = inl (cc)
in_map b q (p ∷ ps) (inr h) = inr (in_map b q ps h)

other_map : (b c : Bool) (q : Path) (ps : List Path) → (b ≡ c → ⊥) → IsIn (b ∷ q) (map (λ (p : Path). c ∷ p) ps) → ⊥
other_map b c q [] ne h = h
other_map b c q (p ∷ ps) ne (inl e) = ne (cc)
other_map b c q (p ∷ ps) ne (inr h) = other_map b c q ps ne h

root_map : (c : Bool) (ps : List Path) → IsIn [] (map (λ (p : Path). c ∷ p) ps) → ⊥
root_map c [] h = h
root_map c (p ∷ ps) (inl e) = cc
root_map c (p ∷ ps) (inr h) = root_map c ps h

false_true : false ≡ true → ⊥
false_true e = cc

true_false : true ≡ false → ⊥
true_false e = cc

only_left : {A : Type 0} {B : Type 0} → (B → ⊥) → A ⊎ B → A
only_left f (inl a) = a
only_left f (inr b) = absurd (f b)

only_right : {A : Type 0} {B : Type 0} → (A → ⊥) → A ⊎ B → B
only_right f (inl a) = absurd (f a)
only_right f (inr b) = b

-- ---- The open leaves of a tree

pub open_in : (t : Tree) (q : Path) → subtree t q ≡ Some leaf → IsIn q (opens t)
open_in leaf [] e = inl refl
open_in removed [] e = cc
open_in (inner x) [] e = cc
open_in (small x) [] e = cc
open_in (cut x w a l r) [] e = cc
open_in (cut x w a l r) (false ∷ q) e = in_left (false ∷ q) (map (λ (p : Path). false ∷ p) (opens l)) (map (λ (p : Path). true ∷ p) (opens r)) (map_in false q (opens l) (open_in l q e))
open_in (cut x w a l r) (true ∷ q) e = in_right (true ∷ q) (map (λ (p : Path). false ∷ p) (opens l)) (map (λ (p : Path). true ∷ p) (opens r)) (map_in true q (opens r) (open_in r q e))
open_in leaf (b ∷ q) e = cc
open_in removed (b ∷ q) e = cc
open_in (inner x) (b ∷ q) e = cc
open_in (small x) (b ∷ q) e = cc

no_root : (xs ys : List Path) → (IsIn [] xs → ⊥) → (IsIn [] ys → ⊥) → IsIn [] (xs ++ ys) → ⊥
no_root xs ys f g h = g (only_right f (in_either [] xs ys h))

pub in_open : (t : Tree) (q : Path) → IsIn q (opens t) → subtree t q ≡ Some leaf
in_open leaf [] h = refl
in_open leaf (b ∷ q) (inl e) = cc
in_open leaf (b ∷ q) (inr h) = absurd h
in_open removed q h = absurd h
in_open (inner x) q h = absurd h
in_open (small x) q h = absurd h
in_open (cut x w a l r) [] h = absurd (no_root (map (λ (p : Path). false ∷ p) (opens l)) (map (λ (p : Path). true ∷ p) (opens r)) (root_map false (opens l)) (root_map true (opens r)) h)
in_open (cut x w a l r) (false ∷ q) h =
    in_open l q (in_map false q (opens l) (only_left (other_map false true q (opens r) false_true) (in_either (false ∷ q) (map (λ (p : Path). false ∷ p) (opens l)) (map (λ (p : Path). true ∷ p) (opens r)) h)))
in_open (cut x w a l r) (true ∷ q) h =
    in_open r q (in_map true q (opens r) (only_right (other_map true false q (opens l) true_false) (in_either (true ∷ q) (map (λ (p : Path). false ∷ p) (opens l)) (map (λ (p : Path). true ∷ p) (opens r)) h)))

apart_map : (b : Bool) (ps : List Path) → AreApart ps → AreApart (map (λ (p : Path). b ∷ p) ps)
apart_map b [] h = tt
apart_map b (p ∷ ps) h = (λ k. h.0 (in_map b p ps k), apart_map b ps h.1)

not_either : (q : Path) (xs ys : List Path) → (IsIn q xs → ⊥) → (IsIn q ys → ⊥) → IsIn q (xs ++ ys) → ⊥
not_either q xs ys f g h = g (only_right f (in_either q xs ys h))

apart_halves : (ls rs : List Path) → AreApart ls → AreApart (map (λ (p : Path). true ∷ p) rs) → AreApart (map (λ (p : Path). false ∷ p) ls ++ map (λ (p : Path). true ∷ p) rs)
apart_halves [] rs h k = k
apart_halves (p ∷ ls) rs h k =
    (not_either (false ∷ p) (map (λ (p : Path). false ∷ p) ls) (map (λ (p : Path). true ∷ p) rs) (λ i. h.0 (in_map false p ls i)) (other_map false true p rs false_true), apart_halves ls rs h.1 k)

pub apart_opens : (t : Tree) → AreApart (opens t)
apart_opens leaf = (λ h. h, tt)
apart_opens removed = tt
apart_opens (inner x) = tt
apart_opens (small x) = tt
apart_opens (cut x w a l r) = apart_halves (opens l) (opens r) (apart_opens l) (apart_map true (opens r) (apart_opens r))

-- a tree in which no path leads to an open leaf has none
pub none_open : (t : Tree) → ((q : Path) → subtree t q ≡ Some leaf → ⊥) → opens t ≡ []
none_open leaf h = absurd (h [] refl)
none_open removed h = refl
none_open (inner x) h = refl
none_open (small x) h = refl
none_open (cut x w a l r) h =
    ap (λ (ps : List Path). map (λ (p : Path). false ∷ p) ps ++ map (λ (p : Path). true ∷ p) (opens r)) (none_open l (λ q e. h (false ∷ q) e))
    ∙ ap (map (λ (p : Path). true ∷ p)) (none_open r (λ q e. h (true ∷ q) e))

-- ---- Picked paths

keep_in : (b : Bool) (p q : Path) (ps : List Path) → IsIn q (if b then p ∷ ps else ps) → IsIn q (p ∷ ps)
keep_in true p q ps h = h
keep_in false p q ps h = inr h

pub keep_head : (b : Bool) (p : Path) (ps : List Path) → b ≡ true → IsIn p (if b then p ∷ ps else ps)
keep_head true p ps e = inl refl
keep_head false p ps e = cc

pub keep_tail : (b : Bool) (p q : Path) (ps : List Path) → IsIn q ps → IsIn q (if b then p ∷ ps else ps)
keep_tail true p q ps h = inr h
keep_tail false p q ps h = h

keep_apart : (b : Bool) (p : Path) (ps : List Path) → (IsIn p ps → ⊥) → AreApart ps → AreApart (if b then p ∷ ps else ps)
keep_apart true p ps f h = (f, h)
keep_apart false p ps f h = h

keep_split : (b : Bool) (p : Path) (ps : List Path) → (if b then p ∷ ps else ps) ≡ (if b then p ∷ [] else []) ++ ps
keep_split true p ps = refl
keep_split false p ps = refl

under : (q p : Path) (ps qs : List Path) → (IsIn q ps → IsIn q qs) → IsIn q (p ∷ ps) → IsIn q (p ∷ qs)
under q p ps qs f (inl e) = inl e
under q p ps qs f (inr h) = inr (f h)

module _ (test : ℕ → Path → Bool) where
  pub picked_in : (i : ℕ) (ps : List Path) (q : Path) → IsIn q (picked test i ps) → IsIn q ps
  picked_in i [] q h = h
  picked_in i (p ∷ ps) q h = under q p (picked test (suc i) ps) ps (picked_in (suc i) ps q) (keep_in (test i p) p q (picked test (suc i) ps) h)

  pub picked_apart : (i : ℕ) (ps : List Path) → AreApart ps → AreApart (picked test i ps)
  picked_apart i [] h = tt
  picked_apart i (p ∷ ps) h = keep_apart (test i p) p (picked test (suc i) ps) (λ k. h.0 (picked_in (suc i) ps p k)) (picked_apart (suc i) ps h.1)

  -- a path that passes at any number is picked
  pub picked_all : (i : ℕ) (ps : List Path) (q : Path) → ((i : ℕ) → test i q ≡ true) → IsIn q ps → IsIn q (picked test i ps)
  picked_all i [] q f h = h
  picked_all i (p ∷ ps) q f (inl e) = subst (λ (x : Path). IsIn x (picked test i (p ∷ ps))) (sym e) (keep_head (test i p) p (picked test (suc i) ps) (ap (test i) (sym e) ∙ f i))
  picked_all i (p ∷ ps) q f (inr h) = keep_tail (test i p) p q (picked test (suc i) ps) (picked_all (suc i) ps q f h)

  pub picked_first : (i : ℕ) (p : Path) (ps : List Path) → picked test i (p ∷ ps) ≡ picked test i (p ∷ []) ++ picked test (suc i) ps
  picked_first i p ps = keep_split (test i p) p (picked test (suc i) ps)

-- ---- The last path of a list comes first in its reverse

pub last_first : (front : List Path) (p : Path) → reverse (front ++ p ∷ []) ≡ p ∷ reverse front
last_first front p = reverse-append front (p ∷ [])

none_there : (o : Option Path) → o ≡ None → IsSome o → ⊥
none_there None e h = cc
none_there (Some p) e h = cc

-- a list of which nothing can be taken is empty
pub emptied : (r : Option Path) (items : List Path) (n : ℕ) → r ≡ None → (IsSome r ↔ (0 < n)) → n ≡ length items → reverse items ≡ []
emptied r [] n e v s = refl
emptied r (x ∷ xs) n e v s = absurd (none_there r e (v.1 (omega (arith, s))))
