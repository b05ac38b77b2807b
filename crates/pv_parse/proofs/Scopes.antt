-- The state's list of variables.
use Rattle.std.proofs.Common.{◌≡◌, ℕ, suc, zero, ◌+◌, ◌-◌, ◌∙◌, ◌<◌, List, [], ◌∷◌, ◌++◌, length, map, set, get_or, sym, ap, arith}
use Rattle.std.proofs.lemmas.List.{map-append}
use Rattle.pv_parse.specs.declared.variable.Variable.{Variable as Kept}
use Rattle.pv_parse.specs.Scopes.{Variable, declared, with_last}

pub pushed : (xs ys : List Kept) (x : Kept) (v : Variable) → ys ≡ xs ++ x ∷ [] → declared x ≡ v → map declared ys ≡ map declared xs ++ v ∷ []
pushed xs ys x v e is = ap (map declared) e ∙ (map-append declared xs (x ∷ []) ∙ ap (λ (z : Variable). map declared xs ++ z ∷ []) is)

changed_at : (f : Variable → Variable) (d x : Kept) (xs : List Kept) (n : ℕ) → length xs ≡ n + 1 → f (declared (get_or xs n d)) ≡ declared x → map declared (set xs n x) ≡ with_last f (map declared xs)
changed_at f d x [] n e is = absurd (omega arith)
changed_at f d x (y ∷ []) zero e is = ap (λ z. z ∷ []) (sym is)
changed_at f d x (y ∷ []) (suc n) e is = absurd (omega arith)
changed_at f d x (y ∷ (z ∷ zs)) zero e is = absurd (omega arith)
changed_at f d x (y ∷ (z ∷ zs)) (suc n) e is = ap (λ ws. declared y ∷ ws) (changed_at f d x (z ∷ zs) n (omega arith) is)

pub changed_last : (f : Variable → Variable) (d x : Kept) (xs : List Kept) (n : ℕ) → length xs ≡ n → 0 < n → f (declared (get_or xs (n - 1) d)) ≡ declared x →
    map declared (set xs (n - 1) x) ≡ with_last f (map declared xs)
changed_last f d x xs n e some is = changed_at f d x xs (n - 1) (omega arith) is
