-- Lists whose last element goes to the end of another.
use Rattle.std.proofs.Common.{◌≡◌, ℕ, ◌+◌, ◌<◌, List, [], ◌∷◌, ◌++◌, length, map, reverse, get_or, refl, sym, ap, ◌∙◌, append_assoc, sum_by, zero, suc, arith}
use Rattle.std.proofs.lemmas.List.{map-append, reverse-append}
use Rattle.std.proofs.lemmas.List.Sums.{sum_by-cons}

pub pushed_on : {X Y : Type 0} (f : X → Y) (front : List Y) (rest : List X) (x : X) → (front ++ f x ∷ []) ++ reverse (map f rest) ≡ front ++ reverse (map f (rest ++ x ∷ []))
pushed_on f front rest x = append_assoc front (f x ∷ []) (reverse (map f rest))
    ∙ (ap (λ l. front ++ l) (sym (reverse-append (map f rest) (f x ∷ []))) ∙ ap (λ l. front ++ reverse l) (sym (map-append f rest (x ∷ []))))

pub sum_same : {X : Type 0} (f : X → ℕ) (xs ys : List X) → length ys ≡ length xs → ((i : ℕ) (d : X) → i < length xs → f (get_or ys i d) ≡ f (get_or xs i d)) → sum_by f ys ≡ sum_by f xs
sum_same f [] [] long same = refl
sum_same f [] (y ∷ ys) long same = absurd (omega arith)
sum_same f (x ∷ xs) [] long same = absurd (omega arith)
sum_same f (x ∷ xs) (y ∷ ys) long same =
    let h = same 0 x (omega arith) in
    let t = sum_same f xs ys (omega arith) (λ i d there. same (suc i) d (omega arith)) in
    omega (arith, sum_by-cons f x xs, sum_by-cons f y ys)
