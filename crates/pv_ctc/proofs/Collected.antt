-- One more graph.
use Rattle.std.proofs.Common.{◌≡◌, ℕ, zero, suc, ◌+◌, List, [], ◌∷◌, ◌++◌, take, refl, ap, sym, ◌∙◌, add-one}
use Rattle.std.specs.Prelude.{map, slice_get, Some}
use Rattle.pv_expr.specs.declared.constraint.Constraint.{Constraint}
use Rattle.pv_hc4.specs.Graphs.{Parts, sides_of, sides_named}

mapped : {A B : Type 0} (f : A → B) (xs : List A) (y : A) → map f (xs ++ y ∷ []) ≡ map f xs ++ f y ∷ []
mapped f [] y = refl
mapped f (x ∷ xs) y = ap (λ zs. f x ∷ zs) (mapped f xs y)

take_more : (cs : List Constraint) (i : ℕ) (c : Constraint) → slice_get cs i ≡ Some c → take (suc i) cs ≡ take i cs ++ c ∷ []
take_more [] i c e = absurd (cc)
take_more (x ∷ cs) zero c e = let same : x ≡ c = cc in ap (λ z. z ∷ []) same
take_more (x ∷ cs) (suc i) c e = ap (λ zs. x ∷ zs) (take_more cs i c e)

pub sides_more : (gs : List Parts) (g : Parts) (cs : List Constraint) (i : ℕ) (c : Constraint) → map sides_of gs ≡ map sides_named (take i cs) → slice_get cs i ≡ Some c → sides_of g ≡ sides_named c → map sides_of (gs ++ g ∷ []) ≡ map sides_named (take (i + 1) cs)
sides_more gs g cs i c h e s =
    mapped sides_of gs g
    ∙ ap (λ xs. xs ++ sides_of g ∷ []) h
    ∙ ap (λ x. map sides_named (take i cs) ++ x ∷ []) s
    ∙ sym (mapped sides_named (take i cs) c)
    ∙ sym (ap (map sides_named) (take_more cs i c e))
    ∙ sym (ap (λ n. map sides_named (take n cs)) (add-one i))

pub named_more : (cs : List Constraint) (i : ℕ) (c : Constraint) → slice_get cs i ≡ Some c → map sides_named (take (i + 1) cs) ≡ map sides_named (take i cs) ++ sides_named c ∷ []
named_more cs i c e = ap (λ n. map sides_named (take n cs)) (add-one i) ∙ ap (map sides_named) (take_more cs i c e) ∙ mapped sides_named (take i cs) c
