-- What a system gives its settler.
use Rattle.std.proofs.Common.{◌≡◌, ℕ, zero, suc, ◌+◌, List, [], ◌∷◌, ◌++◌, length, take, ap, sym, ◌∙◌, subst, add-one}
use Rattle.std.specs.Prelude.{All, map, slice_get, Some}
use Rattle.std.proofs.lemmas.List.{length-map}
use Rattle.std.proofs.lemmas.List.Elements.{All-head, All-tail}
use Rattle.pv_expr.specs.Systems.{IsConstraint}
use Rattle.pv_expr.specs.declared.constraint.Constraint.{Constraint}
use Rattle.pv_hc4.specs.Graphs.{sides_named}
use Rattle.pv_hc4.specs.Revise.{Sides}
use Rattle.pv_ctc.specs.Members.{AllOver}

over_named : (n : ℕ) (cs : List Constraint) → All (IsConstraint n) cs → AllOver n (map sides_named cs)
over_named n [] h = tt
over_named n (c ∷ cs) h = let k = All-head (IsConstraint n) c cs h in ((k.left_over, k.right_over), over_named n cs (All-tail (IsConstraint n) c cs h))

pub rule_over : (n d : ℕ) (ss : List Sides) (cs : List Constraint) → ss ≡ map sides_named cs → d ≡ n → All (IsConstraint n) cs → AllOver d ss
rule_over n d ss cs e f h = subst (λ m. AllOver m ss) (sym f) (subst (AllOver n) (sym e) (over_named n cs h))

pub rule_count : (ss : List Sides) (cs : List Constraint) → ss ≡ map sides_named cs → length cs ≡ length ss
rule_count ss cs e = sym (ap length e ∙ length-map cs sides_named)

pub take_more : {A : Type 0} (xs : List A) (i : ℕ) (x : A) → slice_get xs i ≡ Some x → take (i + 1) xs ≡ take i xs ++ x ∷ []
take_more xs i x e = ap (λ n. take n xs) (add-one i) ∙ go xs i x e
  where
    go : {A : Type 0} (xs : List A) (i : ℕ) (x : A) → slice_get xs i ≡ Some x → take (suc i) xs ≡ take i xs ++ x ∷ []
    go [] i x e = absurd (cc)
    go (y ∷ xs) zero x e = let same : y ≡ x = cc in ap (λ z. z ∷ []) same
    go (y ∷ xs) (suc i) x e = ap (λ zs. y ∷ zs) (go xs i x e)
