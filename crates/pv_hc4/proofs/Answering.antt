-- What a revision answers, from what its two walks down gave.
use Rattle.std.proofs.Common.{◌≡◌, ◌≢◌, List, refl, ap, sym, ◌∙◌, subst}
use Rattle.std.specs.Prelude.{Some, None}
use Rattle.pv_interval.specs.Bounds.{Bounds}
use Rattle.pv_expr.specs.Terms.{Term}
use Rattle.pv_hc4.specs.Chain.{chain}
use Rattle.pv_hc4.specs.Revise.{went, targets_of, narrowed_of}
use Rattle.pv_hc4.specs.Graphs.{IsAnswer}
use Rattle.pv_hc4.specs.declared.revised.Revised.TheVariants.{Kept, Changed, Empty}
use Rattle.pv_hc4.proofs.Downward.{went_joined}

both_went : (b e : List Bounds) (t u : Term) (p : Bounds × Bounds) → e ≡ b → narrowed_of b t u p ≡ chain (went e b t p.0) (λ r. went e r u p.1)
both_went b e t u p same =
    went_joined b (targets_of b t p.0) (targets_of b u p.1)
    ∙ ap (λ x. chain (went x b t p.0) (λ r. went x r u p.1)) (sym same)

both_some : (b e mid new : List Bounds) (t u : Term) (p : Bounds × Bounds) → e ≡ b → went e b t p.0 ≡ Some mid → went e mid u p.1 ≡ Some new → narrowed_of b t u p ≡ Some new
both_some b e mid new t u p same f g =
    both_went b e t u p same ∙ ap (λ o. chain o (λ r. went e r u p.1)) f ∙ g

pub is_kept : (b e mid new : List Bounds) (t u : Term) (p : Bounds × Bounds) → e ≡ b → went e b t p.0 ≡ Some mid → went e mid u p.1 ≡ Some new → new ≡ e → IsAnswer (narrowed_of b t u p) Kept b new
is_kept b e mid new t u p same f g h =
    subst (λ o. IsAnswer o Kept b new) (sym (both_some b e mid new t u p same f g)) (h ∙ same, h ∙ same)

pub is_changed : (b e mid new : List Bounds) (t u : Term) (p : Bounds × Bounds) → e ≡ b → went e b t p.0 ≡ Some mid → went e mid u p.1 ≡ Some new → new ≢ e → IsAnswer (narrowed_of b t u p) Changed b new
is_changed b e mid new t u p same f g h =
    subst (λ o. IsAnswer o Changed b new) (sym (both_some b e mid new t u p same f g)) (refl, λ q. h (q ∙ sym same))

pub is_empty_first : (b e new : List Bounds) (t u : Term) (p : Bounds × Bounds) → e ≡ b → went e b t p.0 ≡ None → new ≡ e → IsAnswer (narrowed_of b t u p) Empty b new
is_empty_first b e new t u p same f h =
    subst (λ o. IsAnswer o Empty b new) (sym (both_went b e t u p same ∙ ap (λ o. chain o (λ r. went e r u p.1)) f)) (h ∙ same)

pub is_empty_second : (b e mid new : List Bounds) (t u : Term) (p : Bounds × Bounds) → e ≡ b → went e b t p.0 ≡ Some mid → went e mid u p.1 ≡ None → new ≡ e → IsAnswer (narrowed_of b t u p) Empty b new
is_empty_second b e mid new t u p same f g h =
    subst (λ o. IsAnswer o Empty b new) (sym (both_went b e t u p same ∙ ap (λ o. chain o (λ r. went e r u p.1)) f ∙ g)) (h ∙ same)
