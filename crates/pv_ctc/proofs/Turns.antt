-- Contractors in order and in turns.
use Rattle.std.proofs.Common.{◌≡◌, ◌≢◌, ◌⊎◌, inl, inr, ℕ, zero, suc, ◌+◌, ◌-◌, ◌<◌, List, [], ◌∷◌, ◌++◌, length, refl, ap, sym, ◌∙◌, subst, arith, get_or, drop, add-one, append_assoc}
use Rattle.std.proofs.Math.Seq.{drop-cons}
use Rattle.std.proofs.lemmas.List.{get_or-map}
use Rattle.std.specs.Prelude.{Option, Some, None, map}
use Rattle.pv_interval.specs.Bounds.{Bounds}
use Rattle.pv_expr.specs.Terms.{place}
use Rattle.pv_expr.specs.declared.constraint.Relation.TheVariants.{Eq}
use Rattle.pv_hc4.specs.Chain.{chain}
use Rattle.pv_hc4.specs.Graphs.{Parts, sides_of}
use Rattle.pv_hc4.specs.Revise.{Sides, revised}
use Rattle.pv_hc4.specs.declared.revised.Revised.{Revised}
use Rattle.pv_hc4.specs.declared.revised.Revised.TheVariants.{Kept, Changed, Empty}
use Rattle.pv_ctc.specs.declared.program.Program.{Program}
use Rattle.pv_ctc.specs.Contracting.{Effect, side_at, in_order, turns_of, contract_of, effects, with_result, results}
use Rattle.pv_ctc.specs.Plans.{plan_of, plans_of}
use Rattle.pv_ctc.specs.Steps.{IsStep, IsSoFar}

pub chain_some : {A B : Type 0} (o : Option A) (x : A) (f : A → Option B) → o ≡ Some x → chain o f ≡ f x
chain_some o x f e = ap (λ p. chain p f) e

pub chain_none : {A B : Type 0} (o : Option A) (f : A → Option B) → o ≡ None → chain o f ≡ None
chain_none o f e = ap (λ p. chain p f) e

-- what a step says, by its answer
pub step_empty : (o : Option (List Bounds)) (old new : List Bounds) → IsStep o Empty old new → o ≡ None
step_empty None old new h = refl
step_empty (Some b) old new h = absurd h

pub step_changed : (o : Option (List Bounds)) (old new : List Bounds) → IsStep o Changed old new → o ≡ Some new
step_changed None old new h = absurd h
step_changed (Some b) old new h = ap Some (sym h.0)

pub step_other : (o : Option (List Bounds)) (old new : List Bounds) → IsStep o Changed old new → new ≢ old
step_other None old new h = absurd h
step_other (Some b) old new h = λ e. h.1 (sym h.0 ∙ e)

pub step_kept : (o : Option (List Bounds)) (old new : List Bounds) → IsStep o Kept old new → (o ≡ Some old) × (new ≡ old)
step_kept None old new h = absurd h
step_kept (Some b) old new h = (ap Some h.0, h.1)

pub step_of_empty : (o : Option (List Bounds)) (old new : List Bounds) → o ≡ None → IsStep o Empty old new
step_of_empty o old new e = subst (λ p. IsStep p Empty old new) (sym e) tt

step_of_some : (r : Revised) (old new : List Bounds) → IsSoFar r old new → IsStep (Some new) r old new
step_of_some Kept old new h = (h, h)
step_of_some Changed old new h = (refl, h)
step_of_some Empty old new h = absurd h

pub step_of_so_far : (o : Option (List Bounds)) (r : Revised) (old new : List Bounds) → IsSoFar r old new → o ≡ Some new → IsStep o r old new
step_of_so_far o r old new h e = subst (λ p. IsStep p r old new) (sym e) (step_of_some r old new h)

-- after a turn that changes nothing, further turns change nothing
pub turns_stay : (n : ℕ) (f : Effect) (b : List Bounds) → f b ≡ Some b → turns_of n f b ≡ Some b
turns_stay zero f b e = refl
turns_stay (suc n) f b e = chain_some (f b) b (turns_of n f) e ∙ turns_stay n f b e

one_turn : (n k : ℕ) (f : Effect) (b : List Bounds) → n ≡ suc k → turns_of n f b ≡ chain (f b) (turns_of k f)
one_turn n k f b e = ap (λ m. turns_of m f b) e

pub turn : (n k : ℕ) (f : Effect) (start b : List Bounds) → k < n → turns_of (n - k) f b ≡ turns_of n f start → turns_of n f start ≡ chain (f b) (turns_of (n - (k + 1)) f)
turn n k f start b h e = let m : n - k ≡ suc (n - (k + 1)) = omega arith in sym e ∙ one_turn (n - k) (n - (k + 1)) f b m

-- the constraints from number i on
pub constraints_step : (ss : List Sides) (i : ℕ) (b : List Bounds) → i < length ss → in_order (map revised (drop i ss)) b ≡ chain (revised (side_at ss i) b) (in_order (map revised (drop (i + 1) ss)))
constraints_step ss i b h = ap (λ xs. in_order (map revised xs) b) (drop-cons ss i (record { left = place 0; relation = Eq; right = place 0 }) h ∙ ap (λ n. side_at ss i ∷ drop n ss) (sym (add-one i)))

-- the parts from number k on
pub parts_step : (ss : List Sides) (ps : List Program) (k : ℕ) (p : Program) → k < length ps → p ≡ get_or ps k p → effects ss (plans_of (drop k ps)) ≡ contract_of ss (plan_of p) ∷ effects ss (plans_of (drop (k + 1) ps))
parts_step ss ps k p h e =
    ap (λ xs. effects ss (plans_of xs)) (drop-cons ps k p h)
    ∙ ap (λ q. contract_of ss (plan_of q) ∷ effects ss (plans_of (drop (suc k) ps))) (sym e)
    ∙ ap (λ n. contract_of ss (plan_of p) ∷ effects ss (plans_of (drop n ps))) (sym (add-one k))

pub side_of : (gs : List Parts) (i : ℕ) (g : Parts) → i < length gs → g ≡ get_or gs i g → side_at (map sides_of gs) i ≡ sides_of g
side_of gs i g h e = get_or-map sides_of gs i g (record { left = place 0; relation = Eq; right = place 0 }) h ∙ ap sides_of (sym e)

-- a turn that changed nothing ends the turns
pub turns_end : (n m : ℕ) (f : Effect) (start b new : List Bounds) (r answer : Revised) → r ≡ Kept → IsStep (f b) r b new → turns_of m f b ≡ turns_of n f start → IsSoFar answer start b → IsStep (turns_of n f start) answer start new
turns_end n m f start b new r answer k h e s =
    let g = step_kept (f b) b new (subst (λ x. IsStep (f b) x b new) k h) in
    step_of_so_far (turns_of n f start) answer start new (subst (IsSoFar answer start) (sym g.1) s) (sym e ∙ turns_stay m f b g.0 ∙ ap Some (sym g.1))

pub turn_after : (n m k : ℕ) (f : Effect) (start b new : List Bounds) → m ≡ suc k → f b ≡ Some new → turns_of m f b ≡ turns_of n f start → turns_of k f new ≡ turns_of n f start
turn_after n m k f start b new h e g = sym (one_turn m k f b h ∙ chain_some (f b) new (turns_of k f) e) ∙ g

-- what is left by the constraints from number i on
pub rest_after : (ss : List Sides) (i : ℕ) (b new : List Bounds) (o : Option (List Bounds)) → i < length ss → revised (side_at ss i) b ≡ Some new → in_order (map revised (drop i ss)) b ≡ o → in_order (map revised (drop (i + 1) ss)) new ≡ o
rest_after ss i b new o h e g = sym (constraints_step ss i b h ∙ chain_some (revised (side_at ss i) b) new (in_order (map revised (drop (i + 1) ss))) e) ∙ g

pub results_step : (ss : List Sides) (ps : List Program) (k : ℕ) (p : Program) (b : List Bounds) → k < length ps → p ≡ get_or ps k p → results (effects ss (plans_of (drop k ps))) b ≡ with_result (contract_of ss (plan_of p) b) (results (effects ss (plans_of (drop (k + 1) ps))) b)
results_step ss ps k p b h e = ap (λ fs. results fs b) (parts_step ss ps k p h e)

pub step_left : (o : Option (List Bounds)) (r : Revised) (old new : List Bounds) → (r ≡ Kept) ⊎ (r ≡ Changed) → IsStep o r old new → o ≡ Some new
step_left o r old new (inl k) h = let g = step_kept o old new (subst (λ x. IsStep o x old new) k h) in g.0 ∙ ap Some (sym g.1)
step_left o r old new (inr k) h = step_changed o old new (subst (λ x. IsStep o x old new) k h)

-- one more part has left nothing, or something
pub found_none : (found more rest later all : List (List Bounds)) (o : Option (List Bounds)) → more ≡ found → o ≡ None → rest ≡ with_result o later → found ++ rest ≡ all → more ++ later ≡ all
found_none found more rest later all o e n h g =
    ap (λ f. f ++ later) e ∙ ap (λ r. found ++ r) (sym (h ∙ ap (λ p. with_result p later) n)) ∙ g

pub found_some : (found more rest later all : List (List Bounds)) (o : Option (List Bounds)) (c : List Bounds) → more ≡ found ++ c ∷ [] → o ≡ Some c → rest ≡ with_result o later → found ++ rest ≡ all → more ++ later ≡ all
found_some found more rest later all o c e n h g =
    ap (λ f. f ++ later) e ∙ append_assoc found (c ∷ []) later ∙ ap (λ r. found ++ r) (sym (h ∙ ap (λ p. with_result p later) n)) ∙ g

-- a turn that left nothing ends the turns
pub turns_none : (n m k : ℕ) (f : Effect) (start b new : List Bounds) (r : Revised) → m ≡ suc k → r ≡ Empty → IsStep (f b) r b new → turns_of m f b ≡ turns_of n f start → IsStep (turns_of n f start) Empty start new
turns_none n m k f start b new r h e s g =
    step_of_empty (turns_of n f start) start new
    (sym g ∙ one_turn m k f b h ∙ chain_none (f b) (turns_of k f) (step_empty (f b) b new (subst (λ x. IsStep (f b) x b new) e s)))

-- what is left by the parts from number k on
pub parts_after : (ss : List Sides) (ps : List Program) (k : ℕ) (p : Program) (b new start : List Bounds) → k < length ps → p ≡ get_or ps k p → contract_of ss (plan_of p) b ≡ Some new → in_order (effects ss (plans_of (drop k ps))) b ≡ in_order (effects ss (plans_of ps)) start → in_order (effects ss (plans_of (drop (k + 1) ps))) new ≡ in_order (effects ss (plans_of ps)) start
parts_after ss ps k p b new start h e f g =
    sym (ap (λ fs. in_order fs b) (parts_step ss ps k p h e) ∙ chain_some (contract_of ss (plan_of p) b) new (in_order (effects ss (plans_of (drop (k + 1) ps)))) f) ∙ g
