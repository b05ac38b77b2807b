-- What a program of several parts leaves of a box.
use Rattle.std.proofs.Common.{◌≡◌, ℕ, List, ap, ◌∙◌, Vec, Global}
use Rattle.pv_interval.specs.Bounds.{Bounds}
use Rattle.pv_hc4.specs.Revise.{Sides}
use Rattle.pv_ctc.specs.declared.program.Program.{Program, Compose, Union, QInter}
use Rattle.pv_ctc.specs.Contracting.{contract_of, effects, in_order, results, hull_all, q_hull_all}
use Rattle.pv_ctc.specs.Plans.{plan_of, plans_of}
use Rattle.pv_ctc.proofs.Sizes.{vec_plans}

pub compose_effect : (ss : List Sides) (p : Program) (v : Vec Program Global) (xs : List Program) (b : List Bounds) → p ≡ Compose v → xs ≡ v.items → contract_of ss (plan_of p) b ≡ in_order (effects ss (plans_of xs)) b
compose_effect ss p v xs b e f = ap (λ q. contract_of ss (plan_of q) b) e ∙ ap (λ ps. in_order (effects ss ps) b) (vec_plans v xs f)

pub union_effect : (ss : List Sides) (p : Program) (v : Vec Program Global) (xs : List Program) (b : List Bounds) → p ≡ Union v → xs ≡ v.items → contract_of ss (plan_of p) b ≡ hull_all (results (effects ss (plans_of xs)) b)
union_effect ss p v xs b e f = ap (λ q. contract_of ss (plan_of q) b) e ∙ ap (λ ps. hull_all (results (effects ss ps) b)) (vec_plans v xs f)

pub qinter_effect : (ss : List Sides) (n : ℕ) (p : Program) (v : Vec Program Global) (xs : List Program) (b : List Bounds) → p ≡ QInter n v → xs ≡ v.items → contract_of ss (plan_of p) b ≡ q_hull_all n (results (effects ss (plans_of xs)) b)
qinter_effect ss n p v xs b e f = ap (λ q. contract_of ss (plan_of q) b) e ∙ ap (λ ps. q_hull_all n (results (effects ss ps) b)) (vec_plans v xs f)
