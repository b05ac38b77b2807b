-- Tests of the parts of a program, and how many of them hold.
use Rattle.std.proofs.Common.{◌≡◌, ℕ, ◌+◌, ◌-◌, List, length, ap, ◌∙◌, arith, Vec, Global}
use Rattle.std.specs.Prelude.{Bool, nat_le, nat_lt}
use Rattle.std.proofs.lemmas.Bool.Decides.{nat_tests}
use Rattle.pv_ctc.specs.declared.program.Program.{Program, Compose, Union, QInter}
use Rattle.pv_ctc.specs.Plans.{plan_of, plans_of, plan_count}
use Rattle.pv_ctc.specs.Sureness.{all_true, count_true}
use Rattle.pv_ctc.proofs.Rows.{count_plans}
use Rattle.pv_ctc.proofs.Sizes.{vec_plans}
use Rattle.pv_slope.specs.Programs.{none_by, none_by_each, sure_by, sure_by_each}

pub compose_none : (ts : List Bool) (p : Program) (v : Vec Program Global) (xs : List Program) → p ≡ Compose v → xs ≡ v.items → none_by ts (plan_of p) ≡ nat_le 1 (count_true (none_by_each ts (plans_of xs)))
compose_none ts p v xs e f = ap (λ q. none_by ts (plan_of q)) e ∙ ap (λ ps. nat_le 1 (count_true (none_by_each ts ps))) (vec_plans v xs f)

pub union_none : (ts : List Bool) (p : Program) (v : Vec Program Global) (xs : List Program) → p ≡ Union v → xs ≡ v.items → none_by ts (plan_of p) ≡ all_true (none_by_each ts (plans_of xs))
union_none ts p v xs e f = ap (λ q. none_by ts (plan_of q)) e ∙ ap (λ ps. all_true (none_by_each ts ps)) (vec_plans v xs f)

lt_is : (m n : ℕ) → nat_lt m n ≡ nat_le (m + 1) n
lt_is m n = grind (arith, nat_tests)

pub qinter_none : (ts : List Bool) (n : ℕ) (p : Program) (v : Vec Program Global) (xs : List Program) → p ≡ QInter n v → xs ≡ v.items → none_by ts (plan_of p) ≡ nat_le (length xs - n + 1) (count_true (none_by_each ts (plans_of xs)))
qinter_none ts n p v xs e f =
    ap (λ q. none_by ts (plan_of q)) e ∙ ap (λ ps. nat_lt (plan_count ps - n) (count_true (none_by_each ts ps))) (vec_plans v xs f)
    ∙ ap (λ m. nat_lt (m - n) (count_true (none_by_each ts (plans_of xs)))) (count_plans xs)
    ∙ lt_is (length xs - n) (count_true (none_by_each ts (plans_of xs)))

pub compose_sure : (ts : List Bool) (p : Program) (v : Vec Program Global) (xs : List Program) → p ≡ Compose v → xs ≡ v.items → sure_by ts (plan_of p) ≡ all_true (sure_by_each ts (plans_of xs))
compose_sure ts p v xs e f = ap (λ q. sure_by ts (plan_of q)) e ∙ ap (λ ps. all_true (sure_by_each ts ps)) (vec_plans v xs f)

pub union_sure : (ts : List Bool) (p : Program) (v : Vec Program Global) (xs : List Program) → p ≡ Union v → xs ≡ v.items → sure_by ts (plan_of p) ≡ nat_le 1 (count_true (sure_by_each ts (plans_of xs)))
union_sure ts p v xs e f = ap (λ q. sure_by ts (plan_of q)) e ∙ ap (λ ps. nat_le 1 (count_true (sure_by_each ts ps))) (vec_plans v xs f)

pub qinter_sure : (ts : List Bool) (n : ℕ) (p : Program) (v : Vec Program Global) (xs : List Program) → p ≡ QInter n v → xs ≡ v.items → sure_by ts (plan_of p) ≡ nat_le n (count_true (sure_by_each ts (plans_of xs)))
qinter_sure ts n p v xs e f = ap (λ q. sure_by ts (plan_of q)) e ∙ ap (λ ps. nat_le n (count_true (sure_by_each ts ps))) (vec_plans v xs f)
