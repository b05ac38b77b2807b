-- Tests of several parts, and how many of them hold.
use Rattle.std.proofs.Common.{◌≡◌, ℕ, suc, ◌+◌, List, ◌∷◌, ap, sym, ◌∙◌, arith, Vec, Global}
use Rattle.std.specs.Prelude.{Bool, true, false, ◌&&◌, nat_le, cond}
use Rattle.std.proofs.lemmas.Bool.Decides.{nat_tests}
use Rattle.pv_interval.specs.Bounds.{Bounds}
use Rattle.pv_hc4.specs.Revise.{Sides}
use Rattle.pv_ctc.specs.declared.program.Program.{Program, Compose, Union, QInter}
use Rattle.pv_ctc.specs.Plans.{plan_of, plans_of}
use Rattle.pv_ctc.specs.Sureness.{program_sure, parts_sure, all_true, count_true}
use Rattle.pv_ctc.proofs.Sizes.{vec_plans}

pub compose_sure : (ss : List Sides) (p : Program) (v : Vec Program Global) (xs : List Program) (b : List Bounds) → p ≡ Compose v → xs ≡ v.items → program_sure ss (plan_of p) b ≡ all_true (parts_sure ss (plans_of xs) b)
compose_sure ss p v xs b e f = ap (λ q. program_sure ss (plan_of q) b) e ∙ ap (λ ps. all_true (parts_sure ss ps b)) (vec_plans v xs f)

pub union_sure : (ss : List Sides) (p : Program) (v : Vec Program Global) (xs : List Program) (b : List Bounds) → p ≡ Union v → xs ≡ v.items → program_sure ss (plan_of p) b ≡ nat_le 1 (count_true (parts_sure ss (plans_of xs) b))
union_sure ss p v xs b e f = ap (λ q. program_sure ss (plan_of q) b) e ∙ ap (λ ps. nat_le 1 (count_true (parts_sure ss ps b))) (vec_plans v xs f)

pub qinter_sure : (ss : List Sides) (n : ℕ) (p : Program) (v : Vec Program Global) (xs : List Program) (b : List Bounds) → p ≡ QInter n v → xs ≡ v.items → program_sure ss (plan_of p) b ≡ nat_le n (count_true (parts_sure ss (plans_of xs) b))
qinter_sure ss n p v xs b e f = ap (λ q. program_sure ss (plan_of q) b) e ∙ ap (λ ps. nat_le n (count_true (parts_sure ss ps b))) (vec_plans v xs f)

-- the first of some tests holds, so all of them do where the others do
pub all_more : (ts later : List Bool) (t o : Bool) → ts ≡ t ∷ later → t ≡ true → all_true ts ≡ o → all_true later ≡ o
all_more ts later t o e h g = sym (ap all_true e ∙ ap (λ u. u && all_true later) h) ∙ g

-- one test fewer is wanted where the first one holds
pub count_yes : (ts later : List Bool) (t o : Bool) (n m : ℕ) → ts ≡ t ∷ later → t ≡ true → n ≡ suc m → nat_le n (count_true ts) ≡ o → nat_le m (count_true later) ≡ o
count_yes ts later t o n m e h k g =
    let c : count_true ts ≡ suc (count_true later) = ap count_true e ∙ ap (λ u. cond u 1 0 + count_true later) h ∙ omega arith in
    sym (ap (λ i. nat_le i (count_true ts)) k ∙ ap (nat_le (suc m)) c ∙ le_sucs m (count_true later)) ∙ g
  where
    le_sucs : (i j : ℕ) → nat_le (suc i) (suc j) ≡ nat_le i j
    le_sucs i j = grind (arith, nat_tests)

pub count_no : (ts later : List Bool) (t o : Bool) (n : ℕ) → ts ≡ t ∷ later → t ≡ false → nat_le n (count_true ts) ≡ o → nat_le n (count_true later) ≡ o
count_no ts later t o n e h g =
    let c : count_true ts ≡ count_true later = ap count_true e ∙ ap (λ u. cond u 1 0 + count_true later) h ∙ omega arith in
    sym (ap (nat_le n) c) ∙ g
