-- Programs are larger than their parts.
use Rattle.std.proofs.Common.{◌≡◌, ℕ, ◌+◌, ◌*◌, ◌<◌, List, length, ap, ◌∙◌, refl, arith, Vec, Global, get_or}
use Rattle.pv_ctc.specs.declared.program.Program.{Program, Compose, Union, QInter}
use Rattle.pv_ctc.specs.Plans.{plan_of, plans_of}
use Rattle.pv_ctc.proofs.Sizes.{plan_size, plans_size, vec_plans, part_falls}

pub compose_size : (p : Program) (v : Vec Program Global) (xs : List Program) → p ≡ Compose v → xs ≡ v.items → plan_size (plan_of p) ≡ plans_size (plans_of xs) + 1
compose_size p v xs e f = ap (λ q. plan_size (plan_of q)) e ∙ ap (λ ps. plans_size ps + 1) (vec_plans v xs f)

pub union_size : (p : Program) (v : Vec Program Global) (xs : List Program) → p ≡ Union v → xs ≡ v.items → plan_size (plan_of p) ≡ plans_size (plans_of xs) + 1
union_size p v xs e f = ap (λ q. plan_size (plan_of q)) e ∙ ap (λ ps. plans_size ps + 1) (vec_plans v xs f)

pub qinter_size : (p : Program) (q : ℕ) (v : Vec Program Global) (xs : List Program) → p ≡ QInter q v → xs ≡ v.items → plan_size (plan_of p) ≡ plans_size (plans_of xs) + 1
qinter_size p q v xs e f = ap (λ q. plan_size (plan_of q)) e ∙ ap (λ ps. plans_size ps + 1) (vec_plans v xs f)

pub part_size : (ps : List Program) (k : ℕ) (p : Program) (t : ℕ) → k < length ps → p ≡ get_or ps k p → 3 * plans_size (plans_of ps) + 1 ≡ t → 3 * plan_size (plan_of p) < t
part_size ps k p t l e h = let s = part_falls ps k p (2 * plans_size (plans_of ps) + 1) l e refl in omega arith
