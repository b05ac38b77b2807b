-- How many nodes a program has; the parts of one have fewer.
use Rattle.std.proofs.Common.{◌≡◌, ℕ, zero, suc, ◌+◌, ◌*◌, ◌<◌, ◌≤◌, List, [], ◌∷◌, length, ap, sym, ◌∙◌, arith, get_or, Vec, Global}
use Rattle.pv_ctc.specs.declared.program.Program.{Program, Compose, Union, QInter, items_hidden-the_row-Program-0}
use Rattle.pv_ctc.specs.declared.program.Program.TheBlock.{hidden-the_row-Program-0}
use Rattle.pv_ctc.specs.Plans.{Plan, Plans, hc4, compose, union, qinter, fix, prop, no_plan, plan_and, plan_of, plans_in, plans_of}
use Rattle.pv_ctc.proofs.Rows.{row_plans}

abbrev mutual
  pub plan_size : Plan → ℕ
  plan_size (hc4 i) = 1
  plan_size (compose ps) = plans_size ps + 1
  plan_size (union ps) = plans_size ps + 1
  plan_size (qinter q ps) = plans_size ps + 1
  plan_size (fix n p) = plan_size p + 1
  plan_size (prop n) = 1

  pub plans_size : Plans → ℕ
  plans_size no_plan = 0
  plans_size (plan_and p ps) = plan_size p + plans_size ps + 1

pub vec_plans : (v : Vec Program Global) (xs : List Program) → xs ≡ v.items → plans_in (hidden-the_row-Program-0 v) ≡ plans_of xs
vec_plans v xs e = row_plans (hidden-the_row-Program-0 v) ∙ ap plans_of (items_hidden-the_row-Program-0 v ∙ sym e)

below : (m n t : ℕ) → m ≡ n + 1 → 2 * m ≡ t → 2 * n + 1 < t
below m n t e h = omega arith

pub compose_falls : (p : Program) (v : Vec Program Global) (xs : List Program) (t : ℕ) → p ≡ Compose v → xs ≡ v.items → 2 * plan_size (plan_of p) ≡ t → 2 * plans_size (plans_of xs) + 1 < t
compose_falls p v xs t e f h = below (plan_size (plan_of p)) (plans_size (plans_of xs)) t (ap (λ q. plan_size (plan_of q)) e ∙ ap (λ ps. plans_size ps + 1) (vec_plans v xs f)) h

pub union_falls : (p : Program) (v : Vec Program Global) (xs : List Program) (t : ℕ) → p ≡ Union v → xs ≡ v.items → 2 * plan_size (plan_of p) ≡ t → 2 * plans_size (plans_of xs) + 1 < t
union_falls p v xs t e f h = below (plan_size (plan_of p)) (plans_size (plans_of xs)) t (ap (λ q. plan_size (plan_of q)) e ∙ ap (λ ps. plans_size ps + 1) (vec_plans v xs f)) h

pub qinter_falls : (p : Program) (q : ℕ) (v : Vec Program Global) (xs : List Program) (t : ℕ) → p ≡ QInter q v → xs ≡ v.items → 2 * plan_size (plan_of p) ≡ t → 2 * plans_size (plans_of xs) + 1 < t
qinter_falls p q v xs t e f h = below (plan_size (plan_of p)) (plans_size (plans_of xs)) t (ap (λ q. plan_size (plan_of q)) e ∙ ap (λ ps. plans_size ps + 1) (vec_plans v xs f)) h

part_size : (ps : List Program) (k : ℕ) (p : Program) → k < length ps → p ≡ get_or ps k p → plan_size (plan_of p) ≤ plans_size (plans_of ps)
part_size [] k p l e = absurd (omega arith)
part_size (q ∷ ps) zero p l e = let s : plan_size (plan_of p) ≡ plan_size (plan_of q) = ap (λ x. plan_size (plan_of x)) e in omega arith
part_size (q ∷ ps) (suc k) p l e = let g : k < length ps = omega arith in let s : plan_size (plan_of p) ≤ plans_size (plans_of ps) = part_size ps k p g e in omega arith

pub part_falls : (ps : List Program) (k : ℕ) (p : Program) (t : ℕ) → k < length ps → p ≡ get_or ps k p → 2 * plans_size (plans_of ps) + 1 ≡ t → 2 * plan_size (plan_of p) < t
part_falls ps k p t l e h = let s : plan_size (plan_of p) ≤ plans_size (plans_of ps) = part_size ps k p l e in omega arith

part_below : (ps : List Program) (k : ℕ) (p : Program) → k < length ps → p ≡ get_or ps k p → plan_size (plan_of p) < plans_size (plans_of ps)
part_below [] k p l e = absurd (omega arith)
part_below (q ∷ ps) zero p l e = let s : plan_size (plan_of p) ≡ plan_size (plan_of q) = ap (λ x. plan_size (plan_of x)) e in omega arith
part_below (q ∷ ps) (suc k) p l e = let g : k < length ps = omega arith in let s : plan_size (plan_of p) < plans_size (plans_of ps) = part_below ps k p g e in omega arith

pub part_falls_far : (ps : List Program) (k : ℕ) (p : Program) (t : ℕ) → k < length ps → p ≡ get_or ps k p → 2 * plans_size (plans_of ps) ≡ t → 2 * plan_size (plan_of p) < t
part_falls_far ps k p t l e h = let s : plan_size (plan_of p) < plans_size (plans_of ps) = part_below ps k p l e in omega arith
