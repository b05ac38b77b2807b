-- The programs of a list, as they stand in a program and as a list.
use Rattle.std.proofs.Common.{◌≡◌, ℕ, zero, suc, ◌+◌, ◌<◌, ◌≤◌, get_or, List, [], ◌∷◌, ◌++◌, length, refl, ap, sym, ◌∙◌, arith, subst}
use Rattle.pv_ctc.specs.declared.program.Program.{Program, Row_of-Program, end_of-Program, more_of-Program, items-the_row-Program, items_hidden-the_row-Program-0}
use Rattle.std.proofs.Common.{Vec, Global}
use Rattle.pv_ctc.specs.declared.program.Program.{Compose, Union, QInter}
use Rattle.pv_ctc.specs.declared.program.Program.TheBlock.{hidden-the_row-Program-0}
use Rattle.pv_ctc.specs.Plans.{plan_and, plan_of, plans_in, plans_of, plan_count, AreFor, IsFor, node_count, nodes_in}

pub row_plans : {m : _} → (k : Row_of-Program m) → plans_in k ≡ plans_of (items-the_row-Program m k)
row_plans end_of-Program = refl
row_plans (more_of-Program p rest) = ap (plan_and (plan_of p)) (row_plans rest)

pub count_plans : (ps : List Program) → plan_count (plans_of ps) ≡ length ps
count_plans [] = refl
count_plans (p ∷ ps) = let e : plan_count (plans_of ps) ≡ length ps = count_plans ps in omega arith

pub plans_more : (count : ℕ) (ps : List Program) (p : Program) → AreFor count (plans_of ps) → IsFor count (plan_of p) → AreFor count (plans_of (ps ++ p ∷ []))
plans_more count [] p h g = (g, h)
plans_more count (q ∷ ps) p h g = (h.0, plans_more count ps p h.1 g)

pub row_fits : (count : ℕ) (m : _) (k : Row_of-Program m) (ps : List Program) → items-the_row-Program m k ≡ ps → 1 ≤ length ps → AreFor count (plans_of ps) → (1 ≤ plan_count (plans_in k)) × AreFor count (plans_in k)
row_fits count m k ps e h f =
    let same : plans_in k ≡ plans_of ps = row_plans k ∙ ap plans_of e in
    (subst (λ x. 1 ≤ plan_count x) (sym same) (subst (λ n. 1 ≤ n) (sym (count_plans ps)) h), subst (AreFor count) (sym same) f)

pub row_fits_q : (count : ℕ) (m : _) (q : ℕ) (k : Row_of-Program m) (ps : List Program) → items-the_row-Program m k ≡ ps → 1 ≤ q → q ≤ length ps → AreFor count (plans_of ps) → (1 ≤ q) × (q ≤ plan_count (plans_in k)) × AreFor count (plans_in k)
row_fits_q count m q k ps e l h f =
    let same : plans_in k ≡ plans_of ps = row_plans k ∙ ap plans_of e in
    (l, subst (λ x. q ≤ plan_count x) (sym same) (subst (λ n. q ≤ n) (sym (count_plans ps)) h), subst (AreFor count) (sym same) f)

pub row_back : (count : ℕ) (m : _) (k : Row_of-Program m) (ps : List Program) → items-the_row-Program m k ≡ ps → AreFor count (plans_in k) → AreFor count (plans_of ps)
row_back count m k ps e f = subst (AreFor count) (row_plans k ∙ ap plans_of e) f

pub fits_at : (count : ℕ) (ps : List Program) (k : ℕ) (p : Program) → AreFor count (plans_of ps) → k < length ps → p ≡ get_or ps k p → IsFor count (plan_of p)
fits_at count [] k p h l e = absurd (omega arith)
fits_at count (q ∷ ps) zero p h l e = subst (λ x. IsFor count (plan_of x)) (sym e) h.0
fits_at count (q ∷ ps) (suc k) p h l e = let g : k < length ps = omega arith in fits_at count ps k p h.1 g e

pub compose_parts : (count : ℕ) (p : Program) (v : Vec Program Global) (xs : List Program) → p ≡ Compose v → xs ≡ v.items → IsFor count (plan_of p) → AreFor count (plans_of xs)
compose_parts count p v xs e f h = subst (λ x. AreFor count (plans_of x)) (sym f) (row_back count _ (hidden-the_row-Program-0 v) v.items (items_hidden-the_row-Program-0 v) (subst (λ q. IsFor count (plan_of q)) e h).1)

pub union_parts : (count : ℕ) (p : Program) (v : Vec Program Global) (xs : List Program) → p ≡ Union v → xs ≡ v.items → IsFor count (plan_of p) → AreFor count (plans_of xs)
union_parts count p v xs e f h = subst (λ x. AreFor count (plans_of x)) (sym f) (row_back count _ (hidden-the_row-Program-0 v) v.items (items_hidden-the_row-Program-0 v) (subst (λ q. IsFor count (plan_of q)) e h).1)

pub qinter_parts : (count q : ℕ) (p : Program) (v : Vec Program Global) (xs : List Program) → p ≡ QInter q v → xs ≡ v.items → IsFor count (plan_of p) → (1 ≤ q) × AreFor count (plans_of xs)
qinter_parts count q p v xs e f h =
    let g = subst (λ q. IsFor count (plan_of q)) e h in
    (g.0, subst (λ x. AreFor count (plans_of x)) (sym f) (row_back count _ (hidden-the_row-Program-0 v) v.items (items_hidden-the_row-Program-0 v) g.2))

pub nodes_more : (ps : List Program) (p : Program) → nodes_in (plans_of (ps ++ p ∷ [])) ≡ nodes_in (plans_of ps) + node_count (plan_of p)
nodes_more [] p = omega arith
nodes_more (q ∷ ps) p = let e = nodes_more ps p in omega arith

pub row_nodes : {m : _} (k : Row_of-Program m) (ps : List Program) → items-the_row-Program m k ≡ ps → (before after : ℕ) → after ≡ before + nodes_in (plans_of ps) → after + 1 ≡ before + (nodes_in (plans_in k) + 1)
row_nodes k ps e before after h = let same : nodes_in (plans_in k) ≡ nodes_in (plans_of ps) = ap nodes_in (row_plans k ∙ ap plans_of e) in omega arith
