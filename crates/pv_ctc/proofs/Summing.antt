-- The revisions of programs of several parts, and of turns, step by step.
use Rattle.std.proofs.Common.{◌≡◌, ℕ, suc, ◌+◌, ◌<◌, ◌≤◌, List, length, ap, sym, ◌∙◌, subst, arith, get_or, drop, add-one, Vec, Global}
use Rattle.std.specs.Prelude.{Option, Some, cond}
use Rattle.std.proofs.Math.Seq.{drop-cons}
use Rattle.pv_interval.specs.Bounds.{Bounds}
use Rattle.pv_hc4.specs.Revise.{Sides}
use Rattle.pv_hc4.specs.declared.revised.Revised.TheVariants.{Kept, Changed, Empty}
use Rattle.pv_ctc.specs.declared.program.Program.{Program, Compose, Union, QInter}
use Rattle.pv_ctc.specs.Contracting.{Effect, contract_of}
use Rattle.pv_ctc.specs.Counters.{raised, RoseAtMost}
use Rattle.pv_ctc.specs.Plans.{plan_of, plans_of}
use Rattle.pv_ctc.specs.Revisions.{same_box, counted_of, sum_of_turns, revisions, revisions_in_order, revisions_of_all}
use Rattle.pv_ctc.specs.Steps.{IsStep}
use Rattle.pv_ctc.proofs.Sameness.{box_refl, box_not}
use Rattle.pv_ctc.proofs.Sizes.{vec_plans}
use Rattle.pv_ctc.proofs.Tallies.{SoMany, some_more, last_told, at_most_all}
use Rattle.pv_ctc.proofs.Turns.{step_empty, step_changed, step_kept, step_other}

-- programs of several parts
pub compose_count : (ss : List Sides) (p : Program) (v : Vec Program Global) (xs : List Program) (b : List Bounds) → p ≡ Compose v → xs ≡ v.items → revisions_in_order ss (plans_of xs) b ≡ revisions ss (plan_of p) b
compose_count ss p v xs b e f = sym (ap (λ q. revisions ss (plan_of q) b) e ∙ ap (λ ps. revisions_in_order ss ps b) (vec_plans v xs f))

pub union_count : (ss : List Sides) (p : Program) (v : Vec Program Global) (xs : List Program) (b : List Bounds) → p ≡ Union v → xs ≡ v.items → revisions_of_all ss (plans_of xs) b ≡ revisions ss (plan_of p) b
union_count ss p v xs b e f = sym (ap (λ q. revisions ss (plan_of q) b) e ∙ ap (λ ps. revisions_of_all ss ps b) (vec_plans v xs f))

pub qinter_count : (ss : List Sides) (n : ℕ) (p : Program) (v : Vec Program Global) (xs : List Program) (b : List Bounds) → p ≡ QInter n v → xs ≡ v.items → revisions_of_all ss (plans_of xs) b ≡ revisions ss (plan_of p) b
qinter_count ss n p v xs b e f = sym (ap (λ q. revisions ss (plan_of q) b) e ∙ ap (λ ps. revisions_of_all ss ps b) (vec_plans v xs f))

-- a sum whose first part is counted
plus_none : (n : ℕ) → n + 0 ≡ n
plus_none n = omega arith

part_first : (n m all : ℕ) → all ≡ n + m → n ≤ all
part_first n m all e = omega arith

-- parts in order, from number k on
order_is : (ss : List Sides) (ps : List Program) (k : ℕ) (p : Program) (b : List Bounds) → k < length ps → p ≡ get_or ps k p → revisions_in_order ss (plans_of (drop k ps)) b ≡ revisions ss (plan_of p) b + counted_of (contract_of ss (plan_of p) b) (revisions_in_order ss (plans_of (drop (k + 1) ps)))
order_is ss ps k p b h e =
    ap (λ xs. revisions_in_order ss (plans_of xs) b) (drop-cons ps k p h)
    ∙ ap (λ q. revisions ss (plan_of q) b + counted_of (contract_of ss (plan_of q) b) (revisions_in_order ss (plans_of (drop (suc k) ps)))) (sym e)
    ∙ ap (λ n. revisions ss (plan_of p) b + counted_of (contract_of ss (plan_of p) b) (revisions_in_order ss (plans_of (drop n ps)))) (sym (add-one k))

pub order_goes_on : (ss : List Sides) (ps : List Program) (k : ℕ) (p : Program) (b new : List Bounds) (start now next : Option ℕ) (all : ℕ) → k < length ps → p ≡ get_or ps k p → contract_of ss (plan_of p) b ≡ Some new → next ≡ raised now (revisions ss (plan_of p) b) → SoMany start now (revisions_in_order ss (plans_of (drop k ps)) b) all → SoMany start next (revisions_in_order ss (plans_of (drop (k + 1) ps)) new) all
order_goes_on ss ps k p b new start now next all l e s c h =
    some_more start now next (revisions_in_order ss (plans_of (drop k ps)) b) (revisions_in_order ss (plans_of (drop (k + 1) ps)) new) all (revisions ss (plan_of p) b) h
    (order_is ss ps k p b l e ∙ ap (λ o. revisions ss (plan_of p) b + counted_of o (revisions_in_order ss (plans_of (drop (k + 1) ps)))) s) c

pub order_without_memory : (ss : List Sides) (ps : List Program) (k : ℕ) (p : Program) (b : List Bounds) (start now next : Option ℕ) (all : ℕ) → k < length ps → p ≡ get_or ps k p → RoseAtMost (revisions ss (plan_of p) b) now next → SoMany start now (revisions_in_order ss (plans_of (drop k ps)) b) all → RoseAtMost all start next
order_without_memory ss ps k p b start now next all l e r h =
    at_most_all start now next (revisions_in_order ss (plans_of (drop k ps)) b) all (revisions ss (plan_of p) b) h
    (part_first (revisions ss (plan_of p) b) (counted_of (contract_of ss (plan_of p) b) (revisions_in_order ss (plans_of (drop (k + 1) ps)))) (revisions_in_order ss (plans_of (drop k ps)) b) (order_is ss ps k p b l e)) r

-- all parts, from number k on
all_is : (ss : List Sides) (ps : List Program) (k : ℕ) (p : Program) (b : List Bounds) → k < length ps → p ≡ get_or ps k p → revisions_of_all ss (plans_of (drop k ps)) b ≡ revisions ss (plan_of p) b + revisions_of_all ss (plans_of (drop (k + 1) ps)) b
all_is ss ps k p b h e =
    ap (λ xs. revisions_of_all ss (plans_of xs) b) (drop-cons ps k p h)
    ∙ ap (λ q. revisions ss (plan_of q) b + revisions_of_all ss (plans_of (drop (suc k) ps)) b) (sym e)
    ∙ ap (λ n. revisions ss (plan_of p) b + revisions_of_all ss (plans_of (drop n ps)) b) (sym (add-one k))

pub all_go_on : (ss : List Sides) (ps : List Program) (k : ℕ) (p : Program) (b to : List Bounds) (start now next : Option ℕ) (all : ℕ) → k < length ps → p ≡ get_or ps k p → to ≡ b → next ≡ raised now (revisions ss (plan_of p) to) → SoMany start now (revisions_of_all ss (plans_of (drop k ps)) b) all → SoMany start next (revisions_of_all ss (plans_of (drop (k + 1) ps)) b) all
all_go_on ss ps k p b to start now next all l e f c h =
    some_more start now next (revisions_of_all ss (plans_of (drop k ps)) b) (revisions_of_all ss (plans_of (drop (k + 1) ps)) b) all (revisions ss (plan_of p) b) h
    (all_is ss ps k p b l e) (c ∙ ap (λ x. raised now (revisions ss (plan_of p) x)) f)

pub all_without_memory : (ss : List Sides) (ps : List Program) (k : ℕ) (p : Program) (b to : List Bounds) (start now next : Option ℕ) (all : ℕ) → k < length ps → p ≡ get_or ps k p → to ≡ b → RoseAtMost (revisions ss (plan_of p) to) now next → SoMany start now (revisions_of_all ss (plans_of (drop k ps)) b) all → RoseAtMost all start next
all_without_memory ss ps k p b to start now next all l e f r h =
    at_most_all start now next (revisions_of_all ss (plans_of (drop k ps)) b) all (revisions ss (plan_of p) b) h
    (part_first (revisions ss (plan_of p) b) (revisions_of_all ss (plans_of (drop (k + 1) ps)) b) (revisions_of_all ss (plans_of (drop k ps)) b) (all_is ss ps k p b l e))
    (subst (λ x. RoseAtMost (revisions ss (plan_of p) x) now next) f r)

-- turns
sum_is : (n m : ℕ) (f : Effect) (count : List Bounds → ℕ) (b : List Bounds) → n ≡ suc m → sum_of_turns n f count b ≡ count b + counted_of (f b) (λ c. cond (same_box b c) 0 (sum_of_turns m f count c))
sum_is n m f count b e = ap (λ k. sum_of_turns k f count b) e

pub turns_go_on : (n m : ℕ) (f : Effect) (count : List Bounds → ℕ) (b new : List Bounds) (start now next : Option ℕ) (all : ℕ) → n ≡ suc m → IsStep (f b) Changed b new → next ≡ raised now (count b) → SoMany start now (sum_of_turns n f count b) all → SoMany start next (sum_of_turns m f count new) all
turns_go_on n m f count b new start now next all e s c h =
    some_more start now next (sum_of_turns n f count b) (sum_of_turns m f count new) all (count b) h
    (sum_is n m f count b e
    ∙ ap (λ o. count b + counted_of o (λ c. cond (same_box b c) 0 (sum_of_turns m f count c))) (step_changed (f b) b new s)
    ∙ ap (λ t. count b + cond t 0 (sum_of_turns m f count new)) (box_not b new (step_other (f b) b new s))) c

pub turns_stop : (n m : ℕ) (f : Effect) (count : List Bounds → ℕ) (b new : List Bounds) (start now next : Option ℕ) (all : ℕ) → n ≡ suc m → IsStep (f b) Kept b new → next ≡ raised now (count b) → SoMany start now (sum_of_turns n f count b) all → next ≡ raised start all
turns_stop n m f count b new start now next all e s c h =
    last_told start now next (sum_of_turns n f count b) all (count b) h
    (sum_is n m f count b e
    ∙ ap (λ o. count b + counted_of o (λ c. cond (same_box b c) 0 (sum_of_turns m f count c))) (step_kept (f b) b new s).0
    ∙ ap (λ t. count b + cond t 0 (sum_of_turns m f count b)) (box_refl b) ∙ plus_none (count b)) c

pub turns_break : (n m : ℕ) (f : Effect) (count : List Bounds → ℕ) (b new : List Bounds) (start now next : Option ℕ) (all : ℕ) → n ≡ suc m → IsStep (f b) Empty b new → next ≡ raised now (count b) → SoMany start now (sum_of_turns n f count b) all → next ≡ raised start all
turns_break n m f count b new start now next all e s c h =
    last_told start now next (sum_of_turns n f count b) all (count b) h
    (sum_is n m f count b e
    ∙ ap (λ o. count b + counted_of o (λ c. cond (same_box b c) 0 (sum_of_turns m f count c))) (step_empty (f b) b new s) ∙ plus_none (count b)) c

pub turns_without_memory : (n m : ℕ) (f : Effect) (count : List Bounds → ℕ) (b : List Bounds) (start now next : Option ℕ) (all : ℕ) → n ≡ suc m → RoseAtMost (count b) now next → SoMany start now (sum_of_turns n f count b) all → RoseAtMost all start next
turns_without_memory n m f count b start now next all e r h =
    at_most_all start now next (sum_of_turns n f count b) all (count b) h
    (part_first (count b) (counted_of (f b) (λ c. cond (same_box b c) 0 (sum_of_turns m f count c))) (sum_of_turns n f count b) (sum_is n m f count b e)) r
