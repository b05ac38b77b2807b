-- A full tree has at most so many settled nodes as its depth allows.
use Rattle.std.proofs.Common.{ℕ, zero, suc, ◌+◌, ◌≤◌, List, refl, sym, subst, arith}
use Rattle.pv_interval.specs.Bounds.{Bounds}
use Rattle.pv_box.specs.Boxes.{lower_half, upper_half}
use Rattle.pv_tree.specs.Trees.{Tree, leaf}
use Rattle.pv_tree.specs.Stages.{Rule, full, full_of}
use Rattle.pv_tree.specs.declared.outcome.Outcome.{Outcome}
use Rattle.pv_tree.specs.declared.outcome.Outcome.TheVariants.{Removed, Inner, Small, Cut}
use Rattle.pv_tree.proofs.StageLaws.{rest, grown, full-is}
use Rattle.pv_rule.specs.Pavings.{settled_in}

-- the nodes of a whole tree with so many levels of cuts
abbrev most : ℕ → ℕ
most zero = 1
most (suc d) = most d + (most d + 1)

some : (d : ℕ) → 1 ≤ most d
some zero = omega arith
some (suc d) = let h = some d in omega arith

-- how many of them are below one half
abbrev most_below : ℕ → ℕ
most_below zero = 0
most_below (suc d) = most d

twice : (d low high : ℕ) → low ≤ most_below d → high ≤ most_below d → 1 + (low + high) ≤ most d
twice zero low high l h = omega arith
twice (suc d) low high l h = omega arith

grown_few : (rule : Rule) (d k : ℕ) → ((b : List Bounds) → settled_in (rest rule d b (suc k)) ≤ most_below d) → (o : Outcome) → settled_in (grown rule d k o) ≤ most d
grown_few rule d k below Removed = some d
grown_few rule d k below (Inner to) = some d
grown_few rule d k below (Small to) = some d
grown_few rule d k below (Cut to v a) =
    let low = below (lower_half to v a) in
    let high = below (upper_half to v a) in
    let both = twice d (settled_in (rest rule d (lower_half to v a) (suc k))) (settled_in (rest rule d (upper_half to v a) (suc k))) low high in
    omega arith

no_rest : (rule : Rule) (k : ℕ) (b : List Bounds) → settled_in (rest rule zero b (suc k)) ≤ most_below zero
no_rest rule k b = omega arith

few : (rule : Rule) (d : ℕ) (b : List Bounds) (k : ℕ) → settled_in (full rule d b k) ≤ most d
few rule zero b k =
    subst (λ (t : Tree). settled_in t ≤ most zero) (sym (full-is rule zero b k (rule b zero k) refl)) (grown_few rule zero k (no_rest rule k) (rule b zero k))
few rule (suc d) b k =
    subst (λ (t : Tree). settled_in t ≤ most (suc d)) (sym (full-is rule (suc d) b k (rule b (suc d) k) refl))
    (grown_few rule (suc d) k (λ c. few rule d c (suc k)) (rule b (suc d) k))

pub few_of_sample : (rule : Rule) (b : List Bounds) → settled_in (full_of rule 14 b leaf 0) ≤ 32767
unfolding full_of
few_of_sample rule b = few rule 14 b 0
