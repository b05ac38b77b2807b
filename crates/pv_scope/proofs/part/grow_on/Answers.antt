use Rattle.std.proofs.Common.{List, length, refl, sym, subst}
use Rattle.pv_interval.specs.Bounds.{Bounds}
use Rattle.pv_tree.specs.Trees.{Tree, leaf}
use Rattle.pv_tree.specs.Stages.{Grows, full_of}
use Rattle.pv_scope.specs.Parts.{AreShort}
use Rattle.pv_scope.proofs.Going.{ended}
use Rattle.pv_scope.proofs.part.grow_on.Goals as goal

pub returns-in_default-clause-stage : goal.returns-in_default-clause-stage
returns-in_default-clause-stage g c =
    let s = c.args.settler.now in let l = c.loop-settled in let k = length c.args.reach.now.at in
    subst (λ (x : Tree). Grows x (full_of (g.S.Settler.settle_of s) (g.S.Settler.depth_of s) c.next_short.new.grower.growth.root leaf k)) (sym c.next_short.ensures.tree)
    (subst (λ (b : List Bounds). Grows l.grower.growth.tree (full_of (g.S.Settler.settle_of s) (g.S.Settler.depth_of s) b leaf k)) (sym c.next_short.ensures.root) l.invariant.stage)

pub returns-in_default-clause-short : goal.returns-in_default-clause-short
returns-in_default-clause-short g c =
    subst (AreShort c.args.reach.now.steps (length c.args.reach.now.at)) (sym c.next_short.ensures.tree) c.loop-settled.invariant.short

pub settle_next-requires-clause-stage : goal.settle_next-requires-clause-stage
settle_next-requires-clause-stage g c =
    let s = c.args.settler.now in let l = c.loop-settled in let k = length c.args.reach.now.at in
    subst (λ (x : Tree). Grows x (full_of (g.S.Settler.settle_of s) (g.S.Settler.depth_of s) c.next_short.new.grower.growth.root leaf k)) (sym c.next_short.ensures.tree)
    (subst (λ (b : List Bounds). Grows l.grower.growth.tree (full_of (g.S.Settler.settle_of s) (g.S.Settler.depth_of s) b leaf k)) (sym c.next_short.ensures.root) l.invariant.stage)

pub settle_next-requires-clause-short : goal.settle_next-requires-clause-short
settle_next-requires-clause-short g c =
    subst (AreShort c.args.reach.now.steps (length c.args.reach.now.at)) (sym c.next_short.ensures.tree) c.loop-settled.invariant.short

pub returns-clause-stage : goal.returns-clause-stage
returns-clause-stage g c =
    let s = c.args.settler.now in let l = c.loop-settled in let k = length c.args.reach.now.at in
    subst (λ (x : Tree). Grows x (full_of (g.S.Settler.settle_of s) (g.S.Settler.depth_of s) c.next_short-2.new.grower.growth.root leaf k)) (sym c.next_short-2.ensures.tree)
    (subst (λ (b : List Bounds). Grows l.grower.growth.tree (full_of (g.S.Settler.settle_of s) (g.S.Settler.depth_of s) b leaf k)) (sym c.next_short-2.ensures.root) l.invariant.stage)

pub returns-clause-short : goal.returns-clause-short
returns-clause-short g c =
    subst (AreShort c.args.reach.now.steps (length c.args.reach.now.at)) (sym c.next_short-2.ensures.tree) c.loop-settled.invariant.short

pub returns-clause-grown : goal.returns-clause-grown
returns-clause-grown g c =
    ended c.args.reach.now.steps (length c.args.reach.now.at) c.args.most c.next_short-2.new.grower.growth c.next_short-2.new.grower.growth.tree c.next_short-2.result c.is_none-done.result refl
    c.is_none-done.ensures c.next_short-2.ensures.next c.next_short-2.ensures.short c.next_short-2.ensures.none
