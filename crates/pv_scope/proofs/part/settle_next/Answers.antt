use Rattle.std.proofs.Common.{◌≡◌, ◌+◌, ◌-◌, length, sym, ap, subst}
use Rattle.pv_tree.specs.Holes.{Growing}
use Rattle.pv_tree.specs.Stages.{Grows, full_of}
use Rattle.pv_tree.proofs.KnownLeaves.{next_is_leaf}
use Rattle.pv_tree.proofs.StageLaws.{grows_leaf}
use Rattle.pv_tree.specs.Trees.{leaf}
use Rattle.pv_board.specs.Rules.{IsFitting}
use Rattle.pv_scope.specs.Parts.{AreToCome, AreShort}
use Rattle.pv_scope.proofs.Going.{still_to_come, still_short}
use Rattle.pv_workers.proofs.Below.{path_fits}
use Rattle.pv_scope.proofs.part.settle_next.Goals as goal

pub then-requires : goal.then-requires
then-requires g c =
    let own = g.S.Settler in let m = g.met.S.Settler in let s = c.args.settler.now in
    let laws : IsFitting (own.settle_of s) (own.depth_of s) (own.dims s) = record { some = (m.depth_fits s).0; few = (m.depth_fits s).1; fits = m.fits s; keeps_box = m.keeps_box s; ends = m.ends s } in
    let now = c.args.grower.now.growth in
    path_fits (own.settle_of s) (own.depth_of s) (own.dims s) laws now.root now.tree c.args.path c.args.reach.now.at c.dims-places.ensures.is_box c.requires.dims c.len-steps.ensures.few c.requires.stage (next_is_leaf now c.args.path c.requires.next)

pub returns-clause-stage : goal.returns-clause-stage
returns-clause-stage g c =
    let s = c.args.settler.now in let rule = g.S.Settler.settle_of s in let depth = g.S.Settler.depth_of s in
    let now = c.args.grower.now.growth in let new = c.step.new.self.growth in
    let same : length c.args.grower.now.at ≡ length c.args.reach.now.at = ap length c.requires.at in
    let next = c.in_ok-step.ensures.stage leaf tt (grows_leaf now.tree, subst (λ k. Grows now.tree (full_of rule depth now.root leaf k)) (sym same) c.requires.stage) in
    subst (λ k. Grows new.tree (full_of rule depth new.root leaf k)) same next.1

pub returns-clause-to_come : goal.returns-clause-to_come
returns-clause-to_come g c =
    let k = length c.args.reach.now.at in let now = c.args.grower.now.growth in
    subst (AreToCome c.args.reach.now.steps k) (sym c.in_ok-step.ensures.settled) (still_to_come c.args.reach.now.steps k now c.args.path _ c.requires.next c.requires.to_come)

pub returns-clause-short : goal.returns-clause-short
returns-clause-short g c =
    let k = length c.args.reach.now.at in let now = c.args.grower.now.growth in
    subst (λ (x : Growing). AreShort c.args.reach.now.steps k x.tree) (sym c.in_ok-step.ensures.settled) (still_short c.args.reach.now.steps k now c.args.path _ c.requires.next c.requires.few c.requires.short)
