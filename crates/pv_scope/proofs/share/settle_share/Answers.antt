use Rattle.std.proofs.Common.{List, subst}
use Rattle.pv_interval.specs.Bounds.{Bounds}
use Rattle.pv_tree.specs.Stages.{IsStage}
use Rattle.pv_tree.proofs.Earlier.{opening_is_stage}
use Rattle.pv_scope.specs.Settlings.{share_in}
use Rattle.pv_scope.proofs.Settled.{ended_few, ended_spent, done_closed}
use Rattle.pv_scope.proofs.Whole.{full_there}
use Rattle.pv_scope.proofs.share.settle_share.Goals as goal

pub returns-clause-stages : goal.returns-clause-stages
returns-clause-stages g c = λ earlier paves stage.
    let s = c.args.settler.now in let rule = g.S.Settler.settle_of s in let depth = g.S.Settler.depth_of s in
    subst (λ (b : List Bounds). IsStage rule depth b earlier c.settle_scope.new.paving.tree) c.in_ok-came.ensures.root (c.in_ok-came.ensures.stage earlier paves stage)

pub returns-clause-stage : goal.returns-clause-stage
returns-clause-stage g c =
    let s = c.args.settler.now in let rule = g.S.Settler.settle_of s in let depth = g.S.Settler.depth_of s in let b = c.args.opening.root in let t = c.args.opening.tree in
    subst (λ (b : List Bounds). IsStage rule depth b t c.settle_scope.new.paving.tree) c.in_ok-came.ensures.root (c.in_ok-came.ensures.stage t c.dims.ensures.paving.paves (opening_is_stage rule depth b t))

pub returns-clause-others : goal.returns-clause-others
returns-clause-others g c = c.in_ok-came.ensures.settled.stays

pub returns-clause-few : goal.returns-clause-few
returns-clause-few g c =
    ended_few 201 (share_in c.args.share.number c.args.share.of c.args.opening.tree) c.args.budget c.in_ok-came.came.settled c.in_ok-came.came.done c.settle_scope.new.paving.tree c.in_ok-came.ensures.ended

pub returns-clause-spent : goal.returns-clause-spent
returns-clause-spent g c =
    ended_spent 201 (share_in c.args.share.number c.args.share.of c.args.opening.tree) c.args.budget c.in_ok-came.came.settled c.in_ok-came.came.done c.settle_scope.new.paving.tree c.in_ok-came.ensures.ended

pub returns-clause-done : goal.returns-clause-done
returns-clause-done g c =
    done_closed (share_in c.args.share.number c.args.share.of c.args.opening.tree) c.args.budget c.in_ok-came.came.settled c.in_ok-came.came.done c.settle_scope.new.paving.tree c.dims-sides.ensures.paving.depth c.in_ok-came.ensures.ended

pub returns-clause-full : goal.returns-clause-full
returns-clause-full g c = λ done.
    let s = c.args.settler.now in let rule = g.S.Settler.settle_of s in let depth = g.S.Settler.depth_of s in let b = c.args.opening.root in let t = c.args.opening.tree in let new = c.settle_scope.new.paving.tree in
    let stage : IsStage rule depth b t new =
    subst (λ (b : List Bounds). IsStage rule depth b t new) c.in_ok-came.ensures.root (c.in_ok-came.ensures.stage t c.dims.ensures.paving.paves (opening_is_stage rule depth b t)) in
    full_there rule depth b c.args.share.number c.args.share.of t new stage
    ((done_closed (share_in c.args.share.number c.args.share.of t) c.args.budget c.in_ok-came.came.settled c.in_ok-came.came.done new c.dims-sides.ensures.paving.depth c.in_ok-came.ensures.ended).0 done)
