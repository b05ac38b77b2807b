use Rattle.std.proofs.Common.{◌≡◌, sym, ap, length, subst}
use Rattle.pv_tree.specs.Stages.{Grows, full_of}
use Rattle.pv_workers.specs.Leaves.{AreOpen}
use Rattle.pv_workers.proofs.GrownLeaves.{still_open}
use Rattle.pv_workers.proofs.growing.grow_one.Goals as goal

pub returns-in_ok-step-in-Some-clause-open : goal.returns-in_ok-step-in-Some-clause-open
returns-in_ok-step-in-Some-clause-open g c =
    subst AreOpen (sym c.in_ok-step-in-Some.ensures.settled) (still_open c.args.grower.now.growth c.in-Some.path _ c.in-Some.ensures.next c.requires.open)

pub returns-in_ok-step-in-Some-clause-stage : goal.returns-in_ok-step-in-Some-clause-stage
returns-in_ok-step-in-Some-clause-stage g c opening paves stage =
    let s = c.args.settler.now in let rule = g.S.Settler.settle_of s in let depth = g.S.Settler.depth_of s in
    let now = c.args.grower.now.growth in let new = c.step.new.self.growth in
    let at : length c.args.grower.now.at ≡ 0 = ap length c.requires.at in
    let next = c.in_ok-step-in-Some.ensures.stage opening paves (stage.grown, subst (λ k. Grows now.tree (full_of rule depth now.root opening k)) (sym at) stage.grows) in
    record { grown = next.0; grows = subst (λ k. Grows new.tree (full_of rule depth new.root opening k)) at next.1 }
