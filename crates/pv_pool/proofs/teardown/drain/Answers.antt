use Rattle.std.proofs.Common.{◌<◌, ◌≤◌, ◌≡◌, ◌+◌, length, refl, subst, sym, ap, ◌∙◌, arith}
use Rattle.pv_pool.specs.Benches.{own}
use Rattle.pv_pool.proofs.Handbacks.{draining_none, draining_more, draining_room, drained}
use Rattle.pv_pool.proofs.teardown.drain.Goals as goal

pub loop-init : goal.loop-init
loop-init g c = record { draining = draining_none (g.W.Work.numbers c.args.told.now) (own c.args.owner.now); within = omega arith }

pub pop-requires : goal.pop-requires
pop-requires g c = subst (λ n. 0 < n) (sym (c.loop.invariant.draining.parts ∙ c.requires.whole)) (omega arith)

pub give_back-requires : goal.give_back-requires
give_back-requires g c = draining_room (g.W.Work.numbers c.args.told.now) (g.W.Work.numbers c.loop.told) (own c.args.owner.now) (own c.loop.owner) c.loop.invariant.draining c.loop.invariant.within c.requires.few c.requires.room

pub loop-preserved : goal.loop-preserved
loop-preserved g c =
    let w : length (own c.pop.new.self).taken ≤ length (own c.pop.new.self).pushed = c.in-Some-pop.ensures.within (c.loop.invariant.draining.parts ∙ c.requires.whole) in
    record {
      draining = draining_more (g.W.Work.numbers c.args.told.now) (g.W.Work.numbers c.loop.told) (g.W.Work.numbers c.give_back.new.told) (own c.args.owner.now) (own c.loop.owner) (own c.pop.new.self) c.in-Some-pop.job c.loop.invariant.draining c.in-Some-pop.ensures.popped c.give_back.ensures;
      within = omega arith;
    }

pub returns-in-None-pop : goal.returns-in-None-pop
returns-in-None-pop g c =
    drained (g.W.Work.numbers c.args.told.now) (g.W.Work.numbers c.loop.told) (own c.args.owner.now) (own c.loop.owner) c.loop.invariant.draining
    (c.in-None-pop.ensures.popped.1 (c.loop.invariant.draining.parts ∙ c.requires.whole))
