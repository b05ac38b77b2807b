use Rattle.std.proofs.Common.{refl, subst}
use Rattle.pv_pool.specs.Ends.{Absorbed}
use Rattle.pv_pool.proofs.Handbacks.{absorbed_more}
use Rattle.pv_pool.proofs.teardown.absorb_all.Goals as goal

pub loop-thief-preserved : goal.loop-thief-preserved
loop-thief-preserved g c =
    absorbed_more c.args.benches.now c.args.row.items c.loop-thief.benches c.pop.new.self.items _ c.index-benches-number.result c.in-Some.thief
    (subst (λ r. Absorbed c.args.benches.now c.args.row.items c.loop-thief.benches r) c.in-Some.ensures.items c.loop-thief.invariant)
    c.absorb.ensures.same refl c.absorb.ensures.both
