use Rattle.std.proofs.Common.{sym, subst, ap, ◌∙◌, ◌<◌, length}
use Rattle.pv_pool.proofs.Handbacks.{closed}
use Rattle.pv_pool.proofs.teardown.close.Goals as goal

pub returns-clause-closed : goal.returns-clause-closed
returns-clause-closed g c = λ i d t there. closed c.args.benches.now c.gather.new.benches i d _ _ c.gather.ensures (subst (λ n. i < n) c.requires.same there) (c.drain_all.ensures.drained i d t there)
