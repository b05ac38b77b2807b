use Rattle.std.proofs.Common.{arith}
use Rattle.pv_least.proofs.Places.{all_places}
use Rattle.pv_least.proofs.candidate.Candidate.write.Goals as goal

pub returns : goal.returns
returns c = all_places c.args.self c.args.to.now c.loop-i.probe c.loop-i.invariant.size (λ k d l. c.loop-i.invariant.done k d (omega (arith, l)))
