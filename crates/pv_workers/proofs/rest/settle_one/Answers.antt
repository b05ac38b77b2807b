use Rattle.pv_workers.proofs.Rests.{taken_current}
use Rattle.pv_workers.proofs.rest.settle_one.Goals as goal

pub settle_taken-requires-clause-current : goal.settle_taken-requires-clause-current
settle_taken-requires-clause-current g c = taken_current c.args.board.now c.take.new.self c.in-Some.ticket c.in-Some.ensures.taken
