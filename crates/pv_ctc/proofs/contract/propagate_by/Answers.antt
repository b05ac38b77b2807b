use Rattle.std.proofs.Common.{length, []}
use Rattle.pv_ctc.specs.Contracting.{sides_in}
use Rattle.pv_ctc.specs.Revisions.{passage}
use Rattle.pv_ctc.proofs.Tallies.{for_ok, for_err, rose_none, untold}
use Rattle.pv_ctc.proofs.contract.propagate_by.Goals as goal

pub returns-clause-counted : goal.returns-clause-counted
returns-clause-counted g c = for_ok c.propagate-2.result (untold (g.C.Counter.told c.args.counter.now) (length (passage c.args.turns (sides_in c.args.graphs.now) [] c.args.bx.now).made) (c.counts.ensures c.if-counts.false))

pub returns-clause-at_most : goal.returns-clause-at_most
returns-clause-at_most g c = for_err c.propagate-2.result (rose_none (length (passage c.args.turns (sides_in c.args.graphs.now) [] c.args.bx.now).made) (g.C.Counter.told c.args.counter.now))
