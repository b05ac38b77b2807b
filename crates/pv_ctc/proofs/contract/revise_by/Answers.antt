use Rattle.pv_ctc.proofs.Tallies.{for_ok, for_err, rose_none, untold}
use Rattle.pv_ctc.proofs.contract.revise_by.Goals as goal

pub returns-clause-counted : goal.returns-clause-counted
returns-clause-counted g c = for_ok c.revise-2.result (untold (g.C.Counter.told c.args.counter.now) 1 (c.counts.ensures c.if-counts.false))

pub returns-clause-at_most : goal.returns-clause-at_most
returns-clause-at_most g c = for_err c.revise-2.result (rose_none 1 (g.C.Counter.told c.args.counter.now))
