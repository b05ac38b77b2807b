use Rattle.std.proofs.Common.{subst}
use Rattle.crossbeam_deque.specs.Handles.{IsPassOf}
use Rattle.pv_pool.proofs.Rule.{merges}
use Rattle.pv_pool.proofs.deque.Owner.absorb.Goals as goal

pub absorb-requires-clause-table : goal.absorb-requires-clause-table
absorb-requires-clause-table g c = subst (λ d. IsPassOf d c.args.thief.pass) c.requires.deque c.args.thief.of

pub absorb-requires-clause-rule : goal.absorb-requires-clause-rule
absorb-requires-clause-rule g c = merges _ _ _ _ c.requires.part
