use Rattle.std.proofs.Common.{◌≡◌, ◌+◌, ◌≤◌, length, vec_capacity}
use Rattle.pv_board.specs.Tallies.{tally_of}
use Rattle.pv_workers.specs.Accounts.{parts_in, AllBelow}
use Rattle.pv_workers.proofs.account.split.Given as goal

abbrev pub invariant-loop-worker : goal.invariant-loop-worker
invariant-loop-worker g l = record {
  count : length l.accounts.items + 1 ≡ l._worker;
  room : l.fn.workers ≤ vec_capacity l.accounts;
  parts : parts_in l.accounts.items + l.told.parts ≡ 32;
  told : l.told ≡ tally_of l.told.parts;
  left : l.told.parts + l._worker ≡ 33;
  none : AllBelow 1 l.accounts.items;
}
