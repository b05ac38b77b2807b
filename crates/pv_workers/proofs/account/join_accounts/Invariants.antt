use Rattle.std.proofs.Common.{◌≡◌, ◌+◌, ◌^◌, length}
use Rattle.pv_workers.specs.Accounts.{parts_in, AllBelow, HasRoom}
use Rattle.pv_workers.proofs.account.join_accounts.Given as goal

abbrev pub invariant-loop-account : goal.invariant-loop-account
invariant-loop-account g l = record {
  parts : l.told.parts + parts_in l.rest.items ≡ parts_in l.fn.accounts.items;
  below : AllBelow (2 ^ 71) l.rest.items;
  room : HasRoom (length l.rest.items) l.told;
}

abbrev pub decreases-loop-account : goal.decreases-loop-account
decreases-loop-account g l = length l.rest.items
