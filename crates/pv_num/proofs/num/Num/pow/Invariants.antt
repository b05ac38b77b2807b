use Rattle.std.proofs.Common.{◌≡◌, ◌≤◌}
use Rattle.pv_num.specs.Arithmetic.{pow_of}
use Rattle.pv_num.proofs.num.Num.pow.Given as goal

abbrev pub invariant-loop : goal.invariant-loop
invariant-loop l = record { from : 1 ≤ l.counter; power : l.power ≡ pow_of l.side l.self l.counter }
