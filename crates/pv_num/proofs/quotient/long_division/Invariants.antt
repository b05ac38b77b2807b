use Rattle.std.proofs.Common.{◌≡◌, ◌+◌, ◌*◌, ◌^◌, ◌<◌, ◌≤◌}
use Rattle.pv_num.proofs.quotient.long_division.Given as goal

abbrev pub invariant-loop : goal.invariant-loop
invariant-loop l = record {
  value : l.q * l.d + l.rest ≡ l.n * 2 ^ (7 * l.counter);
  less : l.rest < l.d;
  fits : l.q < 2 ^ (7 + 7 * l.counter);
  short : l.counter ≤ 9;
}
