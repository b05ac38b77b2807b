use Rattle.std.proofs.Common.{◌≡◌, length, take}
use Rattle.pv_keep_sql.specs.Digits.{digits_of}
use Rattle.pv_keep_sql.proofs.kept_path.path_of.Given as goal

abbrev pub invariant-loop-i : goal.invariant-loop-i
invariant-loop-i l = record {
  steps : length l.path ≡ l.i;
  digits : digits_of l.path ≡ take l.i l.digits;
}
