use Rattle.std.proofs.Common.{◌≡◌, ℕ, ◌≤◌, ◌^◌, List, ◌++◌, take, min}
use Rattle.std.specs.Str.Parse.{digits_value}
use Rattle.pv_tokens.proofs.number.with_digits.Given as goal

abbrev pub invariant-loop-digit : goal.invariant-loop-digit
invariant-loop-digit l = record {
  most : l.value ≤ 10 ^ 37;
  so_far : (before : List ℕ) → l.fn.value ≡ min (10 ^ 37) (digits_value 10 before) → l.value ≡ min (10 ^ 37) (digits_value 10 (before ++ take l.digit-index l.digits));
}
