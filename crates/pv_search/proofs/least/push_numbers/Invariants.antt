use Rattle.std.proofs.Common.{◌≡◌, ◌++◌, drop, length}
use Rattle.pv_product.specs.Leasts.{numbers_text}
use Rattle.pv_search.proofs.least.push_numbers.Given as goal

abbrev pub invariant-loop-i : goal.invariant-loop-i
invariant-loop-i l = record {
  end : l.i-end ≡ length l.point;
  text : l.out.items ++ numbers_text (drop l.i l.point) ≡ l.initial.out.items ++ numbers_text l.point;
}
