use Rattle.std.proofs.Common.{◌≡◌, length, take}
use Rattle.pv_ctc.specs.Contracting.{sides_in}
use Rattle.pv_ctc.specs.Facts.{Knows}
use Rattle.pv_settle.specs.Settlers.{rule_of}
use Rattle.pv_slope.specs.Programs.{none_tests, sure_tests}
use Rattle.pv_slope.proofs.settler.CenteredSettler.judge_all.Given as goal

abbrev pub invariant-loop-i : goal.invariant-loop-i
invariant-loop-i l = record {
  end : l.i-end ≡ length (sides_in (rule_of l.self.settler).graphs);
  none : l.room.none.items ≡ take l.i (none_tests (sides_in (rule_of l.self.settler).graphs) l.to);
  sure : l.room.sure.items ≡ take l.i (sure_tests (sides_in (rule_of l.self.settler).graphs) l.to);
  known : Knows (sides_in (rule_of l.self.settler).graphs) l.known l.to;
}
