use Rattle.std.proofs.Common.{subst}
use Rattle.memchr.specs.Find.{IsFirstByte, is_byte}
use Rattle.pv_file.proofs.Bytes.{found_free, found_ends, found_within, none_free, none_ends}
use Rattle.pv_file.proofs.cut.line_end.Goals as goal

pub returns-in-Some : goal.returns-in-Some
returns-in-Some c =
    let found = subst (IsFirstByte (is_byte 10) c.args.text.now) c.in-Some.is c.memchr.ensures in
    record {
      within = found_within 10 c.in-Some.at c.args.text.now found;
      free = found_free 10 c.in-Some.at c.args.text.now found;
      ends = found_ends 10 c.in-Some.at c.args.text.now found;
    }

pub returns-in-None-clause-free : goal.returns-in-None-clause-free
returns-in-None-clause-free c = none_free 10 c.args.text.now (subst (IsFirstByte (is_byte 10) c.args.text.now) c.in-None.is c.memchr.ensures)

pub returns-in-None-clause-ends : goal.returns-in-None-clause-ends
returns-in-None-clause-ends c = none_ends 10 c.args.text.now (subst (IsFirstByte (is_byte 10) c.args.text.now) c.in-None.is c.memchr.ensures)
