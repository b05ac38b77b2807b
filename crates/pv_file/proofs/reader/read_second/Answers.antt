use Rattle.std.proofs.Common.{refl}
use Rattle.pv_file.specs.Texts.{identity_text}
use Rattle.pv_file.proofs.Headers.{identity_free}
use Rattle.pv_file.proofs.Refusals.{same_bad}
use Rattle.pv_file.proofs.Steps.{same_line, free_no_mark}
use Rattle.pv_file.proofs.reader.read_second.Goals as goal

pub returns-in-Bad-clause-bad : goal.returns-in-Bad-clause-bad
returns-in-Bad-clause-bad c = λ n e. (
  same_bad 2 n e,
  λ d more digest f. c.in-Bad.ensures.complete d digest (same_line _ _ _ _ _ c.in-Some.ensures.free (identity_free d digest) c.in-Some.ensures.sound f).0 refl,
)

pub returns-in-None-clause-bad : goal.returns-in-None-clause-bad
returns-in-None-clause-bad c = λ n e. (same_bad 2 n e, λ d more digest f. free_no_mark 10 c.args.first.rest.now (identity_text d) more (c.in-None.ensures.none refl) f)
