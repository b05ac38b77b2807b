use Rattle.pv_num.proofs.Texts.{none_some}
use Rattle.pv_file.proofs.Headers.{version_free}
use Rattle.pv_file.proofs.Steps.{same_line}
use Rattle.pv_file.proofs.reader.cut_version.Goals as goal

pub returns-in-None-clause-complete : goal.returns-in-None-clause-complete
returns-in-None-clause-complete c = λ none v rest e.
    none_some v (c.in-None.ensures.complete v (same_line _ _ _ _ _ c.in_ok-first.ensures.free (version_free v) c.in_ok-first.ensures.sound e).0)
