use Rattle.pv_args.proofs.Asked.{error_refuses, found_is, is_free_app, is_simple_app}
use Rattle.pv_args.proofs.reading.read.Goals as goal

pub returns-in-Err : goal.returns-in-Err
returns-in-Err c =
    error_refuses _ _ c.in-Err.error c.kind.result _ c.in_ok-paver.ensures (c.in-Err.ensures.kinds (is_free_app _ c.in_ok-paver.ensures)) c.kind.ensures c.refusal_by.ensures

pub returns : goal.returns
returns c =
    found_is _ _ _ c.request_of.result c.in_ok-paver.ensures (c.in-Ok.ensures.kinds (is_free_app _ c.in_ok-paver.ensures))
    (c.in-Ok.ensures.matches (is_simple_app _ c.in_ok-paver.ensures)).1 c.request_of.ensures
