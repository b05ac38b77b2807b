use Rattle.std.proofs.Common.{refl}
use Rattle.pv_product.proofs.Ends.{same_files, words_refused, request_refused}
use Rattle.pv_cli.proofs.main_call.paver_main.Goals as goal

pub returns-in-Err : goal.returns-in-Err
returns-in-Err g c = record { end = words_refused _ _ _ c.in-Err.refusal c.tell.result c.in-Err.ensures (record { files = same_files _; out = refl }) (record { kept = λ name. refl; faults = refl }) c.tell.ensures }

pub returns : goal.returns
returns g c =
    record { end = request_refused _ _ _ c.in-Err-answer.refusal c.tell-in-Err-answer.result c.in-Ok.request c.in-Ok.ensures c.in-Err-answer.ensures.refused c.in-Err-answer.ensures.stock c.tell-in-Err-answer.ensures }
