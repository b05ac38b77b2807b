use Rattle.std.proofs.Common.{inr, subst}
use Rattle.pv_request.specs.Requests.{HasBadEffort}
use Rattle.pv_args.specs.Found.{rows_in}
use Rattle.pv_args.proofs.reading.run_in.Goals as goal

pub returns-in-None-effort_in : goal.returns-in-None-effort_in
returns-in-None-effort_in c =
    inr (inr (subst (λ usual. HasBadEffort usual (rows_in c.args.found.now)) c.boxes_anew.ensures c.in-None-effort_in.ensures))
