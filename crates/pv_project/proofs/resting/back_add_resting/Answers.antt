use Rattle.std.proofs.Common.{◌∙◌, subst}
use Rattle.pv_interval.specs.Tables.{sum_of}
use Rattle.pv_project.specs.Rests.{Rests}
use Rattle.pv_project.proofs.HalfRests.{sum_low, sum_high}
use Rattle.pv_project.proofs.resting.back_add_resting.Goals as goal

pub returns-in-Lower : goal.returns-in-Lower
returns-in-Lower c =
    let i = c.sum_below.ensures.intervals in
    let e = subst (λ r. Rests r c.args.z (sum_of c.args.x c.args.y)) c.in-Lower.is c.requires in
    c.sum_below.ensures.value ∙ sum_low c.args.z c.args.x c.args.y i.0 i.1 i.2 e

pub returns-in-Upper : goal.returns-in-Upper
returns-in-Upper c =
    let i = c.sum_above.ensures.intervals in
    let e = subst (λ r. Rests r c.args.z (sum_of c.args.x c.args.y)) c.in-Upper.is c.requires in
    c.sum_above.ensures.value ∙ sum_high c.args.z c.args.x c.args.y i.0 i.1 i.2 e
