use Rattle.std.proofs.Common.{◌≡◌, refl, rules}
use Rattle.std.specs.Prelude.{min}
use Rattle.pv_code.proofs.Sizing.{parameter-places}
use Rattle.pv_code.proofs.measure.Measure.of_parameter.Goals as goal

pub returns : goal.returns
returns c = λ args few.
    let least : c.min.result ≡ min c.args.i 12 = search rules in
    parameter-places args _ c.args.i c.min.result refl least few
