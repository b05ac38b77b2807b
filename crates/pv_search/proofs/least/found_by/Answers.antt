use Rattle.pv_slope.specs.Methods.{method_of}
use Rattle.pv_least.specs.Objectives.{aim_of}
use Rattle.pv_search.proofs.Searched.{least_by}
use Rattle.pv_search.proofs.least.found_by.Goals as goal

pub returns : goal.returns
returns c =
    let found = c.least.ensures in
    least_by (method_of c.args.settler.now) _ (aim_of c.args.objective.now) c.args.boxes c.least.result c.in_ok-root.ensures.intervals
    found.lower found.best found.settled found.done found.none_below found.witness
