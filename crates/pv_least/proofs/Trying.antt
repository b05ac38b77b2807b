-- A point that is tried and found to be better.
use Rattle.std.proofs.Common.{◌≡◌, Bool, true, List, sym, ◌∙◌, ap}
use Rattle.std.specs.Prelude.{Option, Some}
use Rattle.pv_num.specs.Extended.{Extended}
use Rattle.pv_interval.specs.Bounds.{Bounds}
use Rattle.pv_expr.specs.Terms.{Term}
use Rattle.pv_least.specs.declared.candidate.Candidate.{Candidate}
use Rattle.pv_least.specs.declared.found.BestPoint.{BestPoint}
use Rattle.pv_least.specs.Points.{lows_of}
use Rattle.pv_least.specs.Objectives.{value_bound}
use Rattle.pv_least.specs.Candidates.{point_in, exactly_at}
use Rattle.pv_least.specs.Searches.{better, candidate, with_bound}
use Rattle.pv_least.specs.Running.{beats, tried_at}
use Rattle.pv_least.proofs.Numbers.{lows_at}
use Rattle.pv_least.proofs.Choosing.{better_later}

pub tried_better : (t : Term) (to probe : List Bounds) (c : Candidate) (best : Option BestPoint) (p : List Extended) (u : Extended) (r : Option Extended) (says : Bool)
    → probe ≡ exactly_at c to → r ≡ value_bound t probe → r ≡ Some u → p ≡ lows_of probe → says ≡ beats u best → says ≡ true
    → ◌≡◌ {A = Option BestPoint} (Some (record { point = p; upper = u })) (tried_at t to c best)
tried_better t to probe c best p u r says at bound there lows test is =
    let found : candidate t to c ≡ Some (record { point = point_in c to; upper = u }) = ap (with_bound (point_in c to)) (ap (value_bound t) (sym at) ∙ sym bound ∙ there) in
    ap (λ q. Some (record { point = q; upper = u })) (lows ∙ lows_at c to probe at)
    ∙ sym (better_later best (record { point = point_in c to; upper = u }) (sym test ∙ is))
    ∙ ap (better best) (sym found)
