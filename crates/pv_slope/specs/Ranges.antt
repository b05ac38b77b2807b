-- What is found of an expression on a box.
use Rattle.std.specs.Prelude.{List, Option, Some}
use Rattle.pv_interval.specs.Bounds.{Bounds}
use Rattle.pv_expr.specs.Terms.{Term}
use Rattle.pv_hc4.specs.Chain.{chain}
use Rattle.pv_hc4.specs.Forward.{forward_of}
use Rattle.pv_hc4.specs.Totality.{total_of}
use Rattle.pv_slope.specs.declared.slopes.Ranged.{Ranged}
use Rattle.pv_slope.specs.Centered.{centered_from}

-- the centered form, and whether no divisor's interval contains 0
abbrev pub ranged_of : List Bounds → Term → Option Ranged
ranged_of b t = chain (forward_of b t) (λ f. chain (centered_from b t f) (λ x. Some (record { interval = x; total = total_of b t })))
