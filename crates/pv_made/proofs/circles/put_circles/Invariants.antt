use Rattle.std.proofs.Common.{◌≡◌, ◌++◌, ◌<◌, ◌^◌, ◌-◌}
use Rattle.pv_made.specs.Circles.{circles_text}
use Rattle.pv_made.proofs.circles.put_circles.Given as goal

abbrev pub invariant-loop : goal.invariant-loop
invariant-loop l =
    (l.draws.state < 2 ^ 31)
    × (l.out.items ++ circles_text (l.count - l.counter) l.draws.state ≡ l.initial.out.items ++ circles_text l.count l.initial.seed)
