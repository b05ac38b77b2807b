use Rattle.std.proofs.Common.{◌≡◌}
use Rattle.pv_box.specs.Choice.{IsWidestBelow, width_at}
use Rattle.pv_box.proofs.boxes.IBox.widest_place.Given as goal

abbrev pub invariant-loop-i : goal.invariant-loop-i
invariant-loop-i l = record { wide : IsWidestBelow l.i l.self l.widest; is : l.width ≡ width_at l.self l.widest }
