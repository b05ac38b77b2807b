use Rattle.std.proofs.Common.{◌≡◌, drop}
use Rattle.pv_svg.specs.Planes.{meets, meets_from}
use Rattle.pv_svg.proofs.plane.Plane.meets.Given as goal

abbrev pub invariant-loop-i : goal.invariant-loop-i
invariant-loop-i l = meets l.fn.self l.fn.bx ≡ meets_from l.self l.i (drop l.i l.bx)
