-- A number inside an interval is finite.
use Rattle.std.proofs.Common.{rules}
use Rattle.std.specs.Prelude.{IsTrue}
use Rattle.pv_num.specs.Extended.{Extended, NegInf, Fin, PosInf}
use Rattle.pv_num.specs.Order.{lt}
use Rattle.pv_interval.specs.Bounds.{Bounds}
use Rattle.pv_box.specs.Boxes.{IsInside}
use Rattle.pv_tree.specs.Trees.{IsBetween}

not_below_all : (x : Extended) → IsTrue (lt x NegInf) → Unit {0} → IsBetween NegInf (record { lo = x; hi = x })
not_below_all NegInf h u = absurd (search rules)
not_below_all (Fin a) h u = absurd (search rules)
not_below_all PosInf h u = absurd (search rules)

not_above_all : (x : Extended) → IsTrue (lt PosInf x) → Unit {0} → IsBetween PosInf (record { lo = x; hi = x })
not_above_all NegInf h u = absurd (search rules)
not_above_all (Fin a) h u = absurd (search rules)
not_above_all PosInf h u = absurd (search rules)

pub between : (at : Extended) (x : Bounds) → IsInside at x → IsBetween at x
between NegInf x h = not_below_all x.lo h.above tt
between (Fin n) x h = (h.above, h.below)
between PosInf x h = not_above_all x.hi h.below tt
