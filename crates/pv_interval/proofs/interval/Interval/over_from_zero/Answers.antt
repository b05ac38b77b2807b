use Rattle.std.proofs.Common.{◌≡◌, subst}
use Rattle.pv_num.specs.Arithmetic.{div_of}
use Rattle.pv_num.specs.Extended.{PosInf, NegInf}
use Rattle.pv_num.specs.declared.num.End.TheVariants.{Down, Up}
use Rattle.pv_interval.specs.Bounds.{IsInterval, between}
use Rattle.pv_interval.proofs.Picks.{low_over_up, high_over_up}
use Rattle.pv_interval.proofs.interval.Interval.over_from_zero.Goals as goal

pub of_ends-requires : goal.of_ends-requires
of_ends-requires c =
    let e : div_of Down c.args.self.lo c.args.d ≡ c.div.result = cc in
    subst (λ w. IsInterval (between w PosInf)) e (low_over_up c.args.self.lo c.args.d c.lo.ensures.interval.lo_open c.requires)

pub of_ends-requires-then-le-2 : goal.of_ends-requires-then-le-2
of_ends-requires-then-le-2 c =
    let e : div_of Up c.args.self.hi c.args.d ≡ c.div-then-le-2.result = cc in
    subst (λ w. IsInterval (between NegInf w)) e (high_over_up c.args.self.hi c.args.d c.lo.ensures.interval.hi_open c.requires)
