use Rattle.std.proofs.Common.{◌≡◌, arith}
use Rattle.pv_num.proofs.Sizes.{exponent_orders, same_exponent, first_less, second_less}
use Rattle.pv_num.proofs.order.compare_sizes.Goals as goal

pub returns-then-e-f : goal.returns-then-e-f
returns-then-e-f c = first_less _ _ _ _ (exponent_orders _ _ _ _ c.requires.m_fits c.requires.n_justified c.if-e-f.true)

pub returns-then-f-e : goal.returns-then-f-e
returns-then-f-e c = second_less _ _ _ _ (exponent_orders _ _ _ _ c.requires.n_fits c.requires.m_justified c.if-f-e.true)

pub returns-else-f-e : goal.returns-else-f-e
returns-else-f-e c =
    let same : c.args.e ≡ c.args.f = omega arith in
    same_exponent _ _ _ _ _ same c.cmp.ensures
