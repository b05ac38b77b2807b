use Rattle.std.proofs.Common.{rules, IsTrue, pos, sym, subst, one-mul}
use Rattle.pv_num.specs.Extended.{Fin}
use Rattle.pv_num.specs.Grid.{unit}
use Rattle.pv_num.specs.Order.{le}
use Rattle.bench_numbers.proofs.chain.floor.Goals as goal

pub floor-requires-clause-high : goal.floor-requires-clause-high
unfolding unit
floor-requires-clause-high c = subst (λ u. IsTrue (le c.args.x (Fin (pos u)))) (sym (one-mul unit)) (search rules)
