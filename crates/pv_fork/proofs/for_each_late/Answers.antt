use Rattle.std.proofs.Common.{◌≡◌, ℕ, ◌+◌, refl, subst, arith, slice_index_or}
use Rattle.std.specs.Fork.{ChangesAt}
use Rattle.pv_fork.proofs.for_each_late.Goals as goal

pub returns : goal.returns
returns g c i d there =
    let here : 0 + i ≡ i = omega arith in
    (refl, subst (λ (n : ℕ). ChangesAt g.F.Fn c.args.f.now n (slice_index_or c.args.s.now i d) (slice_index_or c.begin_first.new.s i d)) here (c.begin_first.ensures.each i d there))
