use Rattle.std.proofs.Common.{◌≡◌, ◌+◌, length, subst, refl}
use Rattle.std.specs.Fork.{AcceptsAt, ChangesAt}
use Rattle.pv_fork.specs.Places.{AllFrom}
use Rattle.pv_fork.proofs.Apart.{first_part, rest_part, joined}
use Rattle.pv_fork.proofs.begin_some.Goals as goal

pub begin_from-requires-clause-accepts : goal.begin_from-requires-clause-accepts
begin_from-requires-clause-accepts g c κs within =
    let cut = c.split_at_mut-begun in
    first_part (AcceptsAt g.F.Fn c.args.f.now) 1 cut.result.0.now cut.result.1.now (subst (AllFrom (AcceptsAt g.F.Fn c.args.f.now) 1) cut.ensures.value c.requires)

pub call_from-requires : goal.call_from-requires
call_from-requires g c =
    let cut = c.split_at_mut-begun in
    let from : 1 + length cut.result.0.now ≡ 1 + length cut.result.0.now = refl in
    rest_part (AcceptsAt g.F.Fn c.args.f.now) 1 (1 + length cut.result.0.now) cut.result.0.now cut.result.1.now from (subst (AllFrom (AcceptsAt g.F.Fn c.args.f.now) 1) cut.ensures.value c.requires)

pub returns : goal.returns
returns g c =
    let cut = c.split_at_mut-begun in
    let from : 1 + length cut.result.0.now ≡ 1 + length cut.result.0.now = refl in
    joined (ChangesAt g.F.Fn c.args.f.now) 1 (1 + length cut.result.0.now) _ cut.result.0.now cut.result.1.now _ _ cut.ensures.value from c.begin_from.ensures c.call_from.ensures
