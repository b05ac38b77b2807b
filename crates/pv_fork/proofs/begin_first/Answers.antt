use Rattle.std.proofs.Common.{◌≡◌, ◌+◌, length, subst, arith}
use Rattle.std.specs.Fork.{AcceptsAt, ChangesAt}
use Rattle.pv_fork.specs.Places.{AllFrom}
use Rattle.pv_fork.proofs.Apart.{first_part, rest_part, joined}
use Rattle.pv_fork.proofs.begin_first.Goals as goal

pub begin_late-requires-clause-first : goal.begin_late-requires-clause-first
begin_late-requires-clause-first g c κs within =
    let cut = c.split_at_mut-first in
    first_part (AcceptsAt g.F.Fn c.args.f.now) 0 cut.result.0.now cut.result.1.now (subst (AllFrom (AcceptsAt g.F.Fn c.args.f.now) 0) cut.ensures.value c.requires)

pub begin_late-requires-clause-rest : goal.begin_late-requires-clause-rest
begin_late-requires-clause-rest g c κs within =
    let cut = c.split_at_mut-first in
    let from : 0 + length cut.result.0.now ≡ 1 = let one = cut.ensures.front_len in omega arith in
    rest_part (AcceptsAt g.F.Fn c.args.f.now) 0 1 cut.result.0.now cut.result.1.now from (subst (AllFrom (AcceptsAt g.F.Fn c.args.f.now) 0) cut.ensures.value c.requires)

pub returns : goal.returns
returns g c =
    let cut = c.split_at_mut-first in
    let from : 0 + length cut.result.0.now ≡ 1 = let one = cut.ensures.front_len in omega arith in
    joined (ChangesAt g.F.Fn c.args.f.now) 0 1 _ cut.result.0.now cut.result.1.now _ _ cut.ensures.value from c.begin_late.ensures.first c.begin_late.ensures.rest
