use Rattle.std.proofs.Common.{◌≡◌, ◌+◌, length, subst, arith}
use Rattle.std.specs.Fork.{AcceptsAt, ChangesAt}
use Rattle.pv_fork.specs.Places.{AllFrom}
use Rattle.pv_fork.proofs.Apart.{first_part, rest_part, joined}
use Rattle.pv_fork.proofs.+begun.Goals as goal

pub begin_from-begin_both-requires-clause-first : goal.begin_from-begin_both-requires-clause-first
begin_from-begin_both-requires-clause-first g t c κs within =
    let cut = c.split_at_mut-first in
    first_part (AcceptsAt g.F.Fn c.args.f.now) c.args.base cut.result.0.now cut.result.1.now (subst (AllFrom (AcceptsAt g.F.Fn c.args.f.now) c.args.base) cut.ensures.value c.requires.accepts)

pub begin_from-begin_both-requires-clause-rest : goal.begin_from-begin_both-requires-clause-rest
begin_from-begin_both-requires-clause-rest g t c κs within =
    let cut = c.split_at_mut-first in
    let from : c.args.base + length cut.result.0.now ≡ c.args.base + 1 = let one = cut.ensures.front_len in omega arith in
    rest_part (AcceptsAt g.F.Fn c.args.f.now) c.args.base (c.args.base + 1) cut.result.0.now cut.result.1.now from (subst (AllFrom (AcceptsAt g.F.Fn c.args.f.now) c.args.base) cut.ensures.value c.requires.accepts)

pub begin_from-returns : goal.begin_from-returns
begin_from-returns g t c =
    let cut = c.split_at_mut-first in
    let from : c.args.base + length cut.result.0.now ≡ c.args.base + 1 = let one = cut.ensures.front_len in omega arith in
    joined (ChangesAt g.F.Fn c.args.f.now) c.args.base (c.args.base + 1) _ cut.result.0.now cut.result.1.now _ _ cut.ensures.value from c.begin_both.ensures.first c.begin_both.ensures.rest
