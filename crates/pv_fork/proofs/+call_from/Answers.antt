use Rattle.std.proofs.Common.{◌≡◌, ◌+◌, length, subst, arith, rules}
use Rattle.std.specs.Fork.{AcceptsAt, ChangesAt}
use Rattle.pv_fork.specs.Places.{AllFrom}
use Rattle.pv_fork.proofs.Apart.{first_part, rest_part, joined}
use Rattle.pv_fork.proofs.+call_from.Goals as goal

pub call_one-requires-clause-accepts : goal.call_one-requires-clause-accepts
call_one-requires-clause-accepts g t c =
    let cut = c.split_at_mut-first in
    first_part (AcceptsAt g.F.Fn c.args.f.now) c.args.base cut.result.0.now cut.result.1.now (subst (AllFrom (AcceptsAt g.F.Fn c.args.f.now) c.args.base) cut.ensures.value c.requires)

pub call_from-requires : goal.call_from-requires
call_from-requires g t c κs within =
    let cut = c.split_at_mut-first in
    let from : c.args.base + length cut.result.0.now ≡ c.args.base + 1 = let one = cut.ensures.front_len in omega arith in
    let shorter = cut.ensures.back_len in (
      search rules,
      (
        within.0,
        (
          within.1,
          rest_part (AcceptsAt g.F.Fn c.args.f.now) c.args.base (c.args.base + 1) cut.result.0.now cut.result.1.now from (subst (AllFrom (AcceptsAt g.F.Fn c.args.f.now) c.args.base) cut.ensures.value c.requires),
        ),
      ),
    )

pub returns : goal.returns
returns g t c =
    let cut = c.split_at_mut-first in
    let from : c.args.base + length cut.result.0.now ≡ c.args.base + 1 = let one = cut.ensures.front_len in omega arith in
    joined (ChangesAt g.F.Fn c.args.f.now) c.args.base (c.args.base + 1) _ cut.result.0.now cut.result.1.now _ _ cut.ensures.value from c.call_one.ensures c.call_from.ensures
