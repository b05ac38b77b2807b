use Rattle.std.proofs.Common.{sym, ◌∙◌, arith}
use Rattle.pv_ctc.proofs.Sizes.{compose_falls, union_falls, qinter_falls, part_falls_far}
use Rattle.pv_slope.proofs.Tallying.{compose_none, union_none, qinter_none}
use Rattle.pv_slope.proofs.verdicts.+emptiness.Goals as goal

pub has_none-so_many_have_none-requires : goal.has_none-so_many_have_none-requires
has_none-so_many_have_none-requires t c =
    let falls = compose_falls c.args.program.now c.in-Compose.parts c.deref.result.now t c.in-Compose.is c.deref.ensures.value c.decreases in omega arith

pub has_none-all_have_none-requires : goal.has_none-all_have_none-requires
has_none-all_have_none-requires t c =
    let falls = union_falls c.args.program.now c.in-Union.parts c.deref-in-Union.result.now t c.in-Union.is c.deref-in-Union.ensures.value c.decreases in omega arith

pub has_none-more_have_none-requires : goal.has_none-more_have_none-requires
has_none-more_have_none-requires t c =
    (qinter_falls c.args.program.now c.in-QInter.q c.in-QInter.parts c.deref-in-QInter.result.now t c.in-QInter.is c.deref-in-QInter.ensures.value c.decreases, tt)

pub all_have_none-has_none-requires : goal.all_have_none-has_none-requires
all_have_none-has_none-requires t c = (part_falls_far c.args.parts.now c.loop-part.part-index c.part-item.result t c.loop-part-test.true c.part-item.is c.decreases, tt)

pub so_many_have_none-has_none-requires : goal.so_many_have_none-has_none-requires
so_many_have_none-has_none-requires t c = (part_falls_far c.args.parts.now c.loop-part.part-index c.part-item.result t c.loop-part-test.true c.part-item.is c.decreases, tt)

pub has_none-returns-in-Compose : goal.has_none-returns-in-Compose
has_none-returns-in-Compose t c = c.so_many_have_none.ensures ∙ sym (compose_none c.args.tests.now c.args.program.now c.in-Compose.parts c.deref.result.now c.in-Compose.is c.deref.ensures.value)

pub has_none-returns-in-Union : goal.has_none-returns-in-Union
has_none-returns-in-Union t c = c.all_have_none.ensures ∙ sym (union_none c.args.tests.now c.args.program.now c.in-Union.parts c.deref-in-Union.result.now c.in-Union.is c.deref-in-Union.ensures.value)

pub has_none-returns-in-QInter : goal.has_none-returns-in-QInter
has_none-returns-in-QInter t c = c.more_have_none.ensures ∙ sym (qinter_none c.args.tests.now c.in-QInter.q c.args.program.now c.in-QInter.parts c.deref-in-QInter.result.now c.in-QInter.is c.deref-in-QInter.ensures.value)
