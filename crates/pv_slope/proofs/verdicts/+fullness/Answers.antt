use Rattle.std.proofs.Common.{sym, ◌∙◌}
use Rattle.pv_ctc.proofs.Sizes.{compose_falls, union_falls, qinter_falls, part_falls}
use Rattle.pv_slope.proofs.Tallying.{compose_sure, union_sure, qinter_sure}
use Rattle.pv_slope.proofs.verdicts.+fullness.Goals as goal

pub is_sure-all_are_sure-requires : goal.is_sure-all_are_sure-requires
is_sure-all_are_sure-requires t c = (compose_falls c.args.program.now c.in-Compose.parts c.deref.result.now t c.in-Compose.is c.deref.ensures.value c.decreases, tt)

pub is_sure-so_many_are_sure-requires : goal.is_sure-so_many_are_sure-requires
is_sure-so_many_are_sure-requires t c = (union_falls c.args.program.now c.in-Union.parts c.deref-in-Union.result.now t c.in-Union.is c.deref-in-Union.ensures.value c.decreases, tt)

pub is_sure-so_many_are_sure-requires-in-QInter : goal.is_sure-so_many_are_sure-requires-in-QInter
is_sure-so_many_are_sure-requires-in-QInter t c = (qinter_falls c.args.program.now c.in-QInter.q c.in-QInter.parts c.deref-in-QInter.result.now t c.in-QInter.is c.deref-in-QInter.ensures.value c.decreases, tt)

pub all_are_sure-is_sure-requires : goal.all_are_sure-is_sure-requires
all_are_sure-is_sure-requires t c = (part_falls c.args.parts.now c.loop-part.part-index c.part-item.result t c.loop-part-test.true c.part-item.is c.decreases, tt)

pub so_many_are_sure-is_sure-requires : goal.so_many_are_sure-is_sure-requires
so_many_are_sure-is_sure-requires t c = (part_falls c.args.parts.now c.loop-part.part-index c.part-item.result t c.loop-part-test.true c.part-item.is c.decreases, tt)

pub is_sure-returns-in-Compose : goal.is_sure-returns-in-Compose
is_sure-returns-in-Compose t c = c.all_are_sure.ensures ∙ sym (compose_sure c.args.tests.now c.args.program.now c.in-Compose.parts c.deref.result.now c.in-Compose.is c.deref.ensures.value)

pub is_sure-returns-in-Union : goal.is_sure-returns-in-Union
is_sure-returns-in-Union t c = c.so_many_are_sure.ensures ∙ sym (union_sure c.args.tests.now c.args.program.now c.in-Union.parts c.deref-in-Union.result.now c.in-Union.is c.deref-in-Union.ensures.value)

pub is_sure-returns-in-QInter : goal.is_sure-returns-in-QInter
is_sure-returns-in-QInter t c = c.so_many_are_sure-in-QInter.ensures ∙ sym (qinter_sure c.args.tests.now c.in-QInter.q c.args.program.now c.in-QInter.parts c.deref-in-QInter.result.now c.in-QInter.is c.deref-in-QInter.ensures.value)
