use Rattle.std.proofs.Common.{◌≡◌, ◌++◌, sym, subst, arith}
use Rattle.std.specs.Prelude.{OnOk}
use Rattle.pv_ctc.proofs.Sizes.{compose_falls, union_falls, qinter_falls, part_falls_far}
use Rattle.pv_ctc.proofs.Spelling.{compose_text, union_text, qinter_written}
use Rattle.pv_ctc.proofs.writing.+writing.Goals as goal

pub write_parts-write_program-requires : goal.write_parts-write_program-requires
write_parts-write_program-requires t c = (part_falls_far c.args.parts.now c.loop-i.i c.index-parts-i.result t (omega (arith, c.loop-i-test.true, c.loop-i.invariant.end)) c.index-parts-i.is c.decreases, tt)

pub write_program-write_list-requires : goal.write_program-write_list-requires
write_program-write_list-requires t c = (compose_falls c.args.program.now c.in-Compose.parts c.deref.result.now t c.in-Compose.is c.deref.ensures.value c.decreases, tt)

pub write_program-write_list-requires-in-Union : goal.write_program-write_list-requires-in-Union
write_program-write_list-requires-in-Union t c = (union_falls c.args.program.now c.in-Union.parts c.deref-in-Union.result.now t c.in-Union.is c.deref-in-Union.ensures.value c.decreases, tt)

pub write_program-write_list-requires-in-QInter : goal.write_program-write_list-requires-in-QInter
write_program-write_list-requires-in-QInter t c = (qinter_falls c.args.program.now c.in-QInter.q c.in-QInter.parts c.deref-in-QInter.result.now t c.in-QInter.is c.deref-in-QInter.ensures.value c.decreases, tt)

pub write_program-returns-in-Compose : goal.write_program-returns-in-Compose
write_program-returns-in-Compose t c =
    subst (λ x. OnOk c.write_list.result (c.write_list.new.out.items ≡ c.args.out.now.items ++ x)) (sym (compose_text c.args.program.now c.in-Compose.parts c.deref.result.now c.in-Compose.is c.deref.ensures.value)) c.write_list.ensures

pub write_program-returns-in-Union : goal.write_program-returns-in-Union
write_program-returns-in-Union t c =
    subst (λ x. OnOk c.write_list-in-Union.result (c.write_list-in-Union.new.out.items ≡ c.args.out.now.items ++ x)) (sym (union_text c.args.program.now c.in-Union.parts c.deref-in-Union.result.now c.in-Union.is c.deref-in-Union.ensures.value)) c.write_list-in-Union.ensures

pub write_program-returns-in_ok-write_head-in-QInter : goal.write_program-returns-in_ok-write_head-in-QInter
write_program-returns-in_ok-write_head-in-QInter t c =
    subst (λ x. OnOk c.write_list-in-QInter.result (c.write_list-in-QInter.new.out.items ≡ x)) (qinter_written c.args.program.now c.in-QInter.q c.in-QInter.parts c.deref-in-QInter.result.now c.args.out.now.items c.write_head.new.out.items c.in-QInter.is c.deref-in-QInter.ensures.value c.in_ok-write_head-in-QInter.ensures) c.write_list-in-QInter.ensures
