use Rattle.std.proofs.Common.{length, ◌≡◌, sym, subst}
use Rattle.std.specs.Prelude.{IfOk}
use Rattle.pv_ctc.specs.Contracting.{sides_in}
use Rattle.pv_ctc.proofs.Counting.{compose_sure, union_sure, qinter_sure}
use Rattle.pv_ctc.proofs.Rows.{compose_parts, union_parts, qinter_parts, fits_at}
use Rattle.pv_ctc.proofs.Sizes.{compose_falls, union_falls, qinter_falls, part_falls}
use Rattle.pv_ctc.proofs.sure.+testing.Goals as goal

pub is_sure-all_are_sure-requires : goal.is_sure-all_are_sure-requires
is_sure-all_are_sure-requires t c = (compose_falls c.args.program.now c.in-Compose.parts c.deref.result.now t c.in-Compose.is c.deref.ensures.value c.decreases, (compose_parts (length c.args.graphs.now.graphs) c.args.program.now c.in-Compose.parts c.deref.result.now c.in-Compose.is c.deref.ensures.value c.requires.program, (c.requires.dims, c.requires.known)))

pub is_sure-so_many_are_sure-requires : goal.is_sure-so_many_are_sure-requires
is_sure-so_many_are_sure-requires t c = (union_falls c.args.program.now c.in-Union.parts c.deref-in-Union.result.now t c.in-Union.is c.deref-in-Union.ensures.value c.decreases, (union_parts (length c.args.graphs.now.graphs) c.args.program.now c.in-Union.parts c.deref-in-Union.result.now c.in-Union.is c.deref-in-Union.ensures.value c.requires.program, (c.requires.dims, c.requires.known)))

pub is_sure-so_many_are_sure-requires-in-QInter : goal.is_sure-so_many_are_sure-requires-in-QInter
is_sure-so_many_are_sure-requires-in-QInter t c = (qinter_falls c.args.program.now c.in-QInter.q c.in-QInter.parts c.deref-in-QInter.result.now t c.in-QInter.is c.deref-in-QInter.ensures.value c.decreases, ((qinter_parts (length c.args.graphs.now.graphs) c.in-QInter.q c.args.program.now c.in-QInter.parts c.deref-in-QInter.result.now c.in-QInter.is c.deref-in-QInter.ensures.value c.requires.program).1, (c.requires.dims, c.requires.known)))

pub all_are_sure-is_sure-requires : goal.all_are_sure-is_sure-requires
all_are_sure-is_sure-requires t c = (part_falls c.args.parts.now c.loop-part.part-index c.part-item.result t c.loop-part-test.true c.part-item.is c.decreases, (fits_at (length c.args.graphs.now.graphs) c.args.parts.now c.loop-part.part-index c.part-item.result c.requires.programs c.loop-part-test.true c.part-item.is, (c.requires.dims, c.loop-part.invariant.known)))

pub so_many_are_sure-is_sure-requires : goal.so_many_are_sure-is_sure-requires
so_many_are_sure-is_sure-requires t c = (part_falls c.args.parts.now c.loop-part.part-index c.part-item.result t c.loop-part-test.true c.part-item.is c.decreases, (fits_at (length c.args.graphs.now.graphs) c.args.parts.now c.loop-part.part-index c.part-item.result c.requires.programs c.loop-part-test.true c.part-item.is, (c.requires.dims, c.loop-part.invariant.known)))

pub is_sure-returns-in-Compose-clause-answer : goal.is_sure-returns-in-Compose-clause-answer
is_sure-returns-in-Compose-clause-answer t c =
    subst (λ o. IfOk c.all_are_sure.result (λ r. r ≡ o)) (sym (compose_sure (sides_in c.args.graphs.now) c.args.program.now c.in-Compose.parts c.deref.result.now c.args.bx.now c.in-Compose.is c.deref.ensures.value)) c.all_are_sure.ensures.answer

pub is_sure-returns-in-Union-clause-answer : goal.is_sure-returns-in-Union-clause-answer
is_sure-returns-in-Union-clause-answer t c =
    subst (λ o. IfOk c.so_many_are_sure.result (λ r. r ≡ o)) (sym (union_sure (sides_in c.args.graphs.now) c.args.program.now c.in-Union.parts c.deref-in-Union.result.now c.args.bx.now c.in-Union.is c.deref-in-Union.ensures.value)) c.so_many_are_sure.ensures.answer

pub is_sure-returns-in-QInter-clause-answer : goal.is_sure-returns-in-QInter-clause-answer
is_sure-returns-in-QInter-clause-answer t c =
    subst (λ o. IfOk c.so_many_are_sure-in-QInter.result (λ r. r ≡ o)) (sym (qinter_sure (sides_in c.args.graphs.now) c.in-QInter.q c.args.program.now c.in-QInter.parts c.deref-in-QInter.result.now c.args.bx.now c.in-QInter.is c.deref-in-QInter.ensures.value)) c.so_many_are_sure-in-QInter.ensures.answer
