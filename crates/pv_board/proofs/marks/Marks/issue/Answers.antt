use Rattle.std.proofs.Common.{arith}
use Rattle.pv_board.specs.declared.mark.Mark.{Mark}
use Rattle.pv_board.proofs.Slots.{inserted, counted}
use Rattle.pv_board.proofs.marks.Marks.issue.Goals as goal

pub invariant_of-self : goal.invariant_of-self
invariant_of-self c =
    let u = c.insert_reserved-slot.ensures in
    let more = inserted c.args.self.now.slots c.insert_reserved-slot.new.self c.insert_reserved-slot.result (record { path = c.args.path; grant = c.args.grant }) u.was_vacant u.updates (λ (m : Mark). m.grant) in
    record { extra_is = omega (arith, more, c.args.self.now.extra_is) }

pub returns-clause-more : goal.returns-clause-more
returns-clause-more c =
    let u = c.insert_reserved-slot.ensures in
    inserted c.args.self.now.slots c.insert_reserved-slot.new.self c.insert_reserved-slot.result (record { path = c.args.path; grant = c.args.grant }) u.was_vacant u.updates

pub insert_reserved-slot-requires : goal.insert_reserved-slot-requires
insert_reserved-slot-requires c = let n = counted c.args.self.now.slots in let room = c.requires.room in omega (arith, n, room)
