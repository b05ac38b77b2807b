use Rattle.std.proofs.Common.{arith}
use Rattle.pv_board.specs.declared.mark.Mark.{Mark}
use Rattle.pv_board.proofs.Slots.{removed}
use Rattle.pv_board.proofs.marks.Marks.close.Goals as goal

pub overflow_sub-self : goal.overflow_sub-self
overflow_sub-self c =
    let u = c.remove-mark.ensures in
    let less = removed c.args.self.now.slots c.remove-mark.new.self c.args.slot c.remove-mark.result u.value u.updates (λ (m : Mark). m.grant) in
    omega (arith, less, c.args.self.now.extra_is)

pub invariant_of-self : goal.invariant_of-self
invariant_of-self c =
    let u = c.remove-mark.ensures in
    let less = removed c.args.self.now.slots c.remove-mark.new.self c.args.slot c.remove-mark.result u.value u.updates (λ (m : Mark). m.grant) in
    record { extra_is = omega (arith, less, c.args.self.now.extra_is) }

pub returns-clause-less : goal.returns-clause-less
returns-clause-less c =
    let u = c.remove-mark.ensures in
    removed c.args.self.now.slots c.remove-mark.new.self c.args.slot c.remove-mark.result u.value u.updates
