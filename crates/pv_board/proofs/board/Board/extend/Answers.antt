use Rattle.std.proofs.Common.{refl, ◌+◌, sym, subst, arith}
use Rattle.pv_board.specs.Events.{IsOver}
use Rattle.pv_board.specs.Leaves.{seen}
use Rattle.pv_board.proofs.Takes.{raised_board, over_stale}
use Rattle.pv_board.proofs.Settling.{is_equal}
use Rattle.pv_board.proofs.board.Board.extend.Goals as goal

pub invariant_of-self : goal.invariant_of-self
invariant_of-self g c =
    let n = g.N.Naming in let a = c.self.inside in
    let raised = c.raise-slot.ensures c.args.ticket.now c.in-Some.ensures.found in
    let units = c.within-units.ensures in
    raised_board n.rule n.depth n.dims n.root n.opening n.budget n.limit a.paving a.leaves c.raise-slot.new.self a.used a.steps c.args.ticket.now (record { path = c.args.ticket.now.path; grant = c.args.ticket.now.grant + c.within-units.result }) c.within-units.result
    c.self.invariant raised refl refl (omega (arith, units, c.requires))

pub returns-clause-over : goal.returns-clause-over
returns-clause-over g c over =
    let a = c.self.inside in
    absurd (over_stale (seen a.paving a.leaves a.used a.steps) c.args.ticket.now.path c.args.ticket.now.grant (subst IsOver (sym c.self.view_is) over) (is_equal _ _ c.in-Some.ensures.current))
