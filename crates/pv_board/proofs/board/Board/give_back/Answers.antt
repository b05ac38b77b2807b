use Rattle.std.proofs.Common.{arith}
use Rattle.pv_board.specs.Leaves.{marks_of}
use Rattle.pv_board.proofs.Takes.{freed_board, few_free, current_issued}
use Rattle.pv_board.proofs.Settling.{is_equal}
use Rattle.pv_board.proofs.board.Board.give_back.Goals as goal

pub release-requires-clause-few : goal.release-requires-clause-few
release-requires-clause-few g c =
    let n = g.N.Naming in let a = c.self.inside in
    let held = is_equal _ _ c.in-Some.ensures.current in
    let some = current_issued (marks_of a.leaves) c.args.ticket.path (omega (arith, held)) in
    let few = few_free n.rule n.depth n.dims n.root n.opening n.budget n.limit a.paving a.leaves a.used a.steps c.self.invariant in
    let most = c.self.invariant.for_free in
    omega (arith, some, few, most)

pub invariant_of-self : goal.invariant_of-self
invariant_of-self g c =
    let n = g.N.Naming in let a = c.self.inside in
    freed_board n.rule n.depth n.dims n.root n.opening n.budget n.limit a.paving a.leaves c.release.new.self a.used a.steps _ c.release.result c.self.invariant c.release.ensures.freed
