use Rattle.std.proofs.Common.{subst}
use Rattle.std.specs.Prelude.{IfSome, IfNone}
use Rattle.pv_board.specs.Core.{Core}
use Rattle.pv_board.specs.Events.{IsDry, IsOver, IsTake}
use Rattle.pv_board.specs.Leaves.{seen}
use Rattle.pv_board.proofs.Takes.{taken_board, taken_is, taken_none, taken_over}
use Rattle.pv_board.proofs.board.Board.take.Goals as goal

pub invariant_of-self : goal.invariant_of-self
invariant_of-self g c =
    let n = g.N.Naming in let a = c.self.inside in
    taken_board n.rule n.depth n.dims n.root n.opening n.budget n.limit a.paving a.leaves c.take.new.self a.used a.steps c.take.result c.self.invariant c.take.ensures.issued c.take.ensures.same

pub returns-clause-taken : goal.returns-clause-taken
returns-clause-taken g c =
    let n = g.N.Naming in let a = c.self.inside in
    subst (λ (o : Core). IfSome c.take.result (λ t. IsTake o (seen a.paving c.take.new.self a.used a.steps) t)) c.self.view_is
    (taken_is n.rule n.depth n.dims n.root n.opening n.budget n.limit a.paving a.leaves c.take.new.self a.used a.steps c.take.result c.self.invariant c.take.ensures.issued)

pub returns-clause-none : goal.returns-clause-none
returns-clause-none g c =
    let n = g.N.Naming in let a = c.self.inside in
    subst (λ (o : Core). IfNone c.take.result (IsDry o)) c.self.view_is
    (taken_none n.rule n.depth n.dims n.root n.opening n.budget n.limit a.paving a.leaves a.used a.steps c.take.result c.self.invariant c.take.ensures.none)

pub returns-clause-over : goal.returns-clause-over
returns-clause-over g c =
    let n = g.N.Naming in let a = c.self.inside in
    subst (λ (o : Core). IsOver o → IsOver (seen a.paving c.take.new.self a.used a.steps)) c.self.view_is
    (taken_over n.rule n.depth n.dims n.root n.opening n.budget n.limit a.paving a.leaves c.take.new.self a.used a.steps c.take.result c.self.invariant c.take.ensures.issued c.take.ensures.same)
