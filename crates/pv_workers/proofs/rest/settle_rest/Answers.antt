use Rattle.std.proofs.Common.{◌≡◌, ◌+◌, ap, arith}
use Rattle.pv_board.specs.Marks.{issued}
use Rattle.pv_workers.proofs.Rests.{over_spent}
use Rattle.pv_workers.proofs.rest.settle_rest.Goals as goal

pub returns-clause-over : goal.returns-clause-over
returns-clause-over g c =
    let n = g.N.Naming in let old = c.recall.new.self in let new = c.loop-settled.board in
    let u = c.loop-settled.invariant.used in let r = c.recall.ensures.rose.used in let l = c.left-left.ensures.left in
    let e = c.loop-settled-test.false in let m = c.loop-settled.auto.settled-end in
    let used : new.used ≡ old.used + old.left = omega (arith, u, r, l, e, m) in
    over_spent n.rule n.depth n.root n.opening n.budget n.limit old new c.left-left.ensures.core c.used-used.ensures.core (ap issued c.recall.ensures.recalled.none) c.loop-settled.invariant.recalled.none used
