use Rattle.std.proofs.Common.{◌≡◌, sym, ap, subst, arith, length}
use Rattle.pv_tree.specs.Trees.{leaf}
use Rattle.pv_tree.specs.Stages.{IsStage, Grows, full_of}
use Rattle.pv_join.specs.Audits.{IsVerdict}
use Rattle.test_board.proofs.stages.three_at_once.Goals as goal

pub settle_stage-handed-requires-clause-stage : goal.settle_stage-handed-requires-clause-stage
settle_stage-handed-requires-clause-stage g c =
    let rule = g.S.Settler.settle_of c.args.settler.now in let depth = g.S.Settler.depth_of c.args.settler.now in
    let p = c.settle_first.new.paving in
    let stage : IsStage rule depth p.root leaf p.tree = subst (IsVerdict rule depth p.root p.tree) c.in-Honest.is c.in_ok-audit.ensures.verdict in
    let same = ap length c.path.ensures in let count = c.len.ensures.count in let zero = c.if-len-ne0.false in
    let none : length c.extend.new.ticket.path ≡ 0 = omega (arith, same, count, zero) in
    subst (Grows p.tree) (λ i. full_of (sym c.requires.rule i) (sym c.requires.depth i) p.root leaf (sym none i)) stage.grows
