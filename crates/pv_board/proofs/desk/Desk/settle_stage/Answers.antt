use Rattle.pv_board.proofs.StageTickets.{handed_children, current_full}
use Rattle.pv_board.proofs.desk.Desk.settle_stage.Goals as goal

pub returns-clause-children : goal.returns-clause-children
returns-clause-children g c =
    let w = c.settle_stage-handed in
    handed_children c.self.inside.board w.new.self c.args.ticket c.args.stage.now.tree w.new.children w.result w.ensures.handed

pub returns-clause-full : goal.returns-clause-full
returns-clause-full g c = λ taken.
    let n = g.N.Naming in let w = c.settle_stage-handed in
    current_full n.rule n.depth n.dims n.root n.opening n.budget n.limit c.self.inside.board w.new.self c.args.ticket c.args.stage.now.root c.args.stage.now.tree w.new.children w.result
    c.used-used.ensures.opening c.used-used.ensures.core w.ensures.handed taken c.requires.root
