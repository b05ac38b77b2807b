use Rattle.std.proofs.lemmas.Result.{on_ok_weaker}
use Rattle.pv_file.proofs.Shapes.{line_appended}
use Rattle.pv_file.proofs.lines.push_node.Goals as goal

pub returns-clause-line : goal.returns-clause-line
returns-clause-line c =
    on_ok_weaker c.push_shape.result
    (line_appended c.args.p.now.tree c.args.path c.write_to.new.to c.write_to.new.to c.shape_at-shape.result _ _ c.requires.there c.write_to.ensures.outcome)
    c.push_shape.ensures.line
