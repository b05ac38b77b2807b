use Rattle.pv_opening.proofs.Joined.{there, line_is}
use Rattle.pv_opening.proofs.opening.line_at.Goals as goal

pub write_node-requires : goal.write_node-requires
write_node-requires c = record { there = there c.args.p.now.tree c.args.path c.requires }

pub returns : goal.returns
returns c = λ o e. line_is c.args.p.now.tree c.args.path o c.new-line.result.items c.write_node.new.out.items c.new-line.ensures.items e c.in_ok-write_node.ensures.line
