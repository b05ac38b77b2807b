use Rattle.pv_hc4.specs.Graphs.{sides_of}
use Rattle.pv_hc4.proofs.Pointing.{loses_none, stays_within}
use Rattle.pv_hc4.proofs.graph.Graph.revise.Goals as goal

pub returns-clause-within : goal.returns-clause-within
returns-clause-within c =
    stays_within c.revise_in.result (sides_of c.args.self.now) c.args.bx.now c.revise_in.new.bx c.revise_in.ensures.answer c.revise_in.ensures.unchanged

pub returns-clause-points : goal.returns-clause-points
returns-clause-points c =
    loses_none c.revise_in.result (sides_of c.args.self.now) c.args.self.now.dims c.args.bx.now c.revise_in.new.bx c.learn.ensures c.revise_in.ensures.answer
