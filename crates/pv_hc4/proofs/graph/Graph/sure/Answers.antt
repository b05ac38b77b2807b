use Rattle.pv_hc4.specs.Graphs.{sides_of}
use Rattle.pv_hc4.proofs.Pointing.{sure_on}
use Rattle.pv_hc4.proofs.graph.Graph.sure.Goals as goal

pub returns-clause-holds : goal.returns-clause-holds
returns-clause-holds c =
    sure_on c.sure_in.result (sides_of c.args.self.now) c.args.self.now.dims c.args.bx.now c.learn.ensures c.requires c.sure_in.ensures
