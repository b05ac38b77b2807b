use Rattle.std.proofs.Common.{length, subst, rules, ◌≡◌}
use Rattle.pv_hc4.specs.Graphs.{IsGraph, sides_of}
use Rattle.pv_hc4.specs.Numbers.{CountsParts}
use Rattle.pv_hc4.proofs.Numbering.{counts}
use Rattle.pv_hc4.proofs.graph.Graph.node_count.Goals as goal

pub returns-clause-parts : goal.returns-clause-parts
returns-clause-parts c =
    let same : length c.args.self.now.nodes ≡ c.len.result = search rules in
    subst (CountsParts (sides_of c.args.self.now)) same (counts c.args.self.now (subst IsGraph c.self.view_is c.self.invariant.0))
