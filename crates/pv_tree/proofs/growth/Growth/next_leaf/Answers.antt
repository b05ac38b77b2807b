use Rattle.std.proofs.Common.{◌-◌, subst, arith, take}
use Rattle.pv_tree.specs.Holes.{IsNext}
use Rattle.pv_tree.proofs.Growths.{top_next, top_end}
use Rattle.pv_tree.proofs.growth.Growth.next_leaf.Goals as goal

pub returns-clause-next : goal.returns-clause-next
returns-clause-next c =
    subst (λ g. IsNext g c.index.result.now.path) c.self.view_is
    (top_next c.self.inside.root c.self.inside.ends.items c.self.inside.nodes.items c.self.inside.counts c.self.inside.stops.items (take (c.len-count.result - 1) c.self.inside.stops.items) c.index.result.now _ c.self.invariant
    (top_end c.self.inside.stops.items (c.len-count.result - 1) c.index.result.now (let e = c.self.inside.stops.ok.0 in let f = c.if-count-eq0.false in omega (arith, e, f, c.len-count.ensures)) c.index.ensures))
