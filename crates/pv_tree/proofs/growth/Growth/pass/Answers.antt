use Rattle.std.proofs.Common.{sym, ◌∙◌, ap, subst}
use Rattle.pv_tree.specs.Holes.{pass_next}
use Rattle.pv_tree.specs.Stops.{IsGrowth}
use Rattle.pv_tree.proofs.Growths.{passed, passed_is}
use Rattle.pv_tree.proofs.growth.Growth.pass.Goals as goal

pub invariant_of-self : goal.invariant_of-self
invariant_of-self c =
    subst (IsGrowth c.self.inside.root c.self.inside.ends.items c.self.inside.nodes.items c.self.inside.counts c.pop.new.self.items) (sym c.pop.ensures.capacity)
    (passed c.self.inside.root c.self.inside.ends.items c.self.inside.nodes.items c.self.inside.counts c.self.inside.stops.items c.pop.new.self.items c.in-Some._stop _ c.self.invariant c.in-Some.ensures.items)

pub returns : goal.returns
returns c =
    passed_is c.self.inside.root c.self.inside.ends.items c.self.inside.nodes.items c.self.inside.counts c.self.inside.stops.items c.pop.new.self.items c.in-Some._stop _ c.self.invariant c.in-Some.ensures.items
    ∙ ap pass_next c.self.view_is
