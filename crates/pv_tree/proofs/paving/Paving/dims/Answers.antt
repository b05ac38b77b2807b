use Rattle.std.proofs.Common.{subst}
use Rattle.pv_tree.specs.Sets.{Covers}
use Rattle.pv_tree.proofs.Covered.{covers}
use Rattle.pv_tree.proofs.paving.Paving.dims.Goals as goal

pub returns-clause-covers : goal.returns-clause-covers
returns-clause-covers c = subst (λ s. Covers s.root s.tree) c.self.view_is (covers c.self.inside.root _ c.self.invariant.0.paving.paves)
