use Rattle.std.proofs.Common.{length, ap, sym, ◌∙◌}
use Rattle.pv_tree.specs.Paths.{count-steps_of}
use Rattle.pv_tree.proofs.path.Path.len.Goals as goal

pub returns-clause-count : goal.returns-clause-count
returns-clause-count c = c.from.ensures ∙ sym (count-steps_of c.self.inside c.self.invariant) ∙ ap length c.self.view_is
