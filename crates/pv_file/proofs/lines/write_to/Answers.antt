use Rattle.std.proofs.Common.{sym, ◌∙◌}
use Rattle.pv_file.proofs.Shapes.{kept_shape, outcome_shape, not_kept}
use Rattle.pv_file.proofs.lines.write_to.Goals as goal

pub to_at-requires-clause-there : goal.to_at-requires-clause-there
to_at-requires-clause-there c = kept_shape c.args.p.now.tree c.args.path c.args.shape.now c.requires.shape (sym c.keeps.ensures ∙ c.if-keeps.true)

pub returns-then-keeps : goal.returns-then-keeps
returns-then-keeps c = record { outcome = outcome_shape c.args.p.now.tree c.args.path _ c.args.shape.now c.requires.shape (λ k. c.to_at.ensures.is) }

pub returns-else-keeps : goal.returns-else-keeps
returns-else-keeps c = record { outcome = outcome_shape c.args.p.now.tree c.args.path _ c.args.shape.now c.requires.shape (λ k. absurd (not_kept _ _ c.keeps.ensures c.if-keeps.false k)) }
