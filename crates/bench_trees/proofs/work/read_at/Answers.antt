use Rattle.std.proofs.Common.{sym, ◌∙◌}
use Rattle.bench_trees.proofs.Keeping.{path_kept}
use Rattle.bench_trees.proofs.work.read_at.Goals as goal

pub to_at-requires-clause-there : goal.to_at-requires-clause-there
to_at-requires-clause-there c = path_kept c.args.tree.now.tree c.args.path c.shape_at-shape.result c.shape_at-shape.ensures (sym c.keeps.ensures ∙ c.if-keeps.true)
