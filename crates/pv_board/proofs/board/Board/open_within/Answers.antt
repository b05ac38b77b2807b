use Rattle.std.proofs.Common.{rules, ◌∙◌}
use Rattle.pv_board.proofs.Openings.{opened_board}
use Rattle.pv_board.proofs.board.Board.open_within.Goals as goal

pub of_parts-requires : goal.of_parts-requires
of_parts-requires g c =
    let n = g.N.Naming in let r = c.reserve.ensures in
    opened_board n.rule n.depth n.dims n.root n.opening n.budget n.limit c.reserve.new.self c.in-Ok-open.leaves c.requires.rule c.requires.places (search rules) (r.root ∙ c.requires.root) (r.tree ∙ c.requires.tree) c.in-Ok-open.ensures.leaves c.in-Ok-open.ensures.none
    (c.in-Ok-open.ensures.left ∙ c.requires.budget) (search rules) (search rules) c.in-Ok-open.ensures.room (search rules)
