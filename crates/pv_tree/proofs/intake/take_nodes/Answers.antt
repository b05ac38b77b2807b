use Rattle.std.proofs.Common.{◌<◌, ◌≡◌, ◌+◌, length, arith, ap, ◌∙◌}
use Rattle.std.proofs.lemmas.List.{get_or_read, length-drop}
use Rattle.pv_tree.specs.Arena.{open_node}
use Rattle.pv_tree.specs.Intakes.{moved}
use Rattle.pv_tree.proofs.Grafts.{taken_from, rest_is, rest_moves}
use Rattle.pv_tree.proofs.intake.take_nodes.Goals as goal

pub append_nodes-requires : goal.append_nodes-requires
append_nodes-requires c = record {
  room = let e = ap length (rest_is c.args.more.now) in omega (arith, e, length-drop 1 c.args.more.now, c.requires.room);
  fits = rest_moves c.args.more.now c.args.by.nodes c.args.by.ends c.requires.fits;
}

pub returns-clause-taken : goal.returns-clause-taken
returns-clause-taken c =
    let size = c.args.nodes.now.ok.0 in
    let there : c.args.at < length c.args.nodes.now.items = omega (arith, size, c.requires.there) in
    let one_less : length c.args.nodes.now.items ≡ c.args.by.nodes + 1 = omega (arith, size, c.requires.by) in
    taken_from c.args.nodes.now.items c.args.more.now c.args.at c.args.by.nodes c.args.by.ends there c.requires.some one_less c.append_nodes.new.nodes.items c.move_node.result
    (c.move_node.ensures ∙ ap (moved c.args.by.nodes c.args.by.ends) (get_or_read c.args.more.now 0 c.index-more-0.result c.requires.some c.index-more-0.is open_node))
    c.append_nodes.ensures.items
