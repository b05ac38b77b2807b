use Rattle.std.proofs.Common.{sym, ◌∙◌, ap}
use Rattle.std.proofs.lemmas.List.{get_or_read}
use Rattle.pv_tree.specs.Arena.{open_node, is_open_cell}
use Rattle.pv_tree.proofs.Searches.{first_closed, first_open_here, first_ended, first_low, first_high}
use Rattle.pv_tree.proofs.search.+leftmost.Goals as goal

pub returns-then-node : goal.returns-then-node
returns-then-node t c =
    let e = get_or_read c.args.nodes.now c.args.spot.at c.index-nodes-spot.result c.requires.there c.index-nodes-spot.is open_node in
    first_closed c.args.nodes.now c.args.spot c.requires.searchable.marks (sym (ap (λ n. n.closed) e) ∙ c.if-node.true)

pub returns-then-is_open : goal.returns-then-is_open
returns-then-is_open t c =
    let e = get_or_read c.args.nodes.now c.args.spot.at c.index-nodes-spot.result c.requires.there c.index-nodes-spot.is open_node in
    first_open_here c.args.nodes.now c.args.spot c.requires.few (sym (ap (λ n. is_open_cell n.cell) e) ∙ sym c.if-is_open.ensures)

pub returns-in-None : goal.returns-in-None
returns-in-None t c =
    let e = get_or_read c.args.nodes.now c.args.spot.at c.index-nodes-spot.result c.requires.there c.index-nodes-spot.is open_node in
    first_ended c.args.nodes.now c.args.spot c.requires.few (sym (ap (λ n. is_open_cell n.cell) e) ∙ sym c.if-is_open.ensures) c.in-None.ensures

pub returns-in-Some-leftmost : goal.returns-in-Some-leftmost
returns-in-Some-leftmost t c = first_low c.args.nodes.now c.args.spot c.in-Some.kids c.in-Some-leftmost.found c.in-Some.ensures c.in-Some-leftmost.ensures

pub returns-in-None-leftmost : goal.returns-in-None-leftmost
returns-in-None-leftmost t c = first_high c.args.nodes.now c.args.spot c.in-Some.kids c.leftmost-in-None-leftmost.result c.in-Some.ensures c.in-None-leftmost.ensures c.leftmost-in-None-leftmost.ensures
