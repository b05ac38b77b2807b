use Rattle.std.proofs.Common.{sym}
use Rattle.pv_tree.proofs.Searches.{child_spots}
use Rattle.pv_tree.proofs.search.children.Goals as goal

pub low-requires : goal.low-requires
low-requires c = c.requires.searchable.short c.args.spot.path c.args.spot.at c.in_ok-kids.kids c.requires.leads (sym c.in_ok-kids.ensures.kids)

pub returns : goal.returns
returns c = child_spots c.args.nodes.now c.args.spot c.in_ok-kids.kids c.low.result c.high.result c.requires (sym c.in_ok-kids.ensures.kids) c.low.ensures c.high.ensures
