use Rattle.std.proofs.Common.{sym, ◌∙◌, ap, drop, length, get_or, false}
use Rattle.pv_tree.specs.Spots.{either, first_below}
use Rattle.pv_tree.proofs.Behind.{later_none, later_end, later_low, later_high, low_rest, high_rest, no_rest, more_steps}
use Rattle.pv_tree.proofs.search.+later.Goals as goal

pub returns-in-None : goal.returns-in-None
returns-in-None t c = later_none c.args.nodes.now c.args.spot (drop (length c.args.spot.path) c.args.after) c.requires.spot.few c.in-None.ensures

pub returns-then-depth-len : goal.returns-then-depth-len
returns-then-depth-len t c =
    c.first_of.ensures ∙ later_end c.args.nodes.now c.args.spot c.in-Some.kids c.in-Some.ensures (drop (length c.args.spot.path) c.args.after)
    (no_rest (length c.args.spot.path) c.args.after (sym c.len-depth.ensures.count ∙ c.if-depth-len.true ∙ c.len.ensures.count))

pub returns-then-step : goal.returns-then-step
returns-then-step t c =
    let more = more_steps c.len-depth.result c.len.result (length c.args.spot.path) (length c.args.after) c.len-depth.ensures.count c.len.ensures.count c.requires.through c.if-depth-len.false in
    c.later.ensures ∙ later_high c.args.nodes.now c.args.spot c.in-Some.kids c.in-Some.ensures (drop (length c.args.spot.path) c.args.after) (drop (length c.in-Some.kids.high.path) c.args.after)
    (high_rest c.args.nodes.now c.args.spot c.in-Some.kids c.in-Some.ensures c.args.after more (ap (λ n. get_or c.args.after n false) (sym c.len-depth.ensures.count) ∙ sym c.if-step.ensures))

pub returns-in-Some-later : goal.returns-in-Some-later
returns-in-Some-later t c =
    let more = more_steps c.len-depth.result c.len.result (length c.args.spot.path) (length c.args.after) c.len-depth.ensures.count c.len.ensures.count c.requires.through c.if-depth-len.false in
    ap (λ o. either o (first_below c.args.nodes.now c.in-Some.kids.high)) c.in-Some-later.ensures
    ∙ later_low c.args.nodes.now c.args.spot c.in-Some.kids c.in-Some.ensures (drop (length c.args.spot.path) c.args.after) (drop (length c.in-Some.kids.low.path) c.args.after)
    (low_rest c.args.nodes.now c.args.spot c.in-Some.kids c.in-Some.ensures c.args.after more (ap (λ n. get_or c.args.after n false) (sym c.len-depth.ensures.count) ∙ sym c.if-step.ensures))

pub returns-in-None-later : goal.returns-in-None-later
returns-in-None-later t c =
    let more = more_steps c.len-depth.result c.len.result (length c.args.spot.path) (length c.args.after) c.len-depth.ensures.count c.len.ensures.count c.requires.through c.if-depth-len.false in
    c.leftmost.ensures ∙ ap (λ o. either o (first_below c.args.nodes.now c.in-Some.kids.high)) c.in-None-later.ensures
    ∙ later_low c.args.nodes.now c.args.spot c.in-Some.kids c.in-Some.ensures (drop (length c.args.spot.path) c.args.after) (drop (length c.in-Some.kids.low.path) c.args.after)
    (low_rest c.args.nodes.now c.args.spot c.in-Some.kids c.in-Some.ensures c.args.after more (ap (λ n. get_or c.args.after n false) (sym c.len-depth.ensures.count) ∙ sym c.if-step.ensures))
