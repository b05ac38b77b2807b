use Rattle.std.proofs.Common.{◌≡◌, ◌<◌, ◌≤◌, ◌+◌, ◌++◌, length, sym, ◌∙◌, ap, subst, arith}
use Rattle.pv_tree.specs.Arena.{places_of, Shows, IsPlaced, IsLonger, HasKids, kids_of, cell_at}
use Rattle.pv_tree.specs.Holes.{Takes, settle_next}
use Rattle.pv_tree.specs.Stops.{stops_below}
use Rattle.pv_tree.proofs.Wholes.{put_places, few_places, some_open}
use Rattle.pv_tree.proofs.Growths.{top_open, top_low, top_leaf, top_takes, settled_kids, settled_stop, settled_short, settled_growth, settled_is}
use Rattle.pv_tree.proofs.growth.Growth.settle.Goals as goal

pub lay_down-cell-requires : goal.lay_down-cell-requires
lay_down-cell-requires c =
    let takes = top_takes c.self.inside.root c.self.inside.ends.items c.self.inside.nodes.items c.self.inside.counts c.self.inside.stops.items c.pop.new.self.items c.in-Some.stop _ c.self.invariant c.in-Some.ensures.items c.args.outcome (subst (λ g. Takes g.holes c.args.outcome) (sym c.self.view_is) c.requires) in
    let places = put_places c.self.inside.root c.self.inside.ends.items c.self.inside.nodes.items c.self.inside.counts c.in-Some.stop.path c.args.outcome c.self.invariant.whole takes.0 in
    let few : places_of c.args.outcome ≤ length c.self.inside.root = few_places (length c.self.inside.root) c.args.outcome places in
    omega (arith, few, c.in-Ok.ensures.for_ends, c.dims-places.ensures.dims)

pub place-requires-clause-there : goal.place-requires-clause-there
place-requires-clause-there c =
    let there : c.in-Some.stop.at < length c.self.inside.nodes.items = (top_open c.self.inside.root c.self.inside.ends.items c.self.inside.nodes.items c.self.inside.counts c.self.inside.stops.items c.pop.new.self.items c.in-Some.stop _ c.self.invariant c.in-Some.ensures.items).stop.there in
    let size = ap length c.reserve_step.ensures.nodes in
    let count = c.reserve_step.new.nodes.ok.0 in
    omega (arith, there, size, count)

pub tally-self-inside-requires-clause-some : goal.tally-self-inside-requires-clause-some
tally-self-inside-requires-clause-some c =
    some_open c.self.inside.root c.self.inside.ends.items c.self.inside.nodes.items c.self.inside.counts c.in-Some.stop.path c.self.invariant.whole (top_leaf c.self.inside.root c.self.inside.ends.items c.self.inside.nodes.items c.self.inside.counts c.self.inside.stops.items c.pop.new.self.items c.in-Some.stop _ c.self.invariant c.in-Some.ensures.items)

pub push_kids-requires-clause-kids : goal.push_kids-requires-clause-kids
push_kids-requires-clause-kids c =
    let takes = top_takes c.self.inside.root c.self.inside.ends.items c.self.inside.nodes.items c.self.inside.counts c.self.inside.stops.items c.pop.new.self.items c.in-Some.stop _ c.self.invariant c.in-Some.ensures.items c.args.outcome (subst (λ g. Takes g.holes c.args.outcome) (sym c.self.view_is) c.requires) in
    let places = put_places c.self.inside.root c.self.inside.ends.items c.self.inside.nodes.items c.self.inside.counts c.in-Some.stop.path c.args.outcome c.self.invariant.whole takes.0 in
    let few : places_of c.args.outcome ≤ length c.self.inside.root = few_places (length c.self.inside.root) c.args.outcome places in
    let placed = subst (λ ns. IsPlaced ns c.place.new.nodes.items c.in-Some.stop.at c.lay_down-cell.result) c.reserve_step.ensures.nodes c.place.ensures.placed in
    let longer = subst (λ es. IsLonger es c.lay_down-cell.new.ends.items) c.reserve_step.ensures.ends c.lay_down-cell.ensures.longer in
    let size : c.len.result ≡ length c.self.inside.nodes.items = c.len.ensures ∙ c.reserve_step.new.nodes.ok.0 ∙ ap length c.reserve_step.ensures.nodes in
    let shows = subst (Shows (length c.self.inside.root) c.lay_down-cell.new.ends.items c.lay_down-cell.result c.args.outcome) size (c.lay_down-cell.ensures.shows (length c.self.inside.root) places) in
    subst HasKids (sym c.deref.ensures.value) (settled_kids c.self.inside.root c.self.inside.ends.items c.self.inside.nodes.items c.self.inside.counts c.self.inside.stops.items c.pop.new.self.items c.in-Some.stop _ c.self.invariant c.in-Some.ensures.items c.lay_down-cell.new.ends.items c.place.new.nodes.items c.tally-self-inside.result c.lay_down-cell.result c.args.outcome takes.0 takes.1 shows longer placed)

pub push_kids-requires-clause-there : goal.push_kids-requires-clause-there
push_kids-requires-clause-there c =
    let takes = top_takes c.self.inside.root c.self.inside.ends.items c.self.inside.nodes.items c.self.inside.counts c.self.inside.stops.items c.pop.new.self.items c.in-Some.stop _ c.self.invariant c.in-Some.ensures.items c.args.outcome (subst (λ g. Takes g.holes c.args.outcome) (sym c.self.view_is) c.requires) in
    let places = put_places c.self.inside.root c.self.inside.ends.items c.self.inside.nodes.items c.self.inside.counts c.in-Some.stop.path c.args.outcome c.self.invariant.whole takes.0 in
    let few : places_of c.args.outcome ≤ length c.self.inside.root = few_places (length c.self.inside.root) c.args.outcome places in
    let placed = subst (λ ns. IsPlaced ns c.place.new.nodes.items c.in-Some.stop.at c.lay_down-cell.result) c.reserve_step.ensures.nodes c.place.ensures.placed in
    let longer = subst (λ es. IsLonger es c.lay_down-cell.new.ends.items) c.reserve_step.ensures.ends c.lay_down-cell.ensures.longer in
    let size : c.len.result ≡ length c.self.inside.nodes.items = c.len.ensures ∙ c.reserve_step.new.nodes.ok.0 ∙ ap length c.reserve_step.ensures.nodes in
    let shows = subst (Shows (length c.self.inside.root) c.lay_down-cell.new.ends.items c.lay_down-cell.result c.args.outcome) size (c.lay_down-cell.ensures.shows (length c.self.inside.root) places) in
    subst (λ ns. c.in-Some.stop.at < length ns) (sym c.deref.ensures.value) (settled_stop c.self.inside.root c.self.inside.ends.items c.self.inside.nodes.items c.self.inside.counts c.self.inside.stops.items c.pop.new.self.items c.in-Some.stop _ c.self.invariant c.in-Some.ensures.items c.lay_down-cell.new.ends.items c.place.new.nodes.items c.tally-self-inside.result c.lay_down-cell.result c.args.outcome takes.0 takes.1 shows longer placed).there

pub push_kids-requires-clause-short : goal.push_kids-requires-clause-short
push_kids-requires-clause-short c = λ k e.
    let takes = top_takes c.self.inside.root c.self.inside.ends.items c.self.inside.nodes.items c.self.inside.counts c.self.inside.stops.items c.pop.new.self.items c.in-Some.stop _ c.self.invariant c.in-Some.ensures.items c.args.outcome (subst (λ g. Takes g.holes c.args.outcome) (sym c.self.view_is) c.requires) in
    let places = put_places c.self.inside.root c.self.inside.ends.items c.self.inside.nodes.items c.self.inside.counts c.in-Some.stop.path c.args.outcome c.self.invariant.whole takes.0 in
    let few : places_of c.args.outcome ≤ length c.self.inside.root = few_places (length c.self.inside.root) c.args.outcome places in
    let placed = subst (λ ns. IsPlaced ns c.place.new.nodes.items c.in-Some.stop.at c.lay_down-cell.result) c.reserve_step.ensures.nodes c.place.ensures.placed in
    let longer = subst (λ es. IsLonger es c.lay_down-cell.new.ends.items) c.reserve_step.ensures.ends c.lay_down-cell.ensures.longer in
    let size : c.len.result ≡ length c.self.inside.nodes.items = c.len.ensures ∙ c.reserve_step.new.nodes.ok.0 ∙ ap length c.reserve_step.ensures.nodes in
    let shows = subst (Shows (length c.self.inside.root) c.lay_down-cell.new.ends.items c.lay_down-cell.result c.args.outcome) size (c.lay_down-cell.ensures.shows (length c.self.inside.root) places) in
    settled_short c.self.inside.root c.self.inside.ends.items c.self.inside.nodes.items c.self.inside.counts c.self.inside.stops.items c.pop.new.self.items c.in-Some.stop _ c.self.invariant c.in-Some.ensures.items c.lay_down-cell.new.ends.items c.place.new.nodes.items c.tally-self-inside.result c.lay_down-cell.result c.args.outcome takes.0 takes.1 shows longer placed k (ap (λ ns. kids_of (cell_at ns c.in-Some.stop.at)) (sym c.deref.ensures.value) ∙ e)

pub push_kids-requires-clause-room : goal.push_kids-requires-clause-room
push_kids-requires-clause-room c = λ k e.
    let takes = top_takes c.self.inside.root c.self.inside.ends.items c.self.inside.nodes.items c.self.inside.counts c.self.inside.stops.items c.pop.new.self.items c.in-Some.stop _ c.self.invariant c.in-Some.ensures.items c.args.outcome (subst (λ g. Takes g.holes c.args.outcome) (sym c.self.view_is) c.requires) in
    let places = put_places c.self.inside.root c.self.inside.ends.items c.self.inside.nodes.items c.self.inside.counts c.in-Some.stop.path c.args.outcome c.self.invariant.whole takes.0 in
    let few : places_of c.args.outcome ≤ length c.self.inside.root = few_places (length c.self.inside.root) c.args.outcome places in
    let placed = subst (λ ns. IsPlaced ns c.place.new.nodes.items c.in-Some.stop.at c.lay_down-cell.result) c.reserve_step.ensures.nodes c.place.ensures.placed in
    let longer = subst (λ es. IsLonger es c.lay_down-cell.new.ends.items) c.reserve_step.ensures.ends c.lay_down-cell.ensures.longer in
    let size : c.len.result ≡ length c.self.inside.nodes.items = c.len.ensures ∙ c.reserve_step.new.nodes.ok.0 ∙ ap length c.reserve_step.ensures.nodes in
    let shows = subst (Shows (length c.self.inside.root) c.lay_down-cell.new.ends.items c.lay_down-cell.result c.args.outcome) size (c.lay_down-cell.ensures.shows (length c.self.inside.root) places) in
    let short : length c.in-Some.stop.path < 200 = settled_short c.self.inside.root c.self.inside.ends.items c.self.inside.nodes.items c.self.inside.counts c.self.inside.stops.items c.pop.new.self.items c.in-Some.stop _ c.self.invariant c.in-Some.ensures.items c.lay_down-cell.new.ends.items c.place.new.nodes.items c.tally-self-inside.result c.lay_down-cell.result c.args.outcome takes.0 takes.1 shows longer placed k (ap (λ ns. kids_of (cell_at ns c.in-Some.stop.at)) (sym c.deref.ensures.value) ∙ e) in
    let low : length c.pop.new.self.items ≤ length c.in-Some.stop.path = top_low c.self.inside.root c.self.inside.ends.items c.self.inside.nodes.items c.self.inside.counts c.self.inside.stops.items c.pop.new.self.items c.in-Some.stop _ c.self.invariant c.in-Some.ensures.items in
    let count = c.pop.new.self.ok.0 in
    omega (arith, short, low, count, c.self.invariant.room, c.pop.ensures.capacity)

pub invariant_of-self-2 : goal.invariant_of-self-2
invariant_of-self-2 c =
    let takes = top_takes c.self.inside.root c.self.inside.ends.items c.self.inside.nodes.items c.self.inside.counts c.self.inside.stops.items c.pop.new.self.items c.in-Some.stop _ c.self.invariant c.in-Some.ensures.items c.args.outcome (subst (λ g. Takes g.holes c.args.outcome) (sym c.self.view_is) c.requires) in
    let places = put_places c.self.inside.root c.self.inside.ends.items c.self.inside.nodes.items c.self.inside.counts c.in-Some.stop.path c.args.outcome c.self.invariant.whole takes.0 in
    let few : places_of c.args.outcome ≤ length c.self.inside.root = few_places (length c.self.inside.root) c.args.outcome places in
    let placed = subst (λ ns. IsPlaced ns c.place.new.nodes.items c.in-Some.stop.at c.lay_down-cell.result) c.reserve_step.ensures.nodes c.place.ensures.placed in
    let longer = subst (λ es. IsLonger es c.lay_down-cell.new.ends.items) c.reserve_step.ensures.ends c.lay_down-cell.ensures.longer in
    let size : c.len.result ≡ length c.self.inside.nodes.items = c.len.ensures ∙ c.reserve_step.new.nodes.ok.0 ∙ ap length c.reserve_step.ensures.nodes in
    let shows = subst (Shows (length c.self.inside.root) c.lay_down-cell.new.ends.items c.lay_down-cell.result c.args.outcome) size (c.lay_down-cell.ensures.shows (length c.self.inside.root) places) in
    let ends : length c.lay_down-cell.new.ends.items ≤ length c.self.inside.ends.items + length c.self.inside.root =
    (let e = c.lay_down-cell.ensures.length in let m = c.lay_down-cell.new.ends.ok.0 in let n = c.reserve_step.new.ends.ok.0 in let k = ap length c.reserve_step.ensures.ends in omega (arith, few)) in
    let stack = c.push_kids.ensures.items ∙ ap (λ ns. c.pop.new.self.items ++ stops_below c.in-Some.stop (kids_of (cell_at ns c.in-Some.stop.at))) c.deref.ensures.value in
    settled_growth c.self.inside.root c.self.inside.ends.items c.self.inside.nodes.items c.self.inside.counts c.self.inside.stops.items c.pop.new.self.items c.in-Some.stop _ c.self.invariant c.in-Some.ensures.items c.lay_down-cell.new.ends.items c.place.new.nodes.items c.tally-self-inside.result c.lay_down-cell.result c.args.outcome takes.0 takes.1 shows longer placed c.lay_down-cell.ensures.keeps c.tally-self-inside.ensures ends c.push_kids.new.stops.items _ stack (c.push_kids.ensures.capacity ∙ c.pop.ensures.capacity)

pub returns-clause-settled : goal.returns-clause-settled
returns-clause-settled c =
    let takes = top_takes c.self.inside.root c.self.inside.ends.items c.self.inside.nodes.items c.self.inside.counts c.self.inside.stops.items c.pop.new.self.items c.in-Some.stop _ c.self.invariant c.in-Some.ensures.items c.args.outcome (subst (λ g. Takes g.holes c.args.outcome) (sym c.self.view_is) c.requires) in
    let places = put_places c.self.inside.root c.self.inside.ends.items c.self.inside.nodes.items c.self.inside.counts c.in-Some.stop.path c.args.outcome c.self.invariant.whole takes.0 in
    let few : places_of c.args.outcome ≤ length c.self.inside.root = few_places (length c.self.inside.root) c.args.outcome places in
    let placed = subst (λ ns. IsPlaced ns c.place.new.nodes.items c.in-Some.stop.at c.lay_down-cell.result) c.reserve_step.ensures.nodes c.place.ensures.placed in
    let longer = subst (λ es. IsLonger es c.lay_down-cell.new.ends.items) c.reserve_step.ensures.ends c.lay_down-cell.ensures.longer in
    let size : c.len.result ≡ length c.self.inside.nodes.items = c.len.ensures ∙ c.reserve_step.new.nodes.ok.0 ∙ ap length c.reserve_step.ensures.nodes in
    let shows = subst (Shows (length c.self.inside.root) c.lay_down-cell.new.ends.items c.lay_down-cell.result c.args.outcome) size (c.lay_down-cell.ensures.shows (length c.self.inside.root) places) in
    let ends : length c.lay_down-cell.new.ends.items ≤ length c.self.inside.ends.items + length c.self.inside.root =
    (let e = c.lay_down-cell.ensures.length in let m = c.lay_down-cell.new.ends.ok.0 in let n = c.reserve_step.new.ends.ok.0 in let k = ap length c.reserve_step.ensures.ends in omega (arith, few)) in
    let stack = c.push_kids.ensures.items ∙ ap (λ ns. c.pop.new.self.items ++ stops_below c.in-Some.stop (kids_of (cell_at ns c.in-Some.stop.at))) c.deref.ensures.value in
    settled_is c.self.inside.root c.self.inside.ends.items c.self.inside.nodes.items c.self.inside.counts c.self.inside.stops.items c.pop.new.self.items c.in-Some.stop _ c.self.invariant c.in-Some.ensures.items c.lay_down-cell.new.ends.items c.place.new.nodes.items c.tally-self-inside.result c.lay_down-cell.result c.args.outcome takes.0 takes.1 shows longer placed c.lay_down-cell.ensures.keeps c.tally-self-inside.ensures ends c.push_kids.new.stops.items stack ∙ ap (λ g. settle_next g c.args.outcome) c.self.view_is
