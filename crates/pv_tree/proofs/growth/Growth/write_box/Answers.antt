use Rattle.std.proofs.Common.{◌≡◌, ◌<◌, ◌-◌, false, length, take, get_or, sym, ◌∙◌, ap, subst}
use Rattle.pv_tree.specs.Trees.{box_of}
use Rattle.pv_tree.specs.Arena.{whole_tree, cell_at, half_at, HasHalves}
use Rattle.pv_tree.specs.Holes.{IsFirstBox}
use Rattle.pv_tree.proofs.Wholes.{box_length}
use Rattle.pv_tree.proofs.Stacks.{stop_halves, stop_box}
use Rattle.pv_tree.proofs.Growths.{top_open, top_box, top_end, last_one}
use Rattle.pv_tree.proofs.growth.Growth.write_box.Goals as goal

pub write_stop_box-requires-clause-there : goal.write_stop_box-requires-clause-there
write_stop_box-requires-clause-there c =
    let top = top_end c.self.inside.stops.items (c.len-last.result - 1) c.index-stop.result.now (last_one c.self.inside.root (whole_tree (length c.self.inside.root) c.self.inside.ends.items c.self.inside.nodes.items) c.self.inside.stops.items c.len-last.result
    (subst (λ g. 0 < length g.holes) (sym c.self.view_is) c.requires.some) (c.len-last.ensures ∙ c.self.inside.stops.ok.0)) c.index-stop.ensures in
    let dims : length c.args.into.now ≡ length c.self.inside.root = c.requires.dims ∙ sym (ap (λ g. length g.root) c.self.view_is) in
    subst (λ ns. c.index-stop.result.now.parent < length ns) (sym c.deref-2.ensures.value) (top_open c.self.inside.root c.self.inside.ends.items c.self.inside.nodes.items c.self.inside.counts c.self.inside.stops.items (take (c.len-last.result - 1) c.self.inside.stops.items) c.index-stop.result.now _ c.self.invariant top).stop.parent_there

pub write_stop_box-requires-clause-halves : goal.write_stop_box-requires-clause-halves
write_stop_box-requires-clause-halves c = λ some.
    let top = top_end c.self.inside.stops.items (c.len-last.result - 1) c.index-stop.result.now (last_one c.self.inside.root (whole_tree (length c.self.inside.root) c.self.inside.ends.items c.self.inside.nodes.items) c.self.inside.stops.items c.len-last.result
    (subst (λ g. 0 < length g.holes) (sym c.self.view_is) c.requires.some) (c.len-last.ensures ∙ c.self.inside.stops.ok.0)) c.index-stop.ensures in
    let dims : length c.args.into.now ≡ length c.self.inside.root = c.requires.dims ∙ sym (ap (λ g. length g.root) c.self.view_is) in
    subst (λ ns. HasHalves (length c.args.into.now) c.deref.result.now (cell_at ns c.index-stop.result.now.parent)) (sym c.deref-2.ensures.value)
    (subst (λ es. HasHalves (length c.args.into.now) es (cell_at c.self.inside.nodes.items c.index-stop.result.now.parent)) (sym c.deref.ensures.value) (stop_halves c.self.inside.root c.self.inside.ends.items c.self.inside.nodes.items c.self.inside.counts c.self.invariant.whole c.index-stop.result.now (top_open c.self.inside.root c.self.inside.ends.items c.self.inside.nodes.items c.self.inside.counts c.self.inside.stops.items (take (c.len-last.result - 1) c.self.inside.stops.items) c.index-stop.result.now _ c.self.invariant top).stop (length c.args.into.now) dims some))

pub returns-clause-is : goal.returns-clause-is
returns-clause-is c =
    let top = top_end c.self.inside.stops.items (c.len-last.result - 1) c.index-stop.result.now (last_one c.self.inside.root (whole_tree (length c.self.inside.root) c.self.inside.ends.items c.self.inside.nodes.items) c.self.inside.stops.items c.len-last.result
    (subst (λ g. 0 < length g.holes) (sym c.self.view_is) c.requires.some) (c.len-last.ensures ∙ c.self.inside.stops.ok.0)) c.index-stop.ensures in
    let dims : length c.args.into.now ≡ length c.self.inside.root = c.requires.dims ∙ sym (ap (λ g. length g.root) c.self.view_is) in
    let written : c.write_stop_box.new.into ≡ box_of c.self.inside.root (whole_tree (length c.self.inside.root) c.self.inside.ends.items c.self.inside.nodes.items) c.index-stop.result.now.path =
    stop_box c.self.inside.root c.self.inside.ends.items c.self.inside.nodes.items c.self.inside.counts c.self.invariant.whole c.index-stop.result.now (top_open c.self.inside.root c.self.inside.ends.items c.self.inside.nodes.items c.self.inside.counts c.self.inside.stops.items (take (c.len-last.result - 1) c.self.inside.stops.items) c.index-stop.result.now _ c.self.invariant top).stop (length c.args.into.now) dims c.write_stop_box.new.into c.write_stop_box.ensures.root
    (λ some. ap (λ ns. half_at (length c.args.into.now) c.self.inside.ends.items (cell_at ns c.index-stop.result.now.parent) (get_or c.index-stop.result.now.path (length c.index-stop.result.now.path - 1) false)) (sym c.deref-2.ensures.value)
    ∙ ap (λ es. half_at (length c.args.into.now) es (cell_at c.deref-2.result.now c.index-stop.result.now.parent) (get_or c.index-stop.result.now.path (length c.index-stop.result.now.path - 1) false)) (sym c.deref.ensures.value)
    ∙ c.write_stop_box.ensures.half some) in
    subst (λ g. IsFirstBox g.holes c.write_stop_box.new.into) c.self.view_is (top_box c.self.inside.root c.self.inside.ends.items c.self.inside.nodes.items c.self.inside.counts c.self.inside.stops.items (take (c.len-last.result - 1) c.self.inside.stops.items) c.index-stop.result.now _ c.self.invariant top c.write_stop_box.new.into written)

pub returns-clause-places : goal.returns-clause-places
returns-clause-places c =
    let top = top_end c.self.inside.stops.items (c.len-last.result - 1) c.index-stop.result.now (last_one c.self.inside.root (whole_tree (length c.self.inside.root) c.self.inside.ends.items c.self.inside.nodes.items) c.self.inside.stops.items c.len-last.result
    (subst (λ g. 0 < length g.holes) (sym c.self.view_is) c.requires.some) (c.len-last.ensures ∙ c.self.inside.stops.ok.0)) c.index-stop.ensures in
    let dims : length c.args.into.now ≡ length c.self.inside.root = c.requires.dims ∙ sym (ap (λ g. length g.root) c.self.view_is) in
    let written : c.write_stop_box.new.into ≡ box_of c.self.inside.root (whole_tree (length c.self.inside.root) c.self.inside.ends.items c.self.inside.nodes.items) c.index-stop.result.now.path =
    stop_box c.self.inside.root c.self.inside.ends.items c.self.inside.nodes.items c.self.inside.counts c.self.invariant.whole c.index-stop.result.now (top_open c.self.inside.root c.self.inside.ends.items c.self.inside.nodes.items c.self.inside.counts c.self.inside.stops.items (take (c.len-last.result - 1) c.self.inside.stops.items) c.index-stop.result.now _ c.self.invariant top).stop (length c.args.into.now) dims c.write_stop_box.new.into c.write_stop_box.ensures.root
    (λ some. ap (λ ns. half_at (length c.args.into.now) c.self.inside.ends.items (cell_at ns c.index-stop.result.now.parent) (get_or c.index-stop.result.now.path (length c.index-stop.result.now.path - 1) false)) (sym c.deref-2.ensures.value)
    ∙ ap (λ es. half_at (length c.args.into.now) es (cell_at c.deref-2.result.now c.index-stop.result.now.parent) (get_or c.index-stop.result.now.path (length c.index-stop.result.now.path - 1) false)) (sym c.deref.ensures.value)
    ∙ c.write_stop_box.ensures.half some) in
    ap length written ∙ box_length c.self.inside.root (whole_tree (length c.self.inside.root) c.self.inside.ends.items c.self.inside.nodes.items) c.index-stop.result.now.path c.self.invariant.whole.paving.paves ∙ sym dims
