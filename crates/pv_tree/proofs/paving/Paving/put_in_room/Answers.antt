use Rattle.std.proofs.Common.{◌≡◌, ◌<◌, ◌≤◌, ◌+◌, length, sym, ap, ◌∙◌, subst, arith, vec_len, vec_capacity, take}
use Rattle.pv_tree.specs.Trees.{settled, subtree, box_of, Fits, graft}
use Rattle.pv_tree.specs.Arena.{reach, places_of, Shows}
use Rattle.pv_tree.proofs.Wholes.{whole_kids, found, some_open, few_places, put_places, placed_kids, put_marks, put_whole, put_tree, less_room, more_nodes, one_room}
use Rattle.pv_tree.proofs.paving.Paving.put_in_room.Goals as goal

pub descend-requires-clause-kids : goal.descend-requires-clause-kids
descend-requires-clause-kids c = rw c.deref.ensures.value (whole_kids _ _ _ _ c.self.invariant.0)

pub unreachable-requires : goal.unreachable-requires
unreachable-requires c =
    found (length c.self.inside.root) c.self.inside.ends.items c.self.inside.nodes.items c.args.path c.len.ensures.few
    (ap (λ s. subtree s.tree c.args.path) c.self.view_is ∙ c.requires.open)
    (ap (λ ns. reach ns 0 (take (length c.args.path) c.args.path)) (sym c.deref.ensures.value) ∙ ap (λ n. reach c.deref.result.now 0 (take n c.args.path)) (sym c.len.ensures.count)
    ∙ sym c.descend.ensures.reached ∙ c.in_default.is)

pub lay_down-cell-requires : goal.lay_down-cell-requires
lay_down-cell-requires c =
    let fits = subst (λ s. Fits (box_of s.root s.tree c.args.path) c.args.outcome) (sym c.self.view_is) c.requires.fits in
    let places = put_places c.self.inside.root c.self.inside.ends.items c.self.inside.nodes.items c.self.inside.counts c.args.path c.args.outcome c.self.invariant.0 fits in
    let few : places_of c.args.outcome ≤ length c.self.inside.root = few_places (length c.self.inside.root) c.args.outcome places in
    one_room (length c.self.inside.root) c.self.inside.spare (vec_len c.self.inside.ends) (vec_capacity c.self.inside.ends) (places_of c.args.outcome) few
    (subst (λ n. 1 ≤ n) (sym (ap (λ s. s.spare) c.self.view_is)) c.requires.room) c.self.invariant.1.for_ends

pub tally-self-inside-requires-clause-some : goal.tally-self-inside-requires-clause-some
tally-self-inside-requires-clause-some c =
    some_open c.self.inside.root c.self.inside.ends.items c.self.inside.nodes.items c.self.inside.counts c.args.path c.self.invariant.0
    (ap (λ s. subtree s.tree c.args.path) c.self.view_is ∙ c.requires.open)

pub close_way-requires : goal.close_way-requires
close_way-requires c =
    let is_open = ap (λ s. subtree s.tree c.args.path) c.self.view_is ∙ c.requires.open in
    let fits = subst (λ s. Fits (box_of s.root s.tree c.args.path) c.args.outcome) (sym c.self.view_is) c.requires.fits in
    let places = put_places c.self.inside.root c.self.inside.ends.items c.self.inside.nodes.items c.self.inside.counts c.args.path c.args.outcome c.self.invariant.0 fits in
    let reached = ap (λ ns. reach ns 0 (take (length c.args.path) c.args.path)) (sym c.deref.ensures.value) ∙ ap (λ n. reach c.deref.result.now 0 (take n c.args.path)) (sym c.len.ensures.count) ∙ sym c.in-Some.ensures.reached in
    let there : c.in-Some.at < length c.self.inside.nodes.items = subst (λ ns. c.in-Some.at < length ns) c.deref.ensures.value c.in-Some.ensures.there in
    let size : c.len-2.result ≡ length c.self.inside.nodes.items = c.len-2.ensures ∙ c.self.inside.nodes.ok.0 in
    let shows = subst (Shows (length c.self.inside.root) c.lay_down-cell.new.ends.items c.lay_down-cell.result c.args.outcome) size (c.lay_down-cell.ensures.shows (length c.self.inside.root) places) in
    record {
      kids = placed_kids c.self.inside.root c.self.inside.ends.items c.self.inside.nodes.items c.place.new.nodes.items c.self.inside.counts c.in-Some.at c.lay_down-cell.result c.self.invariant.0 c.place.ensures.placed
          (length c.self.inside.root) c.lay_down-cell.new.ends.items c.args.outcome shows there;
      marks = put_marks c.self.inside.root c.self.inside.ends.items c.lay_down-cell.new.ends.items c.self.inside.nodes.items c.place.new.nodes.items c.self.inside.counts c.args.path c.in-Some.at c.lay_down-cell.result c.args.outcome
          c.self.invariant.0 c.len.ensures.few reached there is_open c.requires.depth c.lay_down-cell.ensures.longer shows c.place.ensures.placed;
    }

pub invariant_of-self : goal.invariant_of-self
invariant_of-self c =
    let is_open = ap (λ s. subtree s.tree c.args.path) c.self.view_is ∙ c.requires.open in
    let fits = subst (λ s. Fits (box_of s.root s.tree c.args.path) c.args.outcome) (sym c.self.view_is) c.requires.fits in
    let places = put_places c.self.inside.root c.self.inside.ends.items c.self.inside.nodes.items c.self.inside.counts c.args.path c.args.outcome c.self.invariant.0 fits in
    let reached = ap (λ ns. reach ns 0 (take (length c.args.path) c.args.path)) (sym c.deref.ensures.value) ∙ ap (λ n. reach c.deref.result.now 0 (take n c.args.path)) (sym c.len.ensures.count) ∙ sym c.in-Some.ensures.reached in
    let there : c.in-Some.at < length c.self.inside.nodes.items = subst (λ ns. c.in-Some.at < length ns) c.deref.ensures.value c.in-Some.ensures.there in
    let size : c.len-2.result ≡ length c.self.inside.nodes.items = c.len-2.ensures ∙ c.self.inside.nodes.ok.0 in
    let shows = subst (Shows (length c.self.inside.root) c.lay_down-cell.new.ends.items c.lay_down-cell.result c.args.outcome) size (c.lay_down-cell.ensures.shows (length c.self.inside.root) places) in
    let few : places_of c.args.outcome ≤ length c.self.inside.root = few_places (length c.self.inside.root) c.args.outcome places in
    let more : length c.place.new.nodes.items ≤ length c.self.inside.nodes.items + 2 = more_nodes c.self.inside.nodes.items c.place.new.nodes.items c.in-Some.at c.lay_down-cell.result c.place.ensures.placed in
    let count : vec_len c.place.new.nodes ≤ vec_len c.self.inside.nodes + 2 = (let e = c.place.new.nodes.ok.0 in let f = c.self.inside.nodes.ok.0 in omega (arith, more)) in (
      put_whole c.self.inside.root c.self.inside.ends.items c.lay_down-cell.new.ends.items c.self.inside.nodes.items c.place.new.nodes.items c.close_way.new.nodes.items c.self.inside.counts c.tally-self-inside.result c.args.path c.in-Some.at c.lay_down-cell.result c.args.outcome
          c.self.invariant.0 c.len.ensures.few reached there is_open fits c.lay_down-cell.ensures.keeps c.requires.depth c.lay_down-cell.ensures.longer shows c.place.ensures.placed c.close_way.ensures.remarked c.tally-self-inside.ensures
          (let e = c.lay_down-cell.ensures.length in let m = c.lay_down-cell.new.ends.ok.0 in let n = c.self.inside.ends.ok.0 in omega (arith, few)),
      record {
        for_nodes = omega (arith, c.close_way.ensures.count, c.close_way.ensures.capacity, c.place.ensures.capacity, c.self.invariant.1.for_nodes, count, (subst (λ n. 1 ≤ n) (sym (ap (λ s. s.spare) c.self.view_is)) c.requires.room));
        for_ends = less_room (length c.self.inside.root) c.self.inside.spare (vec_len c.self.inside.ends) (vec_capacity c.self.inside.ends) (places_of c.args.outcome) _ _ few
            (subst (λ n. 1 ≤ n) (sym (ap (λ s. s.spare) c.self.view_is)) c.requires.room) c.self.invariant.1.for_ends c.lay_down-cell.ensures.length c.lay_down-cell.ensures.capacity;
        few = omega (arith, c.self.invariant.1.few);
      },
    )

pub returns-clause-tree : goal.returns-clause-tree
returns-clause-tree c =
    let is_open = ap (λ s. subtree s.tree c.args.path) c.self.view_is ∙ c.requires.open in
    let fits = subst (λ s. Fits (box_of s.root s.tree c.args.path) c.args.outcome) (sym c.self.view_is) c.requires.fits in
    let places = put_places c.self.inside.root c.self.inside.ends.items c.self.inside.nodes.items c.self.inside.counts c.args.path c.args.outcome c.self.invariant.0 fits in
    let reached = ap (λ ns. reach ns 0 (take (length c.args.path) c.args.path)) (sym c.deref.ensures.value) ∙ ap (λ n. reach c.deref.result.now 0 (take n c.args.path)) (sym c.len.ensures.count) ∙ sym c.in-Some.ensures.reached in
    let there : c.in-Some.at < length c.self.inside.nodes.items = subst (λ ns. c.in-Some.at < length ns) c.deref.ensures.value c.in-Some.ensures.there in
    let size : c.len-2.result ≡ length c.self.inside.nodes.items = c.len-2.ensures ∙ c.self.inside.nodes.ok.0 in
    let shows = subst (Shows (length c.self.inside.root) c.lay_down-cell.new.ends.items c.lay_down-cell.result c.args.outcome) size (c.lay_down-cell.ensures.shows (length c.self.inside.root) places) in
    put_tree c.self.inside.root c.self.inside.ends.items c.lay_down-cell.new.ends.items c.self.inside.nodes.items c.place.new.nodes.items c.close_way.new.nodes.items c.self.inside.counts c.tally-self-inside.result c.args.path c.in-Some.at c.lay_down-cell.result c.args.outcome
    c.self.invariant.0 c.len.ensures.few reached there is_open fits c.lay_down-cell.ensures.keeps c.requires.depth c.lay_down-cell.ensures.longer shows c.place.ensures.placed c.close_way.ensures.remarked c.tally-self-inside.ensures
    ∙ ap (λ s. graft s.tree c.args.path (settled c.args.outcome)) c.self.view_is
