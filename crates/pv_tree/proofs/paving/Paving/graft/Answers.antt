use Rattle.std.proofs.Common.{◌≡◌, ◌<◌, ◌≤◌, ◌+◌, ◌-◌, ◌*◌, ◌++◌, length-append, length, sym, ap, ◌∙◌, subst, arith, vec_len, vec_capacity, take}
use Rattle.pv_tree.specs.Trees.{subtree, box_of, graft, height, settled_of, counts_of}
use Rattle.pv_tree.specs.Arena.{reach, whole_tree, IsWhole}
use Rattle.pv_tree.specs.Intakes.{CanMove, IsTakenIn}
use Rattle.pv_tree.proofs.Wholes.{whole_kids, found, some_open}
use Rattle.pv_tree.proofs.Grafts.{graft_kids, graft_marks, graft_tree, graft_whole, part_few, ends_room, can_move}
use Rattle.pv_tree.proofs.paving.Paving.graft.Goals as goal

pub descend-requires-clause-kids : goal.descend-requires-clause-kids
descend-requires-clause-kids c = rw c.deref.ensures.value (whole_kids _ _ _ _ c.self.invariant.0)

pub unreachable-requires : goal.unreachable-requires
unreachable-requires c =
    found (length c.self.inside.root) c.self.inside.ends.items c.self.inside.nodes.items c.args.path c.len.ensures.few
    (ap (λ s. subtree s.tree c.args.path) c.self.view_is ∙ c.requires.open)
    (ap (λ ns. reach ns 0 (take (length c.args.path) c.args.path)) (sym c.deref.ensures.value) ∙ ap (λ n. reach c.deref.result.now 0 (take n c.args.path)) (sym c.len.ensures.count)
    ∙ sym c.descend.ensures.reached ∙ c.in_default.is)

pub combine-self-inside-requires-clause-some : goal.combine-self-inside-requires-clause-some
combine-self-inside-requires-clause-some c =
    some_open c.self.inside.root c.self.inside.ends.items c.self.inside.nodes.items c.self.inside.counts c.args.path c.self.invariant.0
    (ap (λ s. subtree s.tree c.args.path) c.self.view_is ∙ c.requires.open)

pub take_ends-requires : goal.take_ends-requires
take_ends-requires c =
    let root = ap (λ s. s.root) c.stage.view_is ∙ c.requires.root ∙ ap (λ s. box_of s.root s.tree c.args.path) (sym c.self.view_is) in
    let few : settled_of c.stage.inside.counts ≤ c.self.inside.spare = (
    let e = ap settled_of c.stage.invariant.0.counted ∙ ap (λ s. settled_of (counts_of s.tree)) c.stage.view_is in
    let f = ap (λ s. s.spare) c.self.view_is in omega (arith, e, f, c.requires.room)) in
    let part = part_few c.self.inside.root c.self.inside.ends.items c.stage.inside.root c.stage.inside.ends.items c.self.inside.nodes.items c.stage.inside.nodes.items c.self.inside.counts c.stage.inside.counts c.args.path c.self.invariant.0 c.stage.invariant.0 root in
    let room = ends_room (length c.self.inside.root) (length c.stage.inside.ends.items) c.self.inside.spare (settled_of c.stage.inside.counts) (vec_len c.self.inside.ends) (vec_capacity c.self.inside.ends) few part c.self.invariant.1.for_ends in
    let e = ap length c.deref-2.ensures.value in omega (arith, room, e)

pub take_nodes-requires-clause-fits : goal.take_nodes-requires-clause-fits
take_nodes-requires-clause-fits c =
    let root = ap (λ s. s.root) c.stage.view_is ∙ c.requires.root ∙ ap (λ s. box_of s.root s.tree c.args.path) (sym c.self.view_is) in
    let few : settled_of c.stage.inside.counts ≤ c.self.inside.spare = (
    let e = ap settled_of c.stage.invariant.0.counted ∙ ap (λ s. settled_of (counts_of s.tree)) c.stage.view_is in
    let f = ap (λ s. s.spare) c.self.view_is in omega (arith, e, f, c.requires.room)) in
    let part = part_few c.self.inside.root c.self.inside.ends.items c.stage.inside.root c.stage.inside.ends.items c.self.inside.nodes.items c.stage.inside.nodes.items c.self.inside.counts c.stage.inside.counts c.args.path c.self.invariant.0 c.stage.invariant.0 root in
    let room = ends_room (length c.self.inside.root) (length c.stage.inside.ends.items) c.self.inside.spare (settled_of c.stage.inside.counts) (vec_len c.self.inside.ends) (vec_capacity c.self.inside.ends) few part c.self.invariant.1.for_ends in
    let nodes_fit = c.self.inside.nodes.small in
    let ends_fit = c.self.inside.ends.small in
    let some = c.self.invariant.0.arena.linked.some in
    let size = c.self.inside.nodes.ok.0 in
    subst (λ more. CanMove more (c.len-2.result - 1) c.len-3.result) (sym c.deref-3.ensures.value)
    (can_move c.stage.inside.root c.stage.inside.ends.items c.stage.inside.nodes.items c.stage.inside.counts (c.len-2.result - 1) c.len-3.result c.self.inside.spare (vec_capacity c.self.inside.nodes) (vec_capacity c.self.inside.ends) c.stage.invariant.0 few
    (omega (arith, c.len-2.ensures, some, size, c.self.invariant.1.for_nodes)) (omega (arith, c.len-3.ensures, room)) (omega (arith, nodes_fit)) (omega (arith, ends_fit)))

pub close_way-requires : goal.close_way-requires
close_way-requires c =
    let root = ap (λ s. s.root) c.stage.view_is ∙ c.requires.root ∙ ap (λ s. box_of s.root s.tree c.args.path) (sym c.self.view_is) in
    let few : settled_of c.stage.inside.counts ≤ c.self.inside.spare = (
    let e = ap settled_of c.stage.invariant.0.counted ∙ ap (λ s. settled_of (counts_of s.tree)) c.stage.view_is in
    let f = ap (λ s. s.spare) c.self.view_is in omega (arith, e, f, c.requires.room)) in
    let is_open = ap (λ s. subtree s.tree c.args.path) c.self.view_is ∙ c.requires.open in
    let deep = subst (λ s. length c.args.path + height s.tree ≤ 200) (sym c.stage.view_is) c.requires.depth in
    let reached = ap (λ ns. reach ns 0 (take (length c.args.path) c.args.path)) (sym c.deref.ensures.value) ∙ ap (λ n. reach c.deref.result.now 0 (take n c.args.path)) (sym c.len.ensures.count) ∙ sym c.in-Some.ensures.reached in
    let there : c.in-Some.at < length c.self.inside.nodes.items = subst (λ ns. c.in-Some.at < length ns) c.deref.ensures.value c.in-Some.ensures.there in
    let one_less : length c.self.inside.nodes.items ≡ (c.len-2.result - 1) + 1 = (let e = c.self.inside.nodes.ok.0 in omega (arith, e, c.len-2.ensures, there)) in
    let ends : c.len-3.result ≡ length c.self.inside.ends.items = c.len-3.ensures ∙ c.self.inside.ends.ok.0 in
    let taken = subst (IsTakenIn c.self.inside.nodes.items c.take_nodes.new.nodes.items c.stage.inside.nodes.items c.in-Some.at (c.len-2.result - 1)) ends (subst (λ more. IsTakenIn c.self.inside.nodes.items c.take_nodes.new.nodes.items more c.in-Some.at (c.len-2.result - 1) c.len-3.result) c.deref-3.ensures.value c.take_nodes.ensures.taken) in
    record {
      kids = graft_kids c.self.inside.root c.self.inside.ends.items c.stage.inside.root c.stage.inside.ends.items c.self.inside.nodes.items c.take_nodes.new.nodes.items c.stage.inside.nodes.items c.self.inside.counts c.stage.inside.counts c.args.path c.in-Some.at (c.len-2.result - 1)
          c.self.invariant.0 c.stage.invariant.0 root c.len.ensures.few reached there is_open deep taken one_less;
      marks = graft_marks c.self.inside.root c.self.inside.ends.items c.stage.inside.root c.stage.inside.ends.items c.self.inside.nodes.items c.take_nodes.new.nodes.items c.stage.inside.nodes.items c.self.inside.counts c.stage.inside.counts c.args.path c.in-Some.at (c.len-2.result - 1)
          c.self.invariant.0 c.stage.invariant.0 root c.len.ensures.few reached there is_open deep taken one_less;
    }

pub invariant_of-self : goal.invariant_of-self
invariant_of-self c =
    let root = ap (λ s. s.root) c.stage.view_is ∙ c.requires.root ∙ ap (λ s. box_of s.root s.tree c.args.path) (sym c.self.view_is) in
    let few : settled_of c.stage.inside.counts ≤ c.self.inside.spare = (
    let e = ap settled_of c.stage.invariant.0.counted ∙ ap (λ s. settled_of (counts_of s.tree)) c.stage.view_is in
    let f = ap (λ s. s.spare) c.self.view_is in omega (arith, e, f, c.requires.room)) in
    let part = part_few c.self.inside.root c.self.inside.ends.items c.stage.inside.root c.stage.inside.ends.items c.self.inside.nodes.items c.stage.inside.nodes.items c.self.inside.counts c.stage.inside.counts c.args.path c.self.invariant.0 c.stage.invariant.0 root in
    let room = ends_room (length c.self.inside.root) (length c.stage.inside.ends.items) c.self.inside.spare (settled_of c.stage.inside.counts) (vec_len c.self.inside.ends) (vec_capacity c.self.inside.ends) few part c.self.invariant.1.for_ends in
    let is_open = ap (λ s. subtree s.tree c.args.path) c.self.view_is ∙ c.requires.open in
    let deep = subst (λ s. length c.args.path + height s.tree ≤ 200) (sym c.stage.view_is) c.requires.depth in
    let reached = ap (λ ns. reach ns 0 (take (length c.args.path) c.args.path)) (sym c.deref.ensures.value) ∙ ap (λ n. reach c.deref.result.now 0 (take n c.args.path)) (sym c.len.ensures.count) ∙ sym c.in-Some.ensures.reached in
    let there : c.in-Some.at < length c.self.inside.nodes.items = subst (λ ns. c.in-Some.at < length ns) c.deref.ensures.value c.in-Some.ensures.there in
    let one_less : length c.self.inside.nodes.items ≡ (c.len-2.result - 1) + 1 = (let e = c.self.inside.nodes.ok.0 in omega (arith, e, c.len-2.ensures, there)) in
    let ends : c.len-3.result ≡ length c.self.inside.ends.items = c.len-3.ensures ∙ c.self.inside.ends.ok.0 in
    let taken = subst (IsTakenIn c.self.inside.nodes.items c.take_nodes.new.nodes.items c.stage.inside.nodes.items c.in-Some.at (c.len-2.result - 1)) ends (subst (λ more. IsTakenIn c.self.inside.nodes.items c.take_nodes.new.nodes.items more c.in-Some.at (c.len-2.result - 1) c.len-3.result) c.deref-3.ensures.value c.take_nodes.ensures.taken) in
    let all = c.take_ends.ensures.items ∙ ap (λ es. c.self.inside.ends.items ++ es) c.deref-2.ensures.value in
    let more = c.stage.invariant.0.few_nodes in (
      subst (λ es. IsWhole c.self.inside.root es c.close_way.new.nodes.items c.combine-self-inside.result) (sym all)
          (graft_whole c.self.inside.root c.self.inside.ends.items c.stage.inside.root c.stage.inside.ends.items c.self.inside.nodes.items c.take_nodes.new.nodes.items c.stage.inside.nodes.items c.self.inside.counts c.stage.inside.counts c.args.path c.in-Some.at (c.len-2.result - 1)
          c.self.invariant.0 c.stage.invariant.0 root c.len.ensures.few reached there is_open deep taken one_less
          c.close_way.new.nodes.items c.combine-self-inside.result c.close_way.ensures.remarked c.combine-self-inside.ensures),
      record {
        for_nodes = (let size = c.self.inside.nodes.ok.0 in let after = c.take_nodes.new.nodes.ok.0 in omega (arith, size, after, c.close_way.ensures.count, c.close_way.ensures.capacity, c.take_nodes.ensures.capacity, c.self.invariant.1.for_nodes, taken.size, few, more, c.settled.ensures));
        for_ends = (
            let size = c.self.inside.ends.ok.0 in let after = c.take_ends.new.ends.ok.0 in
            let count = ap length all ∙ length-append c.self.inside.ends.items c.stage.inside.ends.items in
            let less : length c.self.inside.root * (c.self.inside.spare - c.settled.result) ≡ length c.self.inside.root * (c.self.inside.spare - settled_of c.stage.inside.counts) = ap (λ n. length c.self.inside.root * (c.self.inside.spare - n)) c.settled.ensures in
            omega (arith, size, after, count, c.take_ends.ensures.capacity, room, less));
        few = omega (arith, c.self.invariant.1.few);
      },
    )

pub returns-clause-tree : goal.returns-clause-tree
returns-clause-tree c =
    let root = ap (λ s. s.root) c.stage.view_is ∙ c.requires.root ∙ ap (λ s. box_of s.root s.tree c.args.path) (sym c.self.view_is) in
    let few : settled_of c.stage.inside.counts ≤ c.self.inside.spare = (
    let e = ap settled_of c.stage.invariant.0.counted ∙ ap (λ s. settled_of (counts_of s.tree)) c.stage.view_is in
    let f = ap (λ s. s.spare) c.self.view_is in omega (arith, e, f, c.requires.room)) in
    let is_open = ap (λ s. subtree s.tree c.args.path) c.self.view_is ∙ c.requires.open in
    let deep = subst (λ s. length c.args.path + height s.tree ≤ 200) (sym c.stage.view_is) c.requires.depth in
    let reached = ap (λ ns. reach ns 0 (take (length c.args.path) c.args.path)) (sym c.deref.ensures.value) ∙ ap (λ n. reach c.deref.result.now 0 (take n c.args.path)) (sym c.len.ensures.count) ∙ sym c.in-Some.ensures.reached in
    let there : c.in-Some.at < length c.self.inside.nodes.items = subst (λ ns. c.in-Some.at < length ns) c.deref.ensures.value c.in-Some.ensures.there in
    let one_less : length c.self.inside.nodes.items ≡ (c.len-2.result - 1) + 1 = (let e = c.self.inside.nodes.ok.0 in omega (arith, e, c.len-2.ensures, there)) in
    let ends : c.len-3.result ≡ length c.self.inside.ends.items = c.len-3.ensures ∙ c.self.inside.ends.ok.0 in
    let taken = subst (IsTakenIn c.self.inside.nodes.items c.take_nodes.new.nodes.items c.stage.inside.nodes.items c.in-Some.at (c.len-2.result - 1)) ends (subst (λ more. IsTakenIn c.self.inside.nodes.items c.take_nodes.new.nodes.items more c.in-Some.at (c.len-2.result - 1) c.len-3.result) c.deref-3.ensures.value c.take_nodes.ensures.taken) in
    let all = c.take_ends.ensures.items ∙ ap (λ es. c.self.inside.ends.items ++ es) c.deref-2.ensures.value in
    ap (λ es. whole_tree (length c.self.inside.root) es c.close_way.new.nodes.items) all
    ∙ graft_tree c.self.inside.root c.self.inside.ends.items c.stage.inside.root c.stage.inside.ends.items c.self.inside.nodes.items c.take_nodes.new.nodes.items c.stage.inside.nodes.items c.self.inside.counts c.stage.inside.counts c.args.path c.in-Some.at (c.len-2.result - 1)
    c.self.invariant.0 c.stage.invariant.0 root c.len.ensures.few reached there is_open deep taken one_less
    c.close_way.new.nodes.items c.combine-self-inside.result c.close_way.ensures.remarked c.combine-self-inside.ensures
    ∙ ap (λ s. graft s.tree c.args.path (whole_tree (length c.stage.inside.root) c.stage.inside.ends.items c.stage.inside.nodes.items)) c.self.view_is
    ∙ ap (λ s. graft c.args.self.now.tree c.args.path s.tree) c.stage.view_is
