use Rattle.std.proofs.Common.{◌≡◌, length, sym, ◌∙◌, ap, Some, []}
use Rattle.std.specs.Option.{option_map}
use Rattle.std.proofs.lemmas.List.{get_or_read}
use Rattle.pv_tree.specs.Trees.{to_at}
use Rattle.pv_tree.specs.Arena.{open_node, start_of, kept, cell_at}
use Rattle.pv_tree.proofs.Halves.{some_start}
use Rattle.pv_tree.proofs.Stacks.{stop_to}
use Rattle.pv_tree.proofs.walk.Walk.write_to.Goals as goal

pub unreachable-requires : goal.unreachable-requires
unreachable-requires c =
    let cell = get_or_read c.self.inside.nodes.now c.self.inside.here.at c.index-self-self.result c.self.invariant.here.there c.index-self-self.is open_node in
    let start : c.start_in.result ≡ start_of (cell_at c.self.inside.nodes.now c.self.inside.here.at) = c.start_in.ensures ∙ ap (λ n. start_of n.cell) (sym c.index-self-self.is ∙ cell) in
    let to_is : to_at c.args.self.now.here.tree [] ≡ option_map (kept (length c.self.inside.root.now) c.self.inside.ends.now) c.start_in.result =
    sym (ap (λ w. to_at w.here.tree []) c.self.view_is)
    ∙ stop_to c.self.inside.root.now c.self.inside.ends.now c.self.inside.nodes.now c.self.invariant.counts c.self.invariant.whole c.self.inside.here c.self.invariant.here
    ∙ ap (option_map (kept (length c.self.inside.root.now) c.self.inside.ends.now)) (sym start) in
    some_start (length c.self.inside.root.now) c.self.inside.ends.now c.start_in.result (to_at c.args.self.now.here.tree []) to_is c.requires.there c.in-None.is

pub returns-clause-is : goal.returns-clause-is
returns-clause-is c =
    let cell = get_or_read c.self.inside.nodes.now c.self.inside.here.at c.index-self-self.result c.self.invariant.here.there c.index-self-self.is open_node in
    let start : c.start_in.result ≡ start_of (cell_at c.self.inside.nodes.now c.self.inside.here.at) = c.start_in.ensures ∙ ap (λ n. start_of n.cell) (sym c.index-self-self.is ∙ cell) in
    let dims : length c.args.into.now ≡ length c.self.inside.root.now = c.requires.dims ∙ sym (ap (λ w. length w.root) c.self.view_is) in
    sym (ap (λ w. to_at w.here.tree []) c.self.view_is)
    ∙ stop_to c.self.inside.root.now c.self.inside.ends.now c.self.inside.nodes.now c.self.invariant.counts c.self.invariant.whole c.self.inside.here c.self.invariant.here
    ∙ ap (option_map (kept (length c.self.inside.root.now) c.self.inside.ends.now)) (sym start) ∙ ap (option_map (kept (length c.self.inside.root.now) c.self.inside.ends.now)) c.in-Some.is
    ∙ ap (λ n. Some (kept n c.self.inside.ends.now c.in-Some.start)) (sym dims) ∙ ap (λ b. Some b) (sym c.copy_out.ensures.is)
