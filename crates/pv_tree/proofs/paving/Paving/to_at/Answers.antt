use Rattle.std.proofs.Common.{◌≡◌, ◌≤◌, ◌+◌, sym, ◌∙◌, ap, subst, length, Some, take, arith}
use Rattle.std.specs.Option.{IsSome, option_map}
use Rattle.pv_tree.specs.Trees.{to_at}
use Rattle.pv_tree.specs.contracts.paving.Paving.{the_view}
use Rattle.pv_tree.specs.Arena.{HasKids, start_along, reach, kept}
use Rattle.pv_tree.proofs.Wholes.{whole_kids}
use Rattle.pv_tree.proofs.Halves.{to_there, start_fits, some_start}
use Rattle.pv_tree.proofs.paving.Paving.to_at.Goals as goal

pub start_at-requires : goal.start_at-requires
start_at-requires c = record { kids = subst HasKids (sym c.deref.ensures.value) (whole_kids _ _ _ _ c.self.invariant.0) }

pub copy_out-requires : goal.copy_out-requires
copy_out-requires c =
    let dims : length c.args.into.now ≡ length c.self.inside.root = c.requires.dims ∙ sym (ap (λ s. length s.root) c.self.view_is) in
    let here = sym (c.in-Some.ensures ∙ ap (λ ns. start_along ns (reach ns 0 (take (length c.args.path) c.args.path))) c.deref.ensures.value) in
    let fits : c.in-Some.start + length c.self.inside.root ≤ length c.self.inside.ends.items =
    start_fits c.self.inside.root c.self.inside.ends.items c.self.inside.nodes.items c.self.inside.counts (reach c.self.inside.nodes.items 0 (take (length c.args.path) c.args.path)) c.in-Some.start c.self.invariant.0 here in
    rw c.deref-in-Some.ensures.value (omega (arith, fits, dims))

pub unreachable-requires : goal.unreachable-requires
unreachable-requires c =
    some_start (length c.self.inside.root) c.self.inside.ends.items (start_along c.self.inside.nodes.items (reach c.self.inside.nodes.items 0 (take (length c.args.path) c.args.path)))
    (to_at (the_view c.self.inside).tree c.args.path)
    (to_there (length c.self.inside.root) c.self.inside.ends.items c.self.inside.nodes.items c.args.path c.len-steps.ensures.few)
    (subst (λ s. IsSome (to_at s.tree c.args.path)) (sym c.self.view_is) c.requires.there)
    (sym (c.in-None.ensures ∙ ap (λ ns. start_along ns (reach ns 0 (take (length c.args.path) c.args.path))) c.deref.ensures.value))

pub returns-clause-is : goal.returns-clause-is
returns-clause-is c =
    let dims : length c.args.into.now ≡ length c.self.inside.root = c.requires.dims ∙ sym (ap (λ s. length s.root) c.self.view_is) in
    ap (λ s. to_at s.tree c.args.path) (sym c.self.view_is)
    ∙ to_there (length c.self.inside.root) c.self.inside.ends.items c.self.inside.nodes.items c.args.path c.len-steps.ensures.few
    ∙ ap (option_map (kept (length c.self.inside.root) c.self.inside.ends.items)) (sym (c.in-Some.ensures ∙ ap (λ ns. start_along ns (reach ns 0 (take (length c.args.path) c.args.path))) c.deref.ensures.value))
    ∙ ap (λ b. Some b) (ap (λ es. kept (length c.self.inside.root) es c.in-Some.start) (sym c.deref-in-Some.ensures.value) ∙ ap (λ n. kept n c.deref-in-Some.result.now c.in-Some.start) (sym dims) ∙ sym c.copy_out.ensures.is)
