use Rattle.std.proofs.Common.{sym, ◌∙◌, ap, length}
use Rattle.pv_tree.specs.Trees.{shape_of, subtree}
use Rattle.pv_tree.specs.Arena.{cell_along, shape_of_found}
use Rattle.pv_tree.proofs.Wholes.{whole_kids, shape_there}
use Rattle.pv_tree.proofs.paving.Paving.shape_at.Goals as goal

pub cell_after-requires-clause-kids : goal.cell_after-requires-clause-kids
cell_after-requires-clause-kids c = rw c.deref.ensures.value (whole_kids _ _ _ _ c.self.invariant.0)

pub returns-in-Some : goal.returns-in-Some
returns-in-Some c =
    c.cell_shape.ensures ∙ ap shape_of_found c.in-Some.ensures ∙ ap (λ ns. shape_of_found (cell_along ns c.args.path c.len.result)) c.deref.ensures.value
    ∙ ap (λ n. shape_of_found (cell_along c.self.inside.nodes.items c.args.path n)) c.len.ensures.count
    ∙ sym (shape_there (length c.self.inside.root) c.self.inside.ends.items c.self.inside.nodes.items c.args.path c.len.ensures.few)
    ∙ ap (λ s. shape_of (subtree s.tree c.args.path)) c.self.view_is

pub returns-in-None : goal.returns-in-None
returns-in-None c =
    ap shape_of_found c.in-None.ensures ∙ ap (λ ns. shape_of_found (cell_along ns c.args.path c.len.result)) c.deref.ensures.value
    ∙ ap (λ n. shape_of_found (cell_along c.self.inside.nodes.items c.args.path n)) c.len.ensures.count
    ∙ sym (shape_there (length c.self.inside.root) c.self.inside.ends.items c.self.inside.nodes.items c.args.path c.len.ensures.few)
    ∙ ap (λ s. shape_of (subtree s.tree c.args.path)) c.self.view_is
