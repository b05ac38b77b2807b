use Rattle.std.proofs.Common.{◌≡◌, sym, ◌∙◌, ap, subst, length, drop}
use Rattle.pv_tree.specs.Trees.{first, opens, behind}
use Rattle.pv_tree.specs.Spots.{IsSpot, first_behind}
use Rattle.pv_tree.proofs.Searches.{root_spot, whole_searchable}
use Rattle.pv_tree.proofs.Behind.{behind_whole, behind_is_open}
use Rattle.pv_tree.proofs.paving.Paving.next_open.Goals as goal
use Rattle.pv_tree.proofs.paving.Paving.next_open.Goals.{After-later}

next_is : (c : After-later) → c.later.result ≡ first (behind c.args.after (opens c.args.self.now.tree))
next_is c =
    c.later.ensures ∙ ap (λ ns. first_behind ns (record { at = 0; path = c.root.result }) (drop (length c.root.result) c.args.after)) c.deref.ensures.value
    ∙ behind_whole (length c.self.inside.root) c.self.inside.ends.items c.self.inside.nodes.items c.root.result c.args.after c.root.ensures
    ∙ ap (λ s. first (behind c.args.after (opens s.tree))) c.self.view_is

pub later-requires-clause-spot : goal.later-requires-clause-spot
later-requires-clause-spot c =
    subst (λ ns. IsSpot ns (record { at = 0; path = c.root.result })) (sym c.deref.ensures.value)
    (root_spot c.self.inside.nodes.items c.root.result (whole_searchable _ _ _ _ c.self.invariant.0) c.root.ensures)

pub returns-clause-next : goal.returns-clause-next
returns-clause-next c = next_is c

pub returns-clause-is_open : goal.returns-clause-is_open
returns-clause-is_open c = behind_is_open c.args.self.now.tree c.args.after c.later.result (next_is c)
