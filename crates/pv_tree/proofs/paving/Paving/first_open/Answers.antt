use Rattle.std.proofs.Common.{◌≡◌, sym, ◌∙◌, ap, subst, length}
use Rattle.pv_tree.specs.Trees.{first, opens}
use Rattle.pv_tree.specs.Spots.{IsSpot, first_below}
use Rattle.pv_tree.proofs.Searches.{root_spot, whole_searchable, first_whole, some_is}
use Rattle.pv_tree.proofs.paving.Paving.first_open.Goals as goal
use Rattle.pv_tree.proofs.paving.Paving.first_open.Goals.{After-leftmost}

first_is : (c : After-leftmost) → c.leftmost.result ≡ first (opens c.args.self.now.tree)
first_is c =
    c.leftmost.ensures ∙ ap (λ ns. first_below ns (record { at = 0; path = c.root.result })) c.deref.ensures.value
    ∙ first_whole (length c.self.inside.root) c.self.inside.ends.items c.self.inside.nodes.items c.root.result c.root.ensures
    ∙ ap (λ s. first (opens s.tree)) c.self.view_is

pub leftmost-requires : goal.leftmost-requires
leftmost-requires c =
    subst (λ ns. IsSpot ns (record { at = 0; path = c.root.result })) (sym c.deref.ensures.value)
    (root_spot c.self.inside.nodes.items c.root.result (whole_searchable _ _ _ _ c.self.invariant.0) c.root.ensures)

pub returns-clause-first : goal.returns-clause-first
returns-clause-first c = first_is c

pub returns-clause-is_open : goal.returns-clause-is_open
returns-clause-is_open c = some_is c.args.self.now.tree c.leftmost.result (first_is c)
