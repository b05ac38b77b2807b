use Rattle.std.proofs.Common.{◌≡◌, ◌*◌, ◌≤◌, ℕ, List, Some}
use Rattle.std.specs.Prelude.{◌≢◌}
use Rattle.pv_workers.specs.Pavings.{IsPaved}
use Rattle.pv_scope.specs.Orders.{IsInOrder}
use Rattle.pv_keep.specs.Campaigns.{KeepsTree, IsSaved}
use Rattle.pv_rounds.proofs.rounds.go_on.Given as goal

abbrev pub invariant-loop : goal.invariant-loop
invariant-loop g l = record {
  root : l.held.root ≡ l.fn.campaign.root;
  limit : l.held.limit ≡ l.fn.campaign.limit;
  run : IsPaved (g.S.Settler.settle_of l.settler) (g.S.Settler.depth_of l.settler) l.fn.campaign.root l.fn.campaign.tree (l.counter * l.plan.budget.nodes) l.held.tree;
  ordered : IsInOrder l.plan.order l.fn.campaign.tree l.held.tree;
  begun : g.P.Keeper.begun l.keeper ≡ g.P.Keeper.begun l.fn.keeper;
  kept : (name : List ℕ) → g.P.Keeper.begun l.fn.keeper ≡ Some name → KeepsTree (g.P.Keeper.kept l.keeper name) l.held.tree;
  saved : (name : List ℕ) → g.P.Keeper.begun l.fn.keeper ≡ Some name → IsSaved (g.P.Keeper.kept l.fn.keeper name) (g.P.Keeper.kept l.keeper name) l.held.tree;
  others : (name other : List ℕ) → g.P.Keeper.begun l.fn.keeper ≡ Some name → other ≢ name → g.P.Keeper.kept l.keeper other ≡ g.P.Keeper.kept l.fn.keeper other;
  faults : g.P.Keeper.faults l.fn.keeper ≤ g.P.Keeper.faults l.keeper;
}
