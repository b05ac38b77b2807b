-- What comes of going on from an opening, as the code sees it on its way.
use Rattle.std.specs.Prelude.{◌≡◌, ℕ, Bool, Option}
use Rattle.pv_expr.specs.Systems.{Parts}
use Rattle.pv_tree.specs.Trees.{Tree, leaf}
use Rattle.pv_tree.specs.Stages.{IsStage}
use Rattle.pv_slope.specs.Methods.{Method, settle_by, identity_of}
use Rattle.pv_rule.specs.Systems.{IsRuleFor, search_box}
use Rattle.pv_scope.specs.Orders.{IsInOrder}
use Rattle.pv_scope.specs.declared.order.Order.{Order}
use Rattle.pv_scope.specs.declared.share.Share.{Share}
use Rattle.pv_rule.specs.Pavings.{IsPaved, IsSharePaved}
use Rattle.pv_product.specs.Products.{Product, paved_as, IsHonest, IsSettledSo}
use Rattle.pv_request.specs.declared.request.Settings.{Settings}

-- what grew of an opening is honest where the opening is a stage of the open search box
abbrev pub StaysHonest : Method → Tree → Tree → Type 0
StaysHonest rule opening t =
    (system : Parts) (s : Settings) → IsRuleFor system s rule
    → IsStage (settle_by rule) rule.parts.depth (search_box rule) leaf opening → IsHonest s rule t

-- what the budget settles of an opening, in an order
pub record IsResumed (rule : Method) (opening : Tree) (order : Order) (budget : ℕ) (t : Tree) : Type 0 where
  pub run : IsPaved (settle_by rule) rule.parts.depth (search_box rule) opening budget t
  pub ordered : IsInOrder order opening t
  pub honest : StaysHonest rule opening t

-- what it settles of a share
pub record IsShareResumed (rule : Method) (opening : Tree) (share : Share) (budget : ℕ) (t : Tree) (done : Bool) : Type 0 where
  pub run : IsSharePaved (settle_by rule) rule.parts.depth (search_box rule) opening share budget t done
  pub honest : StaysHonest rule opening t

-- such a paving as a product
pub record GivesResumed (rule : Method) (opening : Tree) (order : Order) (budget : ℕ) (share : Option Share) (p : Product) : Type 0 where
  pub tree : Tree
  pub done : Bool
  pub run : IsSettledSo rule opening order budget share tree done
  pub honest : StaysHonest rule opening tree
  pub is : p ≡ paved_as (identity_of rule) (search_box rule) tree done
