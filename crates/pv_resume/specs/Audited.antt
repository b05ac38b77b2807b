-- What an audit finds of a paving of the search box, as the code sees it on its way.
use Rattle.std.specs.Prelude.{◌≡◌, ◌⊎◌, ◌++◌, ◌∷◌, Bool, List, [], codes}
use Rattle.pv_expr.specs.Systems.{Parts}
use Rattle.pv_tree.specs.Trees.{Tree}
use Rattle.pv_tree.specs.declared.outcome.Outcome.{Outcome}
use Rattle.pv_join.specs.Audits.{IsVerdict}
use Rattle.pv_join.specs.declared.verdict.Audit.TheVariants.{DiffersAt}
use Rattle.pv_slope.specs.Methods.{Method, settle_by}
use Rattle.pv_rule.specs.Systems.{IsRuleFor, search_box}
use Rattle.pv_product.specs.Products.{Product, text, IsHonest}
use Rattle.pv_opening.specs.Reads.{IsDiffers}
use Rattle.pv_request.specs.declared.request.Settings.{Settings}
use Rattle.pv_request.specs.declared.refusal.Refusal.{Refusal}
use Rattle.pv_request.specs.declared.refusal.Refusal.TheVariants.{Memory}

-- it is a stage of the open search box
pub record IsFoundHonest (rule : Method) (t : Tree) (p : Product) : Type 0 where
  pub honest : (system : Parts) (s : Settings) → IsRuleFor system s rule → IsHonest s rule t
  pub is : p ≡ text (codes "honest" ++ 10 ∷ [])

-- it is none: at this path another outcome is due
pub record DiffersFrom (rule : Method) (t : Tree) (r : Refusal) : Type 0 where
  pub path : List Bool
  pub due : Outcome
  pub verdict : IsVerdict (settle_by rule) rule.parts.depth (search_box rule) t (DiffersAt path due)
  pub told : IsDiffers t path due r

abbrev pub IsFoundOther : Method → Tree → Refusal → Type 0
IsFoundOther rule t r = DiffersFrom rule t r ⊎ (r ≡ Memory)
