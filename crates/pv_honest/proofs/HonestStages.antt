-- What a stage of the open search box says, by the laws of its settler.
use Rattle.std.proofs.Common.{◌≡◌, ◌↔◌, List, sym, ◌∙◌, ap, subst}
use Rattle.pv_interval.specs.Bounds.{Bounds}
use Rattle.pv_expr.specs.Systems.{Parts}
use Rattle.pv_slope.specs.Methods.{Method, settle_by, is_member}
use Rattle.pv_tree.specs.Trees.{Tree, leaf, IsPaving}
use Rattle.pv_tree.specs.Stages.{IsStage, full_of, ClosedStagesAreFull}
use Rattle.pv_tree.specs.Sets.{Covers, IsSound}
use Rattle.pv_tree.specs.Laws.{StagesAreSound}
use Rattle.pv_rule.specs.Systems.{EachHolds, SpellsProp, IsRuleFor, search_box}
use Rattle.pv_product.specs.Products.{IsHonest}
use Rattle.pv_request.specs.declared.request.Settings.{Settings}
use Rattle.pv_honest.proofs.Formatted.{stage_numbers}
use Rattle.pv_rule.proofs.Sets.{sound_alike}

pub honest_of : (system : Parts) (s : Settings) (rule : Method) (b : List Bounds) (t : Tree) → b ≡ search_box rule → IsPaving b t → Covers b t
    → StagesAreSound (settle_by rule) rule.parts.depth (is_member rule) b → ClosedStagesAreFull (settle_by rule) rule.parts.depth b → IsRuleFor system s rule
    → IsStage (settle_by rule) rule.parts.depth (search_box rule) leaf t → IsHonest s rule t
honest_of system s rule b t root paving covers are_sound are_full is stage =
    let here = subst (λ x. IsStage (settle_by rule) rule.parts.depth x leaf t) (sym root) stage in
    let sound = subst (λ x. IsSound (is_member rule) x t) root (are_sound leaf t tt tt here) in
    record {
      paving = record { paving = subst (λ x. IsPaving x t) root paving; numbers = stage_numbers rule t stage };
      stage = stage;
      covers = subst (λ x. Covers x t) root covers;
      sound = sound;
      whole = λ none. are_full leaf t here none ∙ ap (λ x. full_of (settle_by rule) rule.parts.depth x leaf 0) root;
      by_prop = λ n spelled. sound_alike (is_member rule) (EachHolds rule.parts.system.constraints)
          (λ x. subst (λ (p : Parts). is_member rule x ↔ EachHolds p.constraints x) (sym is.system_is)
          (is.by_prop n (subst (λ (p : Parts). SpellsProp p s n) is.system_is spelled) x)) _ t sound;
    }
