-- The rule of a settler whose program the settings spell.
use Rattle.std.proofs.Common.{◌≡◌, ◌<◌, ◌^◌, length, map}
use Rattle.pv_expr.specs.Systems.{Parts}
use Rattle.pv_hc4.specs.Graphs.{sides_named}
use Rattle.pv_ctc.specs.Contracting.{sides_in}
use Rattle.pv_ctc.specs.Plans.{plan_of}
use Rattle.pv_ctc.specs.Refusals.{IsSpelling}
use Rattle.pv_slope.specs.Methods.{Method}
use Rattle.pv_rule.specs.Systems.{IsRuleFor}
use Rattle.pv_request.specs.declared.request.Settings.{Settings}
use Rattle.pv_rule.proofs.Sets.{set_of, prop_set}

pub rule_for : (system : Parts) (s : Settings) (rule : Method) → length system.constraints < 2 ^ 32 → rule.form ≡ s.form → IsSpelling (length system.constraints) s.contract.now (plan_of rule.parts.program)
    → rule.parts.system ≡ system → sides_in rule.parts.graphs ≡ map sides_named system.constraints → rule.parts.eps ≡ s.eps → rule.parts.depth ≡ s.depth → rule.parts.bisector ≡ s.bisector
    → IsRuleFor system s rule
rule_for system s rule few form program same sides eps depth bisector = record {
  form = form;
  system_is = same;
  sides = sides;
  program = program;
  eps = eps;
  depth = depth;
  bisector = bisector;
  set = set_of system.constraints (plan_of rule.parts.program) (sides_in rule.parts.graphs) sides;
  by_prop = λ n spelled. prop_set system.constraints s.contract.now (plan_of rule.parts.program) (sides_in rule.parts.graphs) n few program sides spelled;
}
