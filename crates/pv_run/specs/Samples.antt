-- The rule by which a sample's system is paved.
use Rattle.pv_expr.specs.Systems.{Parts}
use Rattle.pv_parse.specs.Declarations.{IsMeaning}
use Rattle.pv_slope.specs.Methods.{Method}
use Rattle.pv_rule.specs.Systems.{IsRuleFor}
use Rattle.pv_product.specs.Products.{text_of}
use Rattle.pv_request.specs.declared.request.Circles.{Circles}
use Rattle.pv_request.specs.declared.request.Settings.{Settings}

-- it is the rule for the system that the text of the circles means
pub record IsMadeRule (c : Circles) (s : Settings) (rule : Method) : Type 0 where
  pub system : Parts
  pub means : IsMeaning (text_of c) system
  pub is : IsRuleFor system s rule
