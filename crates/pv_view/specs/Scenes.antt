-- What a picture is drawn from, as the code holds it.
use Rattle.std.specs.Prelude.{List}
use Rattle.clap.specs.Words.{Text}
use Rattle.pv_num.specs.Extended.{Extended}
use Rattle.pv_svg.specs.Planes.{Plane}
use Rattle.pv_slope.specs.Methods.{method_of}
use Rattle.pv_rule.specs.Systems.{Files, HasRule, RefusesRule}
use Rattle.pv_product.specs.Views.{IsPlaneOf}
use Rattle.pv_product.specs.Products.{HasNoPlaneIn}
use Rattle.pv_view.specs.declared.svg.Axes.{Axes}
use Rattle.pv_view.specs.declared.svg.Scene.{Scene}
use Rattle.pv_request.specs.declared.request.Settings.{Settings}
use Rattle.pv_request.specs.declared.request.View.{View}
use Rattle.pv_request.specs.declared.refusal.Refusal.{Refusal}
use Rattle.pv_request.specs.declared.refusal.Refusal.TheVariants.{Usage}

abbrev pub plane_of : Axes → List Extended → Plane
plane_of axes at = record { x = axes.x; y = axes.y; at = at }

-- a settler of the system in a file, and the axes of a view of its pavings
pub record IsScene (before : Files) (system : Text) (s : Settings) (v : View) (scene : Scene) : Type 0 where
  pub read : HasRule before system s (method_of scene.settler)
  pub plane : IsPlaneOf (method_of scene.settler).parts.system v.x.now v.y.now v.at.items (plane_of scene.axes v.at.items)

-- why there are none
abbrev pub RefusesScene : Files → Files → Text → Settings → View → Refusal → Type 0
RefusesScene before after system s v Usage = HasNoPlaneIn before system s v
RefusesScene before after system s v r = RefusesRule before after system s r
