-- Axes and planes of a system, and the picture of a paving on one.
use Rattle.std.proofs.Common.{◌≡◌, ℕ, List, length, map, sym, ◌∙◌, ap, subst}
use Rattle.std.specs.Prelude.{Some, slice_get}
use Rattle.std.proofs.lemmas.List.{length-map}
use Rattle.std.proofs.lemmas.Option.{get_or_from_slice_get}
use Rattle.clap.specs.Words.{Text}
use Rattle.pv_num.specs.Extended.{Extended}
use Rattle.pv_interval.specs.Bounds.{Bounds, everything}
use Rattle.pv_expr.specs.Searches.{search_bounds}
use Rattle.pv_expr.specs.Systems.{Parts}
use Rattle.pv_parse.proofs.Outcomes.{domains_named}
use Rattle.pv_slope.specs.Methods.{Method, method_of, dims_of, settle_by, is_member}
use Rattle.pv_tree.specs.Trees.{Tree, leaf}
use Rattle.pv_tree.specs.Stages.{IsStage}
use Rattle.pv_svg.specs.Planes.{Plane, IsPlane, place}
use Rattle.pv_svg.specs.Pixels.{IsFinite}
use Rattle.pv_svg.specs.Rectangles.{picture_of}
use Rattle.pv_svg.specs.Paints.{PicturesAreSound}
use Rattle.pv_svg.specs.Texts.{picture_text}
use Rattle.pv_rule.specs.Systems.{Files, HasSystem, HasRule, IsRuleFor, search_box}
use Rattle.pv_product.specs.Files.{HasPaving}
use Rattle.pv_product.specs.Views.{HasNoAxis, unbounded, IsPlaneOf, HasNoPlane}
use Rattle.pv_product.specs.Products.{Product, text, IsHonest, ComesOfSvg, HasNoPlaneIn}
use Rattle.pv_view.specs.Scenes.{plane_of, IsScene}
use Rattle.pv_view.specs.declared.svg.Scene.{Scene}
use Rattle.pv_request.specs.declared.request.Settings.{Settings}
use Rattle.pv_request.specs.declared.request.View.{View}

-- ---- Axes

place_is : (b : List Bounds) (i : ℕ) (part : Bounds) → slice_get b i ≡ Some part → place b i ≡ part
place_is b i part e = get_or_from_slice_get b i part everything e

pub no_axis : (system : Parts) (name : Text) (i : ℕ) (part : Bounds) → slice_get system.names i ≡ Some name → slice_get (map search_bounds system.domains) i ≡ Some part
    → (IsFinite part → ⊥) → HasNoAxis system name
no_axis system name i part named there infinite = unbounded i named (λ finite. infinite (subst IsFinite (place_is _ i part there) finite))

-- ---- Planes

pub no_plane_in : (before : Files) (system : Text) (s : Settings) (v : View) (parts : Parts) (rule : Method) → HasSystem before system parts → IsRuleFor parts s rule
    → HasNoPlane parts v.x.now v.y.now v.at.items → HasNoPlaneIn before system s v
no_plane_in before system s v parts rule read is none = record {
  rule = rule;
  read = record { system = parts; read = read; is = is };
  none = subst (λ (p : Parts). HasNoPlane p v.x.now v.y.now v.at.items) (sym is.system_is) none;
}

-- ---- Pictures

-- a system that was read has a domain for each name
pub dims_from : (before : Files) (system : Text) (s : Settings) (rule : Method) → HasRule before system s rule → length (search_box rule) ≡ dims_of rule
dims_from before system s rule h =
    let same : length h.system.domains ≡ length h.system.names = domains_named h.read.text h.system h.read.means in
    length-map rule.parts.system.domains search_bounds ∙ subst (λ (p : Parts). length p.domains ≡ length p.names) (sym h.is.system_is) same

pub fits_root : (rule : Method) (x y : Text) (at : List Extended) (plane : Plane) (root : List Bounds) → length root ≡ dims_of rule
    → IsPlaneOf rule.parts.system x y at plane → IsPlane plane (length root)
fits_root rule x y at plane root count h = subst (IsPlane plane) (sym count) h.fits

pub svg_comes : (before : Files) (system name : Text) (s : Settings) (limit : ℕ) (v : View) (scene : Scene) (root : List Bounds) (t : Tree) (p : Product) → IsScene before system s v scene
    → HasPaving before limit (method_of scene.settler) name t → root ≡ search_box (method_of scene.settler) → length root ≡ dims_of (method_of scene.settler)
    → (IsStage (settle_by (method_of scene.settler)) (method_of scene.settler).parts.depth (search_box (method_of scene.settler)) leaf t → IsHonest s (method_of scene.settler) t)
    → PicturesAreSound (is_member (method_of scene.settler)) → p ≡ text (picture_text (picture_of (plane_of scene.axes v.at.items) root t))
    → ComesOfSvg before system name s limit v p
svg_comes before system name s limit v scene root t p seen held at count honest pictures is =
    let rule = method_of scene.settler in
    let plane = plane_of scene.axes v.at.items in
    let fits : IsPlane plane (length (search_box rule)) = subst (λ (b : List Bounds). IsPlane plane (length b)) at (fits_root rule v.x.now v.y.now v.at.items plane root count seen.plane) in
    record {
      rule = rule;
      read = seen.read;
      plane = plane;
      shown = seen.plane;
      tree = t;
      held = held;
      sound = λ stage. λ point on off. pictures plane (search_box rule) t point fits held.paving.paving.paves (honest stage).sound on off;
      is = is ∙ ap (λ (b : List Bounds). text (picture_text (picture_of plane b t))) at;
    }
