use Rattle.std.proofs.Common.{◌≡◌, rules, length, ◌∙◌, ap}
use Rattle.pv_svg.specs.Rectangles.{picture_of}
use Rattle.pv_svg.specs.Texts.{picture_text}
use Rattle.pv_slope.specs.Methods.{method_of, identity_of}
use Rattle.pv_rule.specs.Systems.{files, search_box}
use Rattle.pv_product.specs.Files.{HoldsPaving, RefusesFile}
use Rattle.pv_product.specs.Products.{text}
use Rattle.pv_view.specs.Scenes.{plane_of}
use Rattle.pv_opening.proofs.Earlier.{by_key, paving_before, refused_before}
use Rattle.pv_product.proofs.OnlyRead.{only_read_on}
use Rattle.pv_view.proofs.Drawn.{scene_refused, picture_refused}
use Rattle.pv_view.proofs.Planes.{svg_comes, dims_from}
use Rattle.pv_view.proofs.svg.svg.Goals as goal

pub returns-in-Err-clause-refused : goal.returns-in-Err-clause-refused
returns-in-Err-clause-refused g c =
    let before = (files (g.F.Folder.content c.args.folder.now) (g.F.Folder.fetch_faults c.args.folder.now) (g.F.Folder.store_faults c.args.folder.now)) in
    let after = (files (g.F.Folder.content c.scene_in.new.folder) (g.F.Folder.fetch_faults c.scene_in.new.folder) (g.F.Folder.store_faults c.scene_in.new.folder)) in
    scene_refused before after c.args.system.now c.args.settings.now c.args.view.now c.args.limit c.args.name.now c.in-Err.refusal c.in-Err.ensures.refused

pub returns-in-Err-paving_in-clause-refused : goal.returns-in-Err-paving_in-clause-refused
returns-in-Err-paving_in-clause-refused g c =
    let before = (files (g.F.Folder.content c.args.folder.now) (g.F.Folder.fetch_faults c.args.folder.now) (g.F.Folder.store_faults c.args.folder.now)) in
    let mid = (files (g.F.Folder.content c.scene_in.new.folder) (g.F.Folder.fetch_faults c.scene_in.new.folder) (g.F.Folder.store_faults c.scene_in.new.folder)) in
    let after = (files (g.F.Folder.content c.paving_in.new.folder) (g.F.Folder.fetch_faults c.paving_in.new.folder) (g.F.Folder.store_faults c.paving_in.new.folder)) in
    let rule = method_of c.in-Ok.scene.settler in
    let seen = c.in-Ok.ensures.scene in
    let key = c.in_ok-key.ensures in
    picture_refused before after c.args.system.now c.args.settings.now c.args.view.now c.args.limit c.args.name.now c.in-Err-paving_in.refusal
    (record {
      rule = rule;
      read = seen.read;
      plane = plane_of c.in-Ok.scene.axes c.args.view.now.at.items;
      shown = seen.plane;
      refused = refused_before before mid c.in-Ok.ensures.read c.args.limit after (identity_of rule) (search_box rule) c.args.name.now c.in-Err-paving_in.refusal
          (by_key (λ n i x. RefusesFile mid after n i x c.args.name.now c.in-Err-paving_in.refusal) c.args.limit rule c.in_ok-key.key key c.in-Err-paving_in.ensures.refused);
    })

pub returns-clause-read : goal.returns-clause-read
returns-clause-read g c = only_read_on _ _ _ c.in-Ok.ensures.read c.in-Ok-paving_in.ensures.read

pub returns-clause-comes : goal.returns-clause-comes
returns-clause-comes g c =
    let before = (files (g.F.Folder.content c.args.folder.now) (g.F.Folder.fetch_faults c.args.folder.now) (g.F.Folder.store_faults c.args.folder.now)) in
    let mid = (files (g.F.Folder.content c.scene_in.new.folder) (g.F.Folder.fetch_faults c.scene_in.new.folder) (g.F.Folder.store_faults c.scene_in.new.folder)) in
    let rule = method_of c.in-Ok.scene.settler in
    let seen = c.in-Ok.ensures.scene in
    let t = c.in-Ok-paving_in.paving.tree in
    let root = c.in-Ok-paving_in.ensures.root ∙ c.in_ok-key.ensures.root in
    let same : c.deref.result.now ≡ c.args.view.now.at.items = search rules in
    svg_comes before c.args.system.now c.args.name.now c.args.settings.now c.args.limit c.args.view.now c.in-Ok.scene c.in-Ok-paving_in.paving.root t _ seen
    (paving_before before mid c.in-Ok.ensures.read c.args.limit (identity_of rule) (search_box rule) c.args.name.now t
    (by_key (λ n i x. HoldsPaving mid n i x c.args.name.now t) c.args.limit rule c.in_ok-key.key c.in_ok-key.ensures c.in-Ok-paving_in.ensures.paving))
    root (ap length root ∙ dims_from before c.args.system.now c.args.settings.now rule seen.read)
    (c.learn_honest.ensures.honest seen.read.system c.args.settings.now seen.read.is)
    c.pictures_are_sound.ensures
    (ap (λ d. text (picture_text d)) (c.in_ok-picture.ensures ∙ ap (λ at. picture_of (plane_of c.in-Ok.scene.axes at) c.in-Ok-paving_in.paving.root t) same))
