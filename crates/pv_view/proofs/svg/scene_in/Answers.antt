use Rattle.pv_slope.specs.Methods.{method_of}
use Rattle.pv_rule.specs.Systems.{files}
use Rattle.pv_view.proofs.Planes.{no_plane_in}
use Rattle.pv_view.proofs.svg.scene_in.Goals as goal

pub returns-in-None-clause-refused : goal.returns-in-None-clause-refused
returns-in-None-clause-refused g c =
    no_plane_in (files (g.F.Folder.content c.args.folder.now) (g.F.Folder.fetch_faults c.args.folder.now) (g.F.Folder.store_faults c.args.folder.now)) c.args.name.now c.args.settings.now
    c.args.view.now c.in-Ok.system (method_of c.in-Ok-settler_for.settler) c.in-Ok.ensures.system c.in-Ok-settler_for.ensures.rule c.in-None.ensures
