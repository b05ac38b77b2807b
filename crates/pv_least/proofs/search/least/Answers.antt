use Rattle.std.proofs.Common.{◌≡◌, length}
use Rattle.pv_tree.specs.Laws.{IsLawful}
use Rattle.pv_least.specs.Objectives.{aim_of}
use Rattle.pv_least.proofs.Searching.{last_lower, last_best, last_settled, last_done, last_open}
use Rattle.pv_least.proofs.Ending.{lower_holds, witness_holds}
use Rattle.pv_least.proofs.search.least.Goals as goal

pub returns-clause-lower : goal.returns-clause-lower
returns-clause-lower g c =
    let s = c.args.settler.now in let e = c.in_ok-found.ensures in
    last_lower (g.S.Settler.settle_of s) (g.S.Settler.depth_of s) (aim_of c.args.objective.now) c.args.root.now c.args.budget e.growth c.in_ok-found.found e.search
    e.none

pub returns-clause-best : goal.returns-clause-best
returns-clause-best g c =
    let s = c.args.settler.now in let e = c.in_ok-found.ensures in
    last_best (g.S.Settler.settle_of s) (g.S.Settler.depth_of s) (aim_of c.args.objective.now) c.args.root.now c.args.budget e.growth c.in_ok-found.found e.search
    e.none

pub returns-clause-settled : goal.returns-clause-settled
returns-clause-settled g c =
    let s = c.args.settler.now in let e = c.in_ok-found.ensures in
    last_settled (g.S.Settler.settle_of s) (g.S.Settler.depth_of s) (aim_of c.args.objective.now) c.args.root.now c.args.budget e.growth c.in_ok-found.found e.search
    e.none

pub returns-clause-done : goal.returns-clause-done
returns-clause-done g c =
    let s = c.args.settler.now in let e = c.in_ok-found.ensures in (
      last_done (g.S.Settler.settle_of s) (g.S.Settler.depth_of s) (aim_of c.args.objective.now) c.args.root.now c.args.budget e.growth c.in_ok-found.found e.search e.none,
      last_open (g.S.Settler.settle_of s) (g.S.Settler.depth_of s) (aim_of c.args.objective.now) c.args.root.now c.args.budget e.growth c.in_ok-found.found e.search e.none,
    )

pub returns-clause-none_below : goal.returns-clause-none_below
returns-clause-none_below g c =
    let s = c.args.settler.now in let e = c.in_ok-found.ensures in let m = g.met.S.Settler in
    let rule = g.S.Settler.settle_of s in let depth = g.S.Settler.depth_of s in
    let dims = g.S.Settler.dims s in let inside = g.S.Settler.inside s in
    let laws : IsLawful rule depth dims inside = record { deep = (m.depth_fits s).1; fits = m.fits s; keeps_box = m.keeps_box s; ends = m.ends s; sound = m.sound s } in
    lower_holds rule depth dims inside laws (aim_of c.args.objective.now) c.args.objective.now.dims c.learn.ensures c.args.root.now c.dims-places.ensures.is_box
    c.requires.settler_dims c.requires.objective_dims c.args.budget e.growth c.in_ok-found.found e.search e.none

pub returns-clause-witness : goal.returns-clause-witness
returns-clause-witness g c =
    let s = c.args.settler.now in let e = c.in_ok-found.ensures in let m = g.met.S.Settler in
    let rule = g.S.Settler.settle_of s in let depth = g.S.Settler.depth_of s in
    let dims = g.S.Settler.dims s in let inside = g.S.Settler.inside s in
    let laws : IsLawful rule depth dims inside = record { deep = (m.depth_fits s).1; fits = m.fits s; keeps_box = m.keeps_box s; ends = m.ends s; sound = m.sound s } in
    witness_holds rule depth dims inside laws (aim_of c.args.objective.now) c.args.objective.now.dims c.learn.ensures c.args.root.now c.dims-places.ensures.is_box
    c.requires.settler_dims c.requires.objective_dims c.args.budget e.growth c.in_ok-found.found e.search
