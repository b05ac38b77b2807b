use Rattle.pv_tree.specs.Laws.{IsLawful}
use Rattle.pv_tree.proofs.StageLaws.{whole_stage}
use Rattle.pv_workers.proofs.Budgets.{fits_of, spent_of}
use Rattle.pv_scope.proofs.levels.learn_spent.Goals as goal

pub returns : goal.returns
returns g c = λ opening budget paves stage spent.
    let s = c.args.settler.now in let m = g.met.S.Settler in
    let rule = g.S.Settler.settle_of s in let depth = g.S.Settler.depth_of s in
    let dims = g.S.Settler.dims s in let inside = g.S.Settler.inside s in
    let b = c.args.paving.now.root in let t = c.args.paving.now.tree in
    let laws : IsLawful rule depth dims inside = record { deep = (m.depth_fits s).1; fits = m.fits s; keeps_box = m.keeps_box s; ends = m.ends s; sound = m.sound s } in
    record {
      paving = c.dims-places.ensures.paving;
      covers = c.dims-places.ensures.covers;
      stage = stage;
      fits = fits_of rule depth dims inside laws b opening t budget c.dims-places.ensures.paving.box c.requires paves stage spent;
      full = λ none. whole_stage rule depth dims inside laws b opening t stage none;
      spent = spent_of budget opening t spent;
    }
