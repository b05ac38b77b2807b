use Rattle.pv_tree.specs.Laws.{IsLawful}
use Rattle.pv_rounds.proofs.Spending.{no_budget, add_up}
use Rattle.pv_rounds.proofs.Ordered.{in_order}
use Rattle.pv_rounds.proofs.rounds.learn_rounds.Goals as goal

pub returns-clause-none : goal.returns-clause-none
returns-clause-none g c =
    let s = c.args.settler.now in let m = g.met.S.Settler in
    let rule = g.S.Settler.settle_of s in let depth = g.S.Settler.depth_of s in
    let dims = g.S.Settler.dims s in let inside = g.S.Settler.inside s in
    let laws : IsLawful rule depth dims inside = record { deep = (m.depth_fits s).1; fits = m.fits s; keeps_box = m.keeps_box s; ends = m.ends s; sound = m.sound s } in
    no_budget rule depth dims inside laws c.args.paving.now.root c.dims-places.ensures.paving.box c.requires c.args.paving.now.tree c.dims-places.ensures.paving
    c.dims-places.ensures.covers

pub returns-clause-further : goal.returns-clause-further
returns-clause-further g c =
    let s = c.args.settler.now in let m = g.met.S.Settler in
    let rule = g.S.Settler.settle_of s in let depth = g.S.Settler.depth_of s in
    let dims = g.S.Settler.dims s in let inside = g.S.Settler.inside s in
    let laws : IsLawful rule depth dims inside = record { deep = (m.depth_fits s).1; fits = m.fits s; keeps_box = m.keeps_box s; ends = m.ends s; sound = m.sound s } in
    add_up rule depth dims inside laws c.args.paving.now.root c.dims-places.ensures.paving.box c.requires

pub returns-clause-unordered : goal.returns-clause-unordered
returns-clause-unordered g c = λ order. in_order order c.args.paving.now.tree
