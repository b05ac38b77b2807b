use Rattle.test_board.proofs.stages.opens_with.Goals as goal

pub opens-requires-clause-fits : goal.opens-requires-clause-fits
opens-requires-clause-fits g c =
    let s = c.args.settler.now in let m = g.met.S.Settler in
    record { some = (m.depth_fits s).0; few = (m.depth_fits s).1; fits = m.fits s; keeps_box = m.keeps_box s; ends = m.ends s }
