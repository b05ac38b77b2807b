use Rattle.pv_tree.proofs.StageLaws.{stage_sound, whole_stage, opening_stage, grows_paves, full_of_paves}
use Rattle.pv_tree.proofs.paving.Paving.learn_stages.Goals as goal

pub returns-clause-open_stage : goal.returns-clause-open_stage
returns-clause-open_stage g c =
    let s = c.args.settler.now in let m = g.met.S.Settler in
    opening_stage (g.S.Settler.settle_of s) (g.S.Settler.depth_of s) (g.S.Settler.dims s) (g.S.Settler.inside s)
    (record { deep = (m.depth_fits s).1; fits = m.fits s; keeps_box = m.keeps_box s; ends = m.ends s; sound = m.sound s }) c.args.self.now.root

pub returns-clause-sound : goal.returns-clause-sound
returns-clause-sound g c opening t paves sound stage =
    let s = c.args.settler.now in let m = g.met.S.Settler in
    stage_sound (g.S.Settler.settle_of s) (g.S.Settler.depth_of s) (g.S.Settler.dims s) (g.S.Settler.inside s)
    (record { deep = (m.depth_fits s).1; fits = m.fits s; keeps_box = m.keeps_box s; ends = m.ends s; sound = m.sound s }) c.args.self.now.root opening t c.dims-places.ensures.paving.box c.requires paves sound stage

pub returns-clause-paves : goal.returns-clause-paves
returns-clause-paves g c opening t paves stage =
    let s = c.args.settler.now in let m = g.met.S.Settler in
    grows_paves c.args.self.now.root t _ stage.grows
    (full_of_paves (g.S.Settler.settle_of s) (g.S.Settler.depth_of s) (g.S.Settler.dims s) (g.S.Settler.inside s)
    (record { deep = (m.depth_fits s).1; fits = m.fits s; keeps_box = m.keeps_box s; ends = m.ends s; sound = m.sound s }) c.args.self.now.root opening 0 c.dims-places.ensures.paving.box c.requires paves)

pub returns-clause-whole : goal.returns-clause-whole
returns-clause-whole g c opening t stage none =
    let s = c.args.settler.now in let m = g.met.S.Settler in
    whole_stage (g.S.Settler.settle_of s) (g.S.Settler.depth_of s) (g.S.Settler.dims s) (g.S.Settler.inside s)
    (record { deep = (m.depth_fits s).1; fits = m.fits s; keeps_box = m.keeps_box s; ends = m.ends s; sound = m.sound s }) c.args.self.now.root opening t stage none
