use Rattle.std.proofs.Common.{◌-◌, sym, ◌∙◌, ap, subst}
use Rattle.pv_tree.specs.Trees.{Fits, CutsAbove}
use Rattle.pv_tree.proofs.StageLaws.{depth_from}
use Rattle.test_sample.proofs.steps.settle_one.Goals as goal

pub settle-requires : goal.settle-requires
settle-requires g c = c.box_at.ensures.places ∙ c.requires.scratch ∙ c.requires.dims

pub put_in_room-requires-clause-fits : goal.put_in_room-requires-clause-fits
put_in_room-requires-clause-fits g c =
    let s = c.args.settler.now in let m = g.met.S.Settler in
    let size = c.box_at.ensures.places ∙ c.requires.scratch ∙ c.requires.dims in
    subst (λ b. Fits b c.in_ok-outcome.outcome) c.box_at.ensures.is
    (subst (Fits c.box_at.new.into) (sym c.in_ok-outcome.ensures) (m.fits s c.box_at.new.into c.saturating_sub-cuts_left.result c.len-steps.result c.dims-sides.ensures.is_box size))

pub put_in_room-requires-clause-depth : goal.put_in_room-requires-clause-depth
put_in_room-requires-clause-depth g c =
    let s = c.args.settler.now in let m = g.met.S.Settler in
    let size = c.box_at.ensures.places ∙ c.requires.scratch ∙ c.requires.dims in
    depth_from c.args.path c.in_ok-outcome.outcome (g.S.Settler.depth_of s) c.saturating_sub-cuts_left.result (m.depth_fits s).1
    (c.saturating_sub-cuts_left.ensures ∙ ap (λ n. n - c.len-steps.result) c.depth.ensures ∙ ap (λ n. g.S.Settler.depth_of s - n) c.len-steps.ensures.count)
    (subst (CutsAbove c.saturating_sub-cuts_left.result) (sym c.in_ok-outcome.ensures) (m.ends s c.box_at.new.into c.saturating_sub-cuts_left.result c.len-steps.result c.dims-sides.ensures.is_box size))
