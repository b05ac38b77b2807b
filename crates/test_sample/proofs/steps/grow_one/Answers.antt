use Rattle.std.proofs.Common.{◌-◌, sym, ◌∙◌, ap, subst}
use Rattle.pv_tree.specs.Trees.{Fits, CutsAbove}
use Rattle.pv_tree.proofs.StageLaws.{depth_from}
use Rattle.test_sample.proofs.Growing.{next_some, next_takes}
use Rattle.test_sample.proofs.steps.grow_one.Goals as goal

pub write_box-requires-clause-some : goal.write_box-requires-clause-some
write_box-requires-clause-some g c = next_some c.args.growth.now c.args.path c.requires.next

pub settle-requires : goal.settle-requires
settle-requires g c = c.write_box.ensures.places ∙ c.requires.scratch ∙ c.requires.dims

pub settle-requires-2 : goal.settle-requires-2
settle-requires-2 g c =
    let s = c.args.settler.now in let m = g.met.S.Settler in
    let size = c.write_box.ensures.places ∙ c.requires.scratch ∙ c.requires.dims in
    next_takes c.args.growth.now c.args.path c.write_box.new.into c.in_ok-outcome.outcome c.requires.next c.write_box.ensures.is
    (subst (Fits c.write_box.new.into) (sym c.in_ok-outcome.ensures) (m.fits s c.write_box.new.into c.saturating_sub-cuts_left.result c.len-steps.result c.dims-sides.ensures.is_box size))
    (depth_from c.args.path c.in_ok-outcome.outcome (g.S.Settler.depth_of s) c.saturating_sub-cuts_left.result (m.depth_fits s).1
    (c.saturating_sub-cuts_left.ensures ∙ ap (λ n. n - c.len-steps.result) c.depth.ensures ∙ ap (λ n. g.S.Settler.depth_of s - n) c.len-steps.ensures.count)
    (subst (CutsAbove c.saturating_sub-cuts_left.result) (sym c.in_ok-outcome.ensures) (m.ends s c.write_box.new.into c.saturating_sub-cuts_left.result c.len-steps.result c.dims-sides.ensures.is_box size)))
