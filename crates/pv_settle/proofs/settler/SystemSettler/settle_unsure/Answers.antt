use Rattle.std.proofs.Common.{sym, ◌∙◌}
use Rattle.pv_settle.specs.Choosing.{chosen_inside}
use Rattle.pv_settle.specs.Settlers.{rule_of}
use Rattle.pv_settle.proofs.Halving.{lower_part, upper_part}
use Rattle.pv_settle.proofs.settler.SystemSettler.settle_unsure.Goals as goal

pub returns-in-Some-clause-known : goal.returns-in-Some-clause-known
returns-in-Some-clause-known c =
    let to = c.args.to in
    let v = c.in-Some.choice.0 in
    let a = c.in-Some.choice.1 in
    let inside = chosen_inside (rule_of c.args.self.now).bisector c.args.path_len to v a (sym c.choose.ensures.choice ∙ c.in-Some.is) in (
      c.after_cut-known.ensures to _ c.requires.known (lower_part to v a c.dims-places.ensures.is_box inside),
      c.after_cut-known.ensures to _ c.requires.known (upper_part to v a c.dims-places.ensures.is_box inside),
    )
