use Rattle.std.proofs.Common.{◌≡◌, ◌<◌, length, arith, sym, ap, ◌∙◌, length-set}
use Rattle.pv_tree.specs.Paths.{count-steps_of}
use Rattle.pv_tree.proofs.PathSteps.{high_steps, high_padding, high_fits}
use Rattle.pv_tree.proofs.path.Path.high.Goals as goal

pub invariant_of-result : goal.invariant_of-result
invariant_of-result c =
    let e : length c.args.self ≡ c.self.inside.len = sym (ap length c.self.view_is) ∙ count-steps_of c.self.inside c.self.invariant in
    let lt : c.self.inside.len < 200 = omega arith in
    record {
      size = length-set c.self.inside.words _ _ ∙ c.self.invariant.size;
      few = omega arith;
      fits = high_fits c.self.inside.words c.self.inside.len c.self.invariant.size lt c.self.invariant.fits;
      padding = high_padding c.self.inside.words c.self.inside.len c.self.invariant.size lt c.self.invariant.padding;
    }

pub returns : goal.returns
returns c =
    let e : length c.args.self ≡ c.self.inside.len = sym (ap length c.self.view_is) ∙ count-steps_of c.self.inside c.self.invariant in
    let lt : c.self.inside.len < 200 = omega arith in
    rw (← c.self.view_is) (high_steps c.self.inside.words c.self.inside.len c.self.invariant.size lt)
