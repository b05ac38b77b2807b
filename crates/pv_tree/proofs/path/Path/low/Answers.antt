use Rattle.std.proofs.Common.{◌≡◌, length, arith, sym, ap, ◌∙◌}
use Rattle.pv_tree.specs.Paths.{count-steps_of}
use Rattle.pv_tree.proofs.PathSteps.{low_steps}
use Rattle.pv_tree.proofs.path.Path.low.Goals as goal

pub invariant_of-result : goal.invariant_of-result
invariant_of-result c =
    let e : length c.args.self ≡ c.self.inside.len = sym (ap length c.self.view_is) ∙ count-steps_of c.self.inside c.self.invariant in
    record {
      size = c.self.invariant.size;
      few = omega arith;
      fits = c.self.invariant.fits;
      padding = λ i le. c.self.invariant.padding i (omega arith);
    }

pub returns : goal.returns
returns c = rw (← c.self.view_is) (low_steps c.self.inside.words c.self.inside.len (c.self.invariant.padding c.self.inside.len (omega arith)))
