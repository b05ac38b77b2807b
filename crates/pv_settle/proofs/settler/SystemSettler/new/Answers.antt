use Rattle.std.proofs.Common.{subst}
use Rattle.pv_ctc.specs.Contracting.{sides_in}
use Rattle.pv_ctc.specs.Plans.{plan_of, IsFor}
use Rattle.pv_settle.proofs.Making.{rule_over, rule_count}
use Rattle.pv_settle.proofs.settler.SystemSettler.new.Goals as goal

pub invariant_of-result : goal.invariant_of-result
invariant_of-result c =
    let limits = c.constraint_count-constraints.ensures.limits in
    let graphs = c.in_ok-graphs.graphs in
    record {
      names_some = limits.some_names;
      names_few = limits.few_names;
      depth_some = c.requires.depth_some;
      depth_few = c.requires.depth_few;
      dims = c.in_ok-graphs.ensures.dims;
      over = rule_over _ graphs.dims (sides_in graphs) c.args.system.constraints c.in_ok-graphs.ensures.sides c.in_ok-graphs.ensures.dims limits.constraints_good;
      program_fits = subst (λ n. IsFor n (plan_of c.args.program)) (rule_count (sides_in graphs) c.args.system.constraints c.in_ok-graphs.ensures.sides) c.requires.program;
    }
