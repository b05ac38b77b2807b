use Rattle.std.proofs.Common.{arith, ◌∙◌, ◌-◌}
use Rattle.pv_parse.specs.Views.{view}
use Rattle.pv_parse.proofs.Same.{no_variables, one_more}
use Rattle.pv_parse.proofs.names.Names.of_system.Goals as goal

pub loop-i-init : goal.loop-i-init
loop-i-init c = record {
  within = omega (arith, c.variable_count-i.ensures.count);
  same = no_variables c.args.system.now.names c.variable_count-i.result (view c.new-names.result) (omega (arith, c.variable_count-i.ensures.count)) c.new-names.ensures;
}

pub loop-i-preserved : goal.loop-i-preserved
loop-i-preserved c = record {
  within = omega (arith, c.loop-i.invariant.within);
  same = one_more c.args.system.now.names c.loop-i.i (c.loop-i.i - 1) c.name.result.now c.in_ok-name.name.items (view c.loop-i.names) (view c.know.new.self)
      (omega (arith, c.loop-i-test.true)) c.name.ensures (c.in_ok-name.ensures.items ∙ c.as_bytes.ensures.value) c.loop-i.invariant.same c.in_ok-know.ensures;
}
