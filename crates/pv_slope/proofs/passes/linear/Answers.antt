use Rattle.std.proofs.Common.{◌<◌, length, ap, sym, ◌∙◌, arith}
use Rattle.std.specs.Prelude.{if◌then◌else◌}
use Rattle.pv_hc4.specs.Nodes.{terms, term_at}
use Rattle.pv_slope.specs.Moving.{flag_at}
use Rattle.pv_slope.specs.SlopeTable.{zero_slope}
use Rattle.pv_slope.proofs.Still.{linear_more}
use Rattle.pv_slope.proofs.Walking.{read_at}
use Rattle.pv_slope.proofs.passes.linear.Goals as goal

pub loop-i-preserved : goal.loop-i-preserved
loop-i-preserved c =
    let found = c.slope_all.ensures.slopes in
    let root = c.requires.root in
    let enough = found.slopes_in in
    let inside : c.args.root < length c.slope_all.new.slopes = omega (arith, root, enough) in
    record {
      end = c.loop-i.invariant.end;
      moving_in = found.moving_in;
      slopes_in = found.slopes_in;
      sum = linear_more c.args.on.now.bx.now (term_at (terms c.args.on.now.nodes.now) c.args.root) c.loop-i.i c.loop-i.sum (if flag_at c.slope_all.new.moving c.args.root then c.index-slopes-root.result else zero_slope) c.added-sum.result c.loop-i.invariant.sum
          (ap (λ s. if flag_at c.slope_all.new.moving c.args.root then s else zero_slope) (read_at c.slope_all.new.slopes c.args.root c.index-slopes-root.result inside c.index-slopes-root.is) ∙ sym (found.each c.args.root root))
          c.added-sum.ensures;
    }
