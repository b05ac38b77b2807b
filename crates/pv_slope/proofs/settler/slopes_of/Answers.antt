use Rattle.std.proofs.Common.{◌+◌, length, take, ap, ◌∙◌}
use Rattle.std.specs.Prelude.{map}
use Rattle.pv_hc4.specs.Graphs.{sides_named}
use Rattle.pv_slope.specs.Matching.{all_match}
use Rattle.pv_slope.proofs.Matched.{match_more}
use Rattle.pv_slope.proofs.settler.slopes_of.Goals as goal

pub loop-i-preserved : goal.loop-i-preserved
loop-i-preserved c =
    let s = c.args.system.now in
    record {
      end = c.loop-i.invariant.end;
      dims = c.loop-i.invariant.dims;
      so_far = ap (λ ps. all_match (length s.names) ps (take (c.loop-i.i + 1) (map sides_named s.constraints))) c.in_ok-push.ensures.items
          ∙ match_more sides_named s.constraints (length s.names) c.loop-i.slopes.items c.loop-i.i c.constraint.result.now c.in_ok-of.field-0 c.constraint.ensures.found c.loop-i.invariant.so_far c.in_ok-of.ensures.term c.in_ok-of.ensures.relation (c.in_ok-of.ensures.dims ∙ c.loop-i.invariant.dims);
    }
