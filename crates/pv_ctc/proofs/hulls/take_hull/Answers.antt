use Rattle.std.proofs.Common.{length, ap, ◌∙◌, refl}
use Rattle.pv_ctc.proofs.Boxes.{hulls_length, hull_more}
use Rattle.pv_ctc.proofs.hulls.take_hull.Goals as goal

pub loop-i-preserved : goal.loop-i-preserved
loop-i-preserved c = record {
  end = refl;
  dims = ap length c.hull.ensures ∙ hulls_length c.loop-i.hull c.index-found-i.result ∙ c.loop-i.invariant.dims;
  hull = hull_more c.args.found.now c.loop-i.i c.loop-i.hull c.hull.new.self c.index-found-i.result c.loop-i-test.true c.index-found-i.is c.hull.ensures ∙ c.loop-i.invariant.hull;
}
