use Rattle.std.proofs.Common.{arith, length, ap, ◌∙◌, ◌<◌}
use Rattle.pv_box.proofs.Hulls.{hull_places, hull_done, hull_left}
use Rattle.pv_box.proofs.boxes.IBox.hull.Goals as goal
use Rattle.std.proofs.Math.ListN.{length-set}

pub loop-i-preserved : goal.loop-i-preserved
loop-i-preserved c =
    let within : c.loop-i.i < length c.loop-i.self = omega arith in
    let other : c.loop-i.i < length c.args.other.now = omega arith in
    record {
      dims = ap length c.set.ensures ∙ length-set c.loop-i.self c.loop-i.i c.hull-part.result ∙ c.loop-i.invariant.dims;
      done = hull_done c.args.self.now c.args.other.now c.loop-i.self c.set.new.self c.loop-i.i c.hull-part.result c.get.result c.get-in-loop-i.result
          c.set.ensures within other c.hull-part.ensures.value c.get.ensures.value c.get-in-loop-i.ensures.value
          c.loop-i.invariant.done c.loop-i.invariant.left;
      left = hull_left c.args.self.now c.loop-i.self c.set.new.self c.loop-i.i c.hull-part.result c.set.ensures c.loop-i.invariant.left;
    }

pub returns : goal.returns
returns c = hull_places c.args.self.now c.args.other.now c.loop-i.self c.requires c.loop-i.invariant.dims
    (λ k d l. c.loop-i.invariant.done k d (omega arith))
