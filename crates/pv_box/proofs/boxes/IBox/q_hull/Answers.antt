use Rattle.std.proofs.Common.{arith, ◌<◌, length, get_or, [], ap, ◌∙◌, sym}
use Rattle.std.proofs.Math.ListN.{length-set}
use Rattle.pv_box.proofs.Places.{place_done, hull_found, hull_missing, first_length}
use Rattle.pv_box.proofs.boxes.IBox.q_hull.Goals as goal

pub returns-in-None : goal.returns-in-None
returns-in-None c =
    let e = first_length c.args.boxes.now c.in_ok-hull.hull c.index-boxes-0.result c.requires.some c.in_ok-hull.ensures c.index-boxes-0.is in
    let l : c.loop-i.i < length (get_or c.args.boxes.now 0 []) = omega (arith, e) in
    hull_missing c.args.q c.args.boxes.now c.loop-i.i l (sym c.place_hull.ensures ∙ c.in-None.is)

pub loop-i-preserved : goal.loop-i-preserved
loop-i-preserved c =
    let e = first_length c.args.boxes.now c.in_ok-hull.hull c.index-boxes-0.result c.requires.some c.in_ok-hull.ensures c.index-boxes-0.is in
    let l : c.loop-i.i < length c.loop-i.hull = omega (arith, e) in
    record {
      dims = ap length c.set.ensures ∙ length-set c.loop-i.hull c.loop-i.i c.in-Some.part ∙ c.loop-i.invariant.dims;
      done = place_done c.args.q c.args.boxes.now c.loop-i.hull c.set.new.self c.loop-i.i c.in-Some.part c.set.ensures l
          (sym c.place_hull.ensures ∙ c.in-Some.is) c.loop-i.invariant.done;
    }

pub returns : goal.returns
returns c =
    let e = first_length c.args.boxes.now c.in_ok-hull.hull c.index-boxes-0.result c.requires.some c.in_ok-hull.ensures c.index-boxes-0.is in
    hull_found c.args.q c.args.boxes.now c.loop-i.hull c.loop-i.invariant.dims
    (λ k d l. c.loop-i.invariant.done k d (omega (arith, e)))
