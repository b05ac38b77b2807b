use Rattle.std.proofs.Common.{rules, arith, ◌≡◌, ◌+◌, ◌<◌, length, true, false, sym, ◌∙◌, ap, subst}
use Rattle.pv_num.specs.Order.{lt}
use Rattle.pv_box.specs.Choice.{IsWidestBelow, width_at}
use Rattle.pv_box.proofs.Chosen.{wider_place, same_place, width_read, compared}
use Rattle.pv_box.proofs.boxes.IBox.widest_place.Goals as goal
use Rattle.pv_box.proofs.boxes.IBox.widest_place.Goals.{then-lt, else-lt}

pub loop-i-preserved : goal.loop-i-preserved
loop-i-preserved c =
    let b = c.args.self.now in
    let within : c.loop-i.i < length b = let d = c.dims-dims.ensures.dims in let t = c.loop-i-test.true in omega (arith, d, t) in
    let other : c.width-other.result ≡ width_at b c.loop-i.i = c.width-other.ensures ∙ width_read b c.loop-i.i c.get-in-loop-i.result within c.get-in-loop-i.ensures.value in
    elim c.if-lt.branch [
      | then-lt w ↦
          let t : lt c.loop-i.width c.width-other.result ≡ true = search rules in
          record {
            wide = subst (IsWidestBelow (c.loop-i.i + 1) b) (sym w.widest-is) (wider_place c.loop-i.i b c.loop-i.widest c.loop-i.invariant.wide (compared c.loop-i.width c.width-other.result _ _ true c.loop-i.invariant.is other t));
            is = w.width-is ∙ other ∙ ap (width_at b) (sym w.widest-is);
          }
      | else-lt w ↦
          let t : lt c.loop-i.width c.width-other.result ≡ false = search rules in
          record {
            wide = subst (IsWidestBelow (c.loop-i.i + 1) b) (sym w.widest-is) (same_place c.loop-i.i b c.loop-i.widest c.loop-i.invariant.wide (compared c.loop-i.width c.width-other.result _ _ false c.loop-i.invariant.is other t));
            is = w.width-is ∙ c.loop-i.invariant.is ∙ ap (width_at b) (sym w.widest-is);
          }
    ]
