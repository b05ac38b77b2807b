use Rattle.std.proofs.Common.{◌≡◌, ◌<◌, length, refl, sym, ◌∙◌, arith}
use Rattle.std.proofs.lemmas.List.{take_more_same, get_or_read_under}
use Rattle.pv_interval.proofs.Alike.{not_apart}
use Rattle.pv_box.proofs.boxes.IBox.is_same.Goals as goal

pub loop-i-preserved : goal.loop-i-preserved
loop-i-preserved c =
    let one : c.loop-i.i < length c.args.self.now = omega (arith, c.loop-i-test.true, c.loop-i.auto.i-end, c.dims-i-end.ensures.dims) in
    let two : c.loop-i.i < length c.args.other.now = omega (arith, one, c.dims.ensures.dims, c.dims-2.ensures.dims, c.if-dims.false) in
    let same : c.get.result ≡ c.get-in-loop-i.result = not_apart c.get.result c.get-in-loop-i.result c.ne.result c.ne.ensures c.if-ne.false in
    take_more_same c.args.self.now c.args.other.now c.loop-i.i c.get.result one two c.loop-i.invariant
    (sym c.get.ensures.value ∙ same ∙ get_or_read_under c.args.other.now c.loop-i.i (length c.args.other.now) c.get-in-loop-i.result c.get.result c.get-in-loop-i.ensures.value two refl)
