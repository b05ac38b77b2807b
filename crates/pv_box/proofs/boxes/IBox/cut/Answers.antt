use Rattle.std.proofs.Common.{◌≡◌}
use Rattle.pv_box.proofs.Halves.{is_lower, is_upper}
use Rattle.pv_box.proofs.boxes.IBox.cut.Goals as goal

pub returns : goal.returns
returns c =
    let low : c.between.result ≡ record { lo = c.get-part.result.lo; hi = c.args.at } = cc in
    let high : c.between-2.result ≡ record { lo = c.args.at; hi = c.get-part.result.hi } = cc in record {
      low = is_lower c.args.self.now _ _ c.args.var c.args.at c.get-part.result _ c.in_ok-low.ensures c.requires.var c.get-part.ensures.value low c.set.ensures;
      high = is_upper c.args.self.now _ _ c.args.var c.args.at c.get-part.result _ c.in_ok-high.ensures c.requires.var c.get-part.ensures.value high c.set-2.ensures;
    }
