use Rattle.std.proofs.Common.{arith, ◌+◌, ◌<◌, length, drop, sym, refl}
use Rattle.pv_box.specs.QHull.{column, is_in_enough}
use Rattle.pv_box.proofs.Columns.{column_end, column_row, greatest_step, greatest_none}
use Rattle.pv_box.proofs.hull.+greatest_upper_end.Goals as goal

pub returns-then-at-boxes : goal.returns-then-at-boxes
returns-then-at-boxes t c =
    sym (greatest_none c.args.q (column c.args.i c.args.boxes.now) (drop c.args.at (column c.args.i c.args.boxes.now))
    (column_end c.args.i c.args.boxes.now c.args.at c.if-at-boxes.true))

pub returns : goal.returns
returns t c =
    let within : c.args.at < length c.args.boxes.now = omega arith in
    let e = column_row c.args.i c.args.boxes.now c.args.at c.index-boxes-at.result c.get.result within c.index-boxes-at.is
    (c.requires.places c.args.at c.index-boxes-at.result within) c.get.ensures.value in
    let all = column c.args.i c.args.boxes.now in
    greatest_step c.args.q all (drop c.args.at all) (drop (c.args.at + 1) all) c.get.result c.raised.result c.greatest_upper_end-best.result
    (is_in_enough c.args.q all c.hi-end.result) c.hi-end.result e c.raised.ensures refl c.hi-end.ensures.value c.greatest_upper_end-best.ensures
