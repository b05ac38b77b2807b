use Rattle.std.proofs.Common.{arith, ◌+◌, ◌<◌, length, drop, sym, ◌∙◌}
use Rattle.pv_box.specs.QHull.{column}
use Rattle.pv_box.proofs.Columns.{column_end, column_row, count_yes, count_no, count_end}
use Rattle.pv_box.proofs.hull.+count_holding.Goals as goal

pub returns-then-at-boxes-clause-count : goal.returns-then-at-boxes-clause-count
returns-then-at-boxes-clause-count t c =
    sym (count_end c.args.n (drop c.args.at (column c.args.i c.args.boxes.now)) (column_end c.args.i c.args.boxes.now c.args.at c.if-at-boxes.true))

pub returns-then-contains-clause-count : goal.returns-then-contains-clause-count
returns-then-contains-clause-count t c =
    let within : c.args.at < length c.args.boxes.now = omega arith in
    let e = column_row c.args.i c.args.boxes.now c.args.at c.index-boxes-at.result c.get.result within c.index-boxes-at.is
    (c.requires.places c.args.at c.index-boxes-at.result within) c.get.ensures.value in
    let all = column c.args.i c.args.boxes.now in
    count_yes c.args.n (drop c.args.at all) (drop (c.args.at + 1) all) c.get.result c.count_holding-later.result e c.count_holding-later.ensures.count
    (sym c.contains.ensures ∙ c.if-contains.true)

pub returns-else-contains-clause-count : goal.returns-else-contains-clause-count
returns-else-contains-clause-count t c =
    let within : c.args.at < length c.args.boxes.now = omega arith in
    let e = column_row c.args.i c.args.boxes.now c.args.at c.index-boxes-at.result c.get.result within c.index-boxes-at.is
    (c.requires.places c.args.at c.index-boxes-at.result within) c.get.ensures.value in
    let all = column c.args.i c.args.boxes.now in
    count_no c.args.n (drop c.args.at all) (drop (c.args.at + 1) all) c.get.result c.count_holding-later.result e c.count_holding-later.ensures.count
    (sym c.contains.ensures ∙ c.if-contains.false)
