use Rattle.std.proofs.Common.{[], arith}
use Rattle.pv_code.specs.Expansion.{below, run}
use Rattle.pv_code.specs.Values.{at}
use Rattle.pv_code.proofs.value.nodes_with.Goals as goal

pub returns : goal.returns
returns c = λ ms m r.
    let right = c.in_ok-right.ensures (at c.args.functions.now ms [] c.args.code.now) (run ms [] c.args.code.now []) (c.in_ok-sides.ensures ms []) in
    let left = c.in_ok-left.ensures (at c.args.functions.now ms [] c.args.code.now) (below (run ms [] c.args.code.now [])) right.1 in
    c.with_sides.ensures _ _ r (left.0.size c.requires m (omega arith)) (right.0.size c.requires m (omega arith))
