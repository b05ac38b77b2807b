use Rattle.std.proofs.Common.{◌≡◌, length, arith}
use Rattle.pv_file.proofs.Ends.{put_length}
use Rattle.pv_file.proofs.outcome_line.read_kept.Goals as goal

pub new-requires-clause-some : goal.new-requires-clause-some
new-requires-clause-some c =
    let n : length c.read_ends.new.parts.items ≡ length c.args.bx.now = put_length _ _ _ _ _ c.in_ok-parts.ensures.items (c.in_ok-read_ends.ensures.sound c.if-branch.true) in
    omega (arith, n, c.dims.ensures.is_box.some)

pub new-requires-clause-few : goal.new-requires-clause-few
new-requires-clause-few c =
    let n : length c.read_ends.new.parts.items ≡ length c.args.bx.now = put_length _ _ _ _ _ c.in_ok-parts.ensures.items (c.in_ok-read_ends.ensures.sound c.if-branch.true) in
    omega (arith, n, c.dims.ensures.is_box.few)
