use Rattle.std.proofs.Common.{◌≡◌, ℕ, ◌<◌, ◌≤◌}
use Rattle.pv_ctc.specs.Users.{has_user}
use Rattle.pv_ctc.proofs.Using.{AddedAt}
use Rattle.pv_ctc.proofs.users.add_user.Given as goal

abbrev pub invariant-loop-v : goal.invariant-loop-v
invariant-loop-v l = record {
  done : (w : ℕ) → w < l.v → AddedAt l.fn.users l.users l.uses l.number w;
  left : (w k : ℕ) → l.v ≤ w → has_user l.users w k ≡ has_user l.fn.users w k;
}
