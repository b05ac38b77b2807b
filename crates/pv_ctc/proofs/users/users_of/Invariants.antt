use Rattle.std.proofs.Common.{◌≡◌, ℕ, ◌<◌, ◌≤◌, [], false, length, get_or}
use Rattle.pv_ctc.specs.Users.{has_user}
use Rattle.pv_ctc.proofs.users.users_of.Given as goal

abbrev pub invariant-loop-i : goal.invariant-loop-i
invariant-loop-i l = record {
  end : l.i-end ≡ length l.uses;
  done : (v k : ℕ) → v < 12 → k < l.i → has_user l.users v k ≡ get_or (get_or l.uses k []) v false;
  left : (v k : ℕ) → v < 12 → l.i ≤ k → has_user l.users v k ≡ false;
}
