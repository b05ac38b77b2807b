use Rattle.std.proofs.Common.{◌≡◌, ◌+◌, ◌-◌, ◌*◌, ◌^◌, ◌<◌, ◌≤◌, true, false}
use Rattle.pv_num.specs.Roots.{size_at, is_reached}
use Rattle.pv_num.proofs.root.searched.Given as goal

abbrev pub invariant-loop-low : goal.invariant-loop-low
invariant-loop-low l = record {
  ordered : l.low ≤ l.high;
  fits : l.high ≤ 962 * 2 ^ 61 + 2 ^ 62;
  below : 0 < l.low → is_reached l.side l.z l.n (size_at (l.low - 1)) ≡ false;
  here : l.high < 962 * 2 ^ 61 + 2 ^ 62 → is_reached l.side l.z l.n (size_at l.high) ≡ true;
  within : l.low < l.high → (l.low ≤ l.at) × (l.at < l.high);
  steps : (0 < l.step) × (l.step ≤ 962 * 2 ^ 61 + 2 ^ 62);
}

abbrev pub decreases-loop-low : goal.decreases-loop-low
decreases-loop-low l = l.high - l.low
