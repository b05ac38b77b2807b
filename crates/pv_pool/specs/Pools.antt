-- What the workers of a pool do together.
use Rattle.std.specs.Prelude.{◌≡◌, ℕ, ◌+◌, ◌*◌, ◌^◌, ◌<◌, ◌≤◌, List, [], length, get_or, cond, nat_eq}
use Rattle.std.specs.List.{sum_by}
use Rattle.pv_pool.specs.declared.bench.Bench.{Bench}
use Rattle.pv_pool.specs.declared.seat.Seat.{Seat}
use Rattle.pv_pool.specs.Counting.{Numbers, AreBelow, Ended}
use Rattle.pv_pool.specs.Benches.{drawn, put, MayWork, SameBench}
use Rattle.pv_pool.specs.Links.{Links}
use Rattle.pv_tree.specs.declared.batch.TheConstants.{MOST_BATCH}

module _ {J T : Type 0} (numbers : T → Numbers) where
  -- a worker may begin
  pub record IsSeated (s : Seat J T) : Type 0 where
    pub work : MayWork s.bench
    pub room : AreBelow (2 ^ 90) (numbers s.told)

  -- it ended
  pub record HasRun (old new : Seat J T) : Type 0 where
    pub same : SameBench old.bench new.bench
    pub ended : Ended (numbers old.told) (numbers new.told) (drawn old.bench) (drawn new.bench) (put old.bench) (put new.bench)

  -- all ended
  pub record HaveWorked (before after : List T) (benches : List (Bench J)) : Type 0 where
    pub count : length after ≡ length before
    pub benches_count : length benches ≡ length before
    pub links : Links benches []
    pub each : (i : ℕ) (t : T) (d : Bench J) → i < length before → Ended (numbers (get_or before i t)) (numbers (get_or after i t)) 0 (drawn (get_or benches i d)) 0 (put (get_or benches i d))
    pub few : (i : ℕ) (d : Bench J) → i < length benches → put (get_or benches i d) ≤ MOST_BATCH * 2 ^ 63
    pub room : (i : ℕ) (t : T) → i < length after → AreBelow (2 ^ 99) (numbers (get_or after i t))
