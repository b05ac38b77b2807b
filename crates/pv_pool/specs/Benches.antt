-- What one worker works with, and what changes while it works.
use Rattle.std.specs.Prelude.{◌≡◌, ℕ, ◌+◌, ◌*◌, ◌^◌, ◌<◌, ◌≤◌, ◌⊎◌, List, [], length, get_or}
use Rattle.std.specs.List.{sum_by}
use Rattle.crossbeam_deque.specs.Handles.{view, taken, worker_deque, worker_view, stealer_deque}
use Rattle.pv_pool.specs.declared.deque.Hand.{Hand}
use Rattle.pv_pool.specs.declared.deque.Owner.{Owner}
use Rattle.pv_pool.specs.declared.deque.Thief.{Thief}
use Rattle.pv_pool.specs.declared.bench.Bench.{Bench}
use Rattle.pv_pool.specs.Counting.{Numbers}
use Rattle.pv_tree.specs.declared.limit.TheConstants.{MOST_WORKERS}

module _ {J : Type 0} where
  -- what the pass of the worker's own deque knows
  abbrev pub own : Owner J → Hand J
  own o = worker_view o.worker

  -- what a pass of another's deque knows
  abbrev pub reach : Thief J → Hand J
  reach t = view t.pass

  abbrev pub stolen_by : Thief J → ℕ
  stolen_by t = length (reach t).taken

  -- each pass may steal
  abbrev pub MaySteal : List (Thief J) → Type 0
  MaySteal ts = (i : ℕ) (d : Thief J) → i < length ts → 0 < (reach (get_or ts i d)).parts

  -- a try to steal that took nothing: another took a job meanwhile, or there was one at most, as the pass that has all parts knows
  abbrev pub HasTried : Thief J → Thief J → Type 0
  HasTried old new = (taken old.pass < taken new.pass) ⊎ ((reach old).parts ≡ MOST_WORKERS → length (reach old).pushed ≤ length (reach old).taken + 1)

  -- each of them tried
  abbrev pub HaveTried : List (Thief J) → List (Thief J) → Type 0
  HaveTried olds news = (i : ℕ) (d : Thief J) → i < length olds → HasTried (get_or olds i d) (get_or news i d)

  -- a thief of the same deque, whose pass took some more
  pub record SameThief (old new : Thief J) : Type 0 where
    pub number : new.deque ≡ old.deque
    pub deque : stealer_deque new.stealer ≡ stealer_deque old.stealer
    pub parts : (reach new).parts ≡ (reach old).parts
    pub pushed : (reach new).pushed ≡ (reach old).pushed

  pub record SameThieves (olds news : List (Thief J)) : Type 0 where
    pub count : length news ≡ length olds
    pub each : (i : ℕ) (d : Thief J) → i < length olds → SameThief (get_or olds i d) (get_or news i d)

  -- how many jobs a worker took from the deques
  abbrev pub drawn : Bench J → ℕ
  drawn b = length (own b.owner).taken + sum_by stolen_by b.thieves.items

  -- how many jobs it pushed on its deque
  abbrev pub put : Bench J → ℕ
  put b = length (own b.owner).pushed

  -- it may go on: its passes may be used, and its batch is empty
  pub record MayWork (b : Bench J) : Type 0 where
    pub part : 0 < (own b.owner).parts
    pub steal : MaySteal b.thieves.items
    pub none : b.children ≡ []

  -- the same deques, of which more was taken, and on one of which more was pushed
  pub record SameBench (old new : Bench J) : Type 0 where
    pub deque : worker_deque new.owner.worker ≡ worker_deque old.owner.worker
    pub parts : (own new.owner).parts ≡ (own old.owner).parts
    pub thieves : SameThieves old.thieves.items new.thieves.items
    pub none : new.children ≡ []
