-- How the benches of a pool belong together.
use Rattle.std.specs.Prelude.{◌≡◌, ℕ, ◌+◌, ◌<◌, List, [], length, get_or, cond, nat_eq, All}
use Rattle.std.specs.List.{sum_by}
use Rattle.crossbeam_deque.specs.Handles.{worker_deque, stealer_deque}
use Rattle.pv_pool.specs.declared.deque.Hand.{Hand}
use Rattle.pv_pool.specs.declared.deque.Thief.{Thief}
use Rattle.pv_pool.specs.declared.bench.Bench.{Bench}
use Rattle.pv_pool.specs.Hands.{hand, parts_of}
use Rattle.pv_pool.specs.Benches.{own, reach}
use Rattle.pv_tree.specs.declared.limit.TheConstants.{MOST_WORKERS}

module _ {J : Type 0} where
  -- a number of the pass, if it is of the deque k
  abbrev pub from : ℕ → (Hand J → ℕ) → Thief J → ℕ
  from k f t = cond (nat_eq t.deque k) (f (reach t)) 0

  -- the same of all passes of a list, and of all passes of all benches
  abbrev pub row_from : ℕ → (Hand J → ℕ) → List (Thief J) → ℕ
  row_from k f ts = sum_by (from k f) ts

  abbrev pub bench_from : ℕ → (Hand J → ℕ) → Bench J → ℕ
  bench_from k f b = row_from k f b.thieves.items

  abbrev pub all_from : ℕ → (Hand J → ℕ) → List (Bench J) → ℕ
  all_from k f bs = sum_by (bench_from k f) bs

  -- the same of all passes of the deque k: its owner's, those of the thieves at the benches, and those of the thieves in `row`, at no bench
  abbrev pub total : ℕ → (Hand J → ℕ) → List (Bench J) → List (Thief J) → Bench J → ℕ
  total k f bs row d = f (own (get_or bs k d).owner) + all_from k f bs + row_from k f row

  -- a thief's pass is of the deque of the bench that it names, may steal there, and has pushed nothing
  pub record IsWay (bs : List (Bench J)) (t : Thief J) : Type 0 where
    pub there : t.deque < length bs
    pub deque : (d : Bench J) → stealer_deque t.stealer ≡ worker_deque (get_or bs t.deque d).owner.worker
    pub part : 0 < (reach t).parts
    pub pushed : (reach t).pushed ≡ []

  -- the passes of each deque have 16 parts together
  pub record Links (bs : List (Bench J)) (row : List (Thief J)) : Type 0 where
    pub parts : (k : ℕ) (d : Bench J) → k < length bs → total k parts_of bs row d ≡ MOST_WORKERS
    pub part : (k : ℕ) (d : Bench J) → k < length bs → 0 < (own (get_or bs k d).owner).parts
    pub ways : (i : ℕ) (d : Bench J) → i < length bs → All (IsWay bs) (get_or bs i d).thieves.items
    pub row_ways : All (IsWay bs) row

  -- nothing went through the deques, and the batch is empty
  pub record IsFresh (b : Bench J) : Type 0 where
    pub pushed : (own b.owner).pushed ≡ []
    pub taken : (own b.owner).taken ≡ []
    pub stolen : All (λ t. (reach t).taken ≡ []) b.thieves.items
    pub none : b.children ≡ []

  pub record AreReady (count : ℕ) (bs : List (Bench J)) : Type 0 where
    pub count_is : length bs ≡ count
    pub links : Links bs []
    pub fresh : (i : ℕ) (d : Bench J) → i < length bs → IsFresh (get_or bs i d)

  -- a bench with an empty deque, and with no way to another
  pub record IsApart (b : Bench J) : Type 0 where
    pub hand_is : own b.owner ≡ hand MOST_WORKERS [] []
    pub ways : b.thieves.items ≡ []
    pub none : b.children ≡ []

  pub record AreApart (count : ℕ) (bs : List (Bench J)) : Type 0 where
    pub count_is : length bs ≡ count
    pub each : (i : ℕ) (d : Bench J) → i < length bs → IsApart (get_or bs i d)
