-- What is so of the benches after the workers were joined.
use Rattle.std.specs.Prelude.{◌≡◌, ℕ, ◌+◌, ◌<◌, List, [], ◌++◌, length, get_or}
use Rattle.std.specs.List.{sum_by}
use Rattle.pv_pool.specs.declared.deque.Hand.{Hand}
use Rattle.pv_pool.specs.declared.deque.Thief.{Thief}
use Rattle.pv_pool.specs.declared.bench.Bench.{Bench}
use Rattle.pv_pool.specs.Hands.{SameBag, taken_of}
use Rattle.pv_pool.specs.Counting.{Numbers, after_returns}
use Rattle.pv_pool.specs.Benches.{own}
use Rattle.pv_pool.specs.Links.{Links, total}
use Rattle.pv_tree.specs.declared.limit.TheConstants.{MOST_WORKERS}

module _ {J : Type 0} where
  -- some passes went to the owners, and what all took of a deque is the same
  pub record Absorbed (olds : List (Bench J)) (row : List (Thief J)) (news : List (Bench J)) (rest : List (Thief J)) : Type 0 where
    pub links : Links news rest
    pub count : length news ≡ length olds
    pub totals : (h : J → ℕ) (k : ℕ) (d : Bench J) → total k (taken_of h) news rest d ≡ total k (taken_of h) olds row d
    pub pushed : (k : ℕ) (d : Bench J) → (own (get_or news k d).owner).pushed ≡ (own (get_or olds k d).owner).pushed
    pub ways : (k : ℕ) (d : Bench J) → (get_or news k d).thieves.items ≡ (get_or olds k d).thieves.items

  -- the same, and the first `done` benches have no thieves
  pub record Cleared (done : ℕ) (olds news : List (Bench J)) : Type 0 where
    pub links : Links news []
    pub count : length news ≡ length olds
    pub totals : (h : J → ℕ) (k : ℕ) (d : Bench J) → total k (taken_of h) news [] d ≡ total k (taken_of h) olds [] d
    pub pushed : (k : ℕ) (d : Bench J) → (own (get_or news k d).owner).pushed ≡ (own (get_or olds k d).owner).pushed
    pub none : (k : ℕ) (d : Bench J) → k < done → (get_or news k d).thieves.items ≡ []

  -- each owner has all parts of its deque, and what all took of it
  pub record Gathered (olds news : List (Bench J)) : Type 0 where
    pub count : length news ≡ length olds
    pub whole : (k : ℕ) (d : Bench J) → k < length olds → (own (get_or news k d).owner).parts ≡ MOST_WORKERS
    pub taken : (h : J → ℕ) (k : ℕ) (d : Bench J) → k < length olds → sum_by h (own (get_or news k d).owner).taken ≡ total k (taken_of h) olds [] d
    pub pushed : (k : ℕ) (d : Bench J) → (own (get_or news k d).owner).pushed ≡ (own (get_or olds k d).owner).pushed

  -- the jobs that were left on a deque were given back
  pub record IsDrained (old new : Numbers) (o : Hand J) : Type 0 where
    pub left : List J
    pub bag : SameBag o.pushed (o.taken ++ left)
    pub numbers : new ≡ after_returns (length left) old

  -- so far
  pub record IsDraining (old new : Numbers) (o p : Hand J) : Type 0 where
    pub left : List J
    pub parts : p.parts ≡ o.parts
    pub pushed : p.pushed ≡ o.pushed
    pub taken : p.taken ≡ o.taken ++ left
    pub numbers : new ≡ after_returns (length left) old

  -- what was pushed on the deque k was taken, or was left and given back
  pub record IsClosed (k : ℕ) (bs : List (Bench J)) (d : Bench J) (old new : Numbers) : Type 0 where
    pub left : List J
    pub bag : (h : J → ℕ) → sum_by h (own (get_or bs k d).owner).pushed ≡ total k (taken_of h) bs [] d + sum_by h left
    pub numbers : new ≡ after_returns (length left) old
