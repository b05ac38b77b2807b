-- What went through the deques of a pool, and how it ties to the numbers of the workers.
use Rattle.std.specs.Prelude.{◌≡◌, ℕ, ◌+◌, ◌<◌, List, length, get_or, cond, nat_eq}
use Rattle.std.specs.List.{sum_by}
use Rattle.pv_pool.specs.Counting.{Numbers}

-- the jobs that a worker pushed on its deque, those that it popped there, those that it stole, beside the number of the worker whose deque it was,
-- and those that were left on its deque
pub record Account (J : Type 0) : Type 0 where
  pub pushed : List J
  pub popped : List J
  pub stolen : List (ℕ × List J)
  pub left : List J

module _ {J : Type 0} where
  -- the weight of what a worker stole from the deque k
  abbrev pub stolen_from : (J → ℕ) → ℕ → Account J → ℕ
  stolen_from h k a = sum_by (λ (s : ℕ × List J). cond (nat_eq s.0 k) (sum_by h s.1) 0) a.stolen

  -- how many jobs a worker stole
  abbrev pub stolen_count : Account J → ℕ
  stolen_count a = sum_by (λ (s : ℕ × List J). length s.1) a.stolen

  -- what was pushed on the deque k is, as a bag, what its owner popped, what thieves stole of it, and what was left
  abbrev pub IsWhole : List (Account J) → ℕ → Account J → Type 0
  IsWhole all k a = (h : J → ℕ) → sum_by h a.pushed ≡ sum_by h a.popped + sum_by (stolen_from h k) all + sum_by h a.left

  -- the jobs that came to a worker are those that went from it: it was given them, popped or stole them, or they were left on its deque, and it
  -- handed them in or pushed them
  abbrev pub IsKept : Numbers → Numbers → Account J → Type 0
  IsKept old new a = new.given + length a.popped + stolen_count a + length a.left + old.back ≡ old.given + new.back + length a.pushed

module _ (J : Type 0) {T : Type 0} (numbers : T → Numbers) where
  -- there is an account of each worker, and they tell of all jobs
  pub record HaveAccounts (before after : List T) : Type 0 where
    pub accounts : List (Account J)
    pub count : length accounts ≡ length before
    pub deques : (k : ℕ) (a : Account J) → k < length accounts → IsWhole accounts k (get_or accounts k a)
    pub workers : (i : ℕ) (a : Account J) (t : T) → i < length before → IsKept (numbers (get_or before i t)) (numbers (get_or after i t)) (get_or accounts i a)
