-- What is so by the answer of an idle worker.
use Rattle.std.specs.Prelude.{◌≡◌, ℕ, List, [], ◌∷◌}
use Rattle.pv_pool.specs.declared.work.Idle.{Idle}
use Rattle.pv_pool.specs.declared.work.Idle.TheVariants.{Job, Done, Look}

-- one fact for a job, one where all is done, one where it is to look again
abbrev pub MatchIdle : {J : Type 0} → Idle J → (J → Type 0) → Type 0 → (ℕ → Type 0) → Type 0
MatchIdle (Job job) handed done again = handed job
MatchIdle Done handed done again = done
MatchIdle (Look steps) handed done again = again steps
