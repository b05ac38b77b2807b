-- What a crash, or a refusal, leaves of a save.
use Rattle.std.specs.Prelude.{◌≡◌}
use Rattle.sqlite.specs.Store.{Ghosts}
use Rattle.sqlite.specs.Tree.{Trees}
use Rattle.sqlite.specs.State.{HasCleanDisk, KeepsCommit, Survives}
use Rattle.sqlite.specs.Held.{Held, state}

-- A crash leaves nothing that one before could not have left, and what was committed stays so.
pub record CommitsNothing {S : Type 0} (g : Ghosts S) (old new : Held S) : Type 0 where
  pub crash : Survives (state g old) (state g new) (λ _. ⊥)
  pub kept : HasCleanDisk (state g new) → KeepsCommit (state g old) (state g new)

-- A crash at any time leaves what one before the save would have left, or else one state of the tables.
pub record IsAllOrNothing {S : Type 0} (g : Ghosts S) (old new : Held S) : Type 0 where
  pub tables : Trees
  pub crash : Survives (state g old) (state g new) (λ found. found ≡ tables)
