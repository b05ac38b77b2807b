-- What a crash, or a refusal, leaves of a save, step by step.
use Rattle.std.proofs.Common.{◌≡◌, ◌⊎◌, inl, inr, ℕ, List, [], true, false, refl, sym, subst, arith}
use Rattle.std.specs.Prelude.{Bool, IsTrue, IfErr, Result, Ok, Err}
use Rattle.sqlite.specs.Store.{Ghosts}
use Rattle.sqlite.specs.declared.error.Error.{Error}
use Rattle.sqlite.specs.declared.error.Error.TheVariants.{SqliteFailure}
use Rattle.sqlite.specs.declared.error.ErrorCode.TheVariants.{TransactionState}
use Rattle.sqlite.specs.State.{HasCleanDisk, State, IsUnchanged, IsNotRun, IsRolledBack, ExecutesInside, KeepsCommit, Survives}
use Rattle.sqlite.specs.Steps.{FailsToCommit}
use Rattle.sqlite.specs.Held.{Held, state}
use Rattle.sqlite.proofs.StateLemmas.{survives_then, survives_weaker}
use Rattle.sqlite.proofs.InsideLemmas.{unchanged_keeps, inside_keeps, keeps_then}
use Rattle.sqlite.proofs.Callers.{survives_begin}
use Rattle.pv_keep_sql.specs.Crashes.{CommitsNothing, IsAllOrNothing}

-- what does nothing
stays : (s : State) → Survives s s (λ _. ⊥)
stays s = record { clean = omega arith; shield = λ h. h; counts = omega arith; limit = refl; closes = λ clean still. inl still; crash = λ clean db h. inl h }

pub same_commit : (s : State) → KeepsCommit s s
same_commit s = record { was_open = λ h. h; committed = λ h. refl }

not_run : (old new : State) (sql : List ℕ) (params : _) (e : Error) → IsNotRun old new sql params e → KeepsCommit old new
unfolding IsNotRun
not_run old new sql params e (inl refused) = unchanged_keeps old new (inl refused.1)
not_run old new sql params e (inr failed) = unchanged_keeps old new (inr failed.3)

not_committed : (old new : State) (e : Error) → FailsToCommit old new e → KeepsCommit old new
not_committed old new e (inl failed) = unchanged_keeps old new (inr failed.3)
not_committed old new e (inr refused) = unchanged_keeps old new (inl refused.2)

either : (b : Bool) → IsTrue b ⊎ (b ≡ false)
either true = inl refl
either false = inr refl

-- what holds whatever was answered holds of a refusal
pub on_err : {A E P : Type 0} (r : Result A E) → P → IfErr r (λ _. P)
on_err (Ok x) p = tt
on_err (Err e) p = p

module _ {S : Type 0} (g : Ghosts S) where
  pub nothing_yet : (h : Held S) → CommitsNothing g h h
  nothing_yet h = record { crash = stays (state g h); kept = λ clean. same_commit (state g h) }

  -- one step after another
  pub nothing_then : (a b c : Held S) → CommitsNothing g a b → CommitsNothing g b c → CommitsNothing g a c
  nothing_then a b c one two = record {
    crash = survives_then (state g a) (state g b) (state g c) (λ _. ⊥) (λ _. ⊥) (λ _. ⊥) (λ _ db none. none) (λ _ db none. none) one.crash two.crash;
    kept = λ clean. keeps_then (state g a) (state g b) (state g c) (one.kept (omega (arith, two.crash.clean))) (two.kept clean);
  }

  pub nothing_prepared : (old new : Held S) → Survives (state g old) (state g new) (λ _. ⊥) → (HasCleanDisk (state g new) → IsUnchanged (state g old) (state g new)) → CommitsNothing g old new
  nothing_prepared old new crash same = record { crash = crash; kept = λ clean. unchanged_keeps (state g old) (state g new) (inl (same clean)) }

  pub nothing_refused : (old new : Held S) (sql : List ℕ) (e : Error) → Survives (state g old) (state g new) (λ _. ⊥)
      → (HasCleanDisk (state g new) → (params : _) → IsNotRun (state g old) (state g new) sql params e) → CommitsNothing g old new
  nothing_refused old new sql e crash refused = record { crash = crash; kept = λ clean. not_run (state g old) (state g new) sql [] e (refused clean []) }

  pub nothing_executed : (old new : Held S) (sql : List ℕ) (params : _) (r : Result ℕ Error) → Survives (state g old) (state g new) (λ _. ⊥)
      → ((state g old).in_transaction ≡ false → (r ≡ Err (SqliteFailure TransactionState)) × (new ≡ old))
      → (HasCleanDisk (state g new) → IsTrue (state g old).in_transaction → ExecutesInside 0 sql params (state g old) (state g new) r) → CommitsNothing g old new
  nothing_executed old new sql params r crash ended runs = record {
    crash = crash;
    kept = λ clean. elim (either (state g old).in_transaction) [
      | inl on ↦ inside_keeps (state g old) (state g new) 0 false sql params r (runs clean on)
      | inr off ↦ subst (λ (h : Held S). KeepsCommit (state g old) (state g h)) (sym (ended off).1) (same_commit (state g old))
    ];
  }

  module _ (old : Held S) where
    begun : (new : State) → KeepsCommit (state g (record old { in_transaction = true })) new → KeepsCommit (state g old) new
    begun new h = record { was_open = h.was_open; committed = h.committed }

    pub untouched : IsAllOrNothing g old old
    untouched = record { tables = (state g old).now.trees; crash = survives_weaker (state g old) (state g old) (λ _. ⊥) _ (λ _ db none. absurd none) (stays (state g old)) }

    -- a transaction that ends without a commit
    pub undone : (mid new : Held S) → CommitsNothing g (record old { in_transaction = true }) mid → Survives (state g mid) (state g new) (λ _. ⊥) → IsAllOrNothing g old new
    undone mid new one two = record {
      tables = (state g old).now.trees;
      crash = survives_then (state g old) (state g mid) (state g new) (λ _. ⊥) (λ _. ⊥) _ (λ _ db none. absurd none) (λ _ db none. absurd none)
          (survives_begin g old (state g mid) (λ _. ⊥) one.crash) two;
    }

    pub undone_keeps : (mid new : Held S) → CommitsNothing g (record old { in_transaction = true }) mid → Survives (state g mid) (state g new) (λ _. ⊥)
        → (HasCleanDisk (state g new) → IsRolledBack (state g mid) (state g new)) → HasCleanDisk (state g new) → KeepsCommit (state g old) (state g new)
    undone_keeps mid new one two back clean =
        begun (state g new) (keeps_then (state g (record old { in_transaction = true })) (state g mid) (state g new) (one.kept (omega (arith, two.clean)))
        (unchanged_keeps (state g mid) (state g new) (inr (back clean))))

    -- a transaction that is committed, or of which the commit fails
    pub ended : (mid new : Held S) → CommitsNothing g (record old { in_transaction = true }) mid
        → Survives (state g mid) (state g new) (λ db. db ≡ (state g mid).now.trees) → IsAllOrNothing g old new
    ended mid new one two = record {
      tables = (state g mid).now.trees;
      crash = survives_then (state g old) (state g mid) (state g new) (λ _. ⊥) (λ db. db ≡ (state g mid).now.trees) _ (λ _ db none. absurd none) (λ _ db is. is)
          (survives_begin g old (state g mid) (λ _. ⊥) one.crash) two;
    }

    pub failed_keeps : (mid new : Held S) (e : Error) → CommitsNothing g (record old { in_transaction = true }) mid
        → Survives (state g mid) (state g new) (λ db. db ≡ (state g mid).now.trees) → (HasCleanDisk (state g new) → FailsToCommit (state g mid) (state g new) e)
        → HasCleanDisk (state g new) → KeepsCommit (state g old) (state g new)
    failed_keeps mid new e one two failed clean =
        begun (state g new) (keeps_then (state g (record old { in_transaction = true })) (state g mid) (state g new) (one.kept (omega (arith, two.clean)))
        (not_committed (state g mid) (state g new) e (failed clean)))
