use Rattle.std.proofs.Common.{rules, ◌≡◌, subst}
use Rattle.sqlite.specs.State.{HasCleanDisk, KeepsCommit}
use Rattle.sqlite.specs.Held.{state}
use Rattle.pv_keep_sql.specs.Crashes.{IsAllOrNothing}
use Rattle.pv_keep_sql.proofs.Crashes.{ended, failed_keeps, on_err, undone_keeps}
use Rattle.pv_keep_sql.proofs.database.write_rows.Goals as goal

pub returns-in_err-add_all-clause-refused : goal.returns-in_err-add_all-clause-refused
returns-in_err-add_all-clause-refused g c =
    let old = c.args.connection.now in
    let begun = c.transaction-change.ensures.begun in
    let end = c.drop-change.new.self.0 in
    let kept = undone_keeps g.S.Store old c.add_all.new.change.conn.now end (rw begun at c.add_all.ensures.nothing) c.drop-change.ensures.survives c.drop-change.ensures.undone in
    let same : end ≡ c.connection-1.given.0 = search rules in
    on_err c.from_residual.result (subst (λ h. HasCleanDisk (state g.S.Store h) → KeepsCommit (state g.S.Store old) (state g.S.Store h)) same kept)

pub returns-in_err-commit-clause-crash : goal.returns-in_err-commit-clause-crash
returns-in_err-commit-clause-crash g c =
    let old = c.args.connection.now in
    let begun = c.transaction-change.ensures.begun in
    let whole = ended g.S.Store old c.add_all.new.change.conn.now c.commit.new.self.0 (rw begun at c.add_all.ensures.nothing) c.commit.ensures.survives in
    let same : c.commit.new.self.0 ≡ _ = search rules in
    subst (IsAllOrNothing g.S.Store old) same whole

pub returns-in_err-commit-clause-refused : goal.returns-in_err-commit-clause-refused
returns-in_err-commit-clause-refused g c =
    let old = c.args.connection.now in
    let begun = c.transaction-change.ensures.begun in
    let kept = failed_keeps g.S.Store old c.add_all.new.change.conn.now c.commit.new.self.0 _ (rw begun at c.add_all.ensures.nothing) c.commit.ensures.survives c.in_err-commit.ensures.err in
    let same : c.commit.new.self.0 ≡ c.connection-2-1.given.0 = search rules in
    on_err c.from_residual-in_err-commit.result (subst (λ h. HasCleanDisk (state g.S.Store h) → KeepsCommit (state g.S.Store old) (state g.S.Store h)) same kept)

pub returns-clause-crash : goal.returns-clause-crash
returns-clause-crash g c =
    let old = c.args.connection.now in
    let begun = c.transaction-change.ensures.begun in
    let whole = ended g.S.Store old c.add_all.new.change.conn.now c.commit.new.self.0 (rw begun at c.add_all.ensures.nothing) c.commit.ensures.survives in
    let same : c.commit.new.self.0 ≡ _ = search rules in
    subst (IsAllOrNothing g.S.Store old) same whole
