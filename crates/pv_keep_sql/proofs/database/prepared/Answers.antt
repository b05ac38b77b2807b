use Rattle.pv_keep_sql.proofs.Crashes.{nothing_prepared, nothing_refused}
use Rattle.pv_keep_sql.proofs.database.prepared.Goals as goal

pub returns-in_err-prepare-clause-nothing : goal.returns-in_err-prepare-clause-nothing
returns-in_err-prepare-clause-nothing g c =
    nothing_refused g.S.Store c.args.change.now.conn.now c.prepare.new.self.conn.now c.args.text.now _ c.prepare.ensures.survives c.in_err-prepare.ensures.err

pub returns-clause-nothing : goal.returns-clause-nothing
returns-clause-nothing g c =
    nothing_prepared g.S.Store c.args.change.now.conn.now c.prepare.new.self.conn.now c.prepare.ensures.survives (λ clean. (c.in_ok-prepare.ensures.ok clean).1)
