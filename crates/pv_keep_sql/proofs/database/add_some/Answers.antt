use Rattle.pv_keep_sql.proofs.Crashes.{nothing_executed}
use Rattle.pv_keep_sql.proofs.database.add_some.Goals as goal

pub returns-in_err-execute_prepared-clause-nothing : goal.returns-in_err-execute_prepared-clause-nothing
returns-in_err-execute_prepared-clause-nothing g c =
    nothing_executed g.S.Store c.args.change.now.conn.now c.execute_prepared.new.self.conn.now _ _ c.execute_prepared.result c.execute_prepared.ensures.survives
    c.execute_prepared.ensures.ended c.execute_prepared.ensures.runs

pub returns-clause-nothing : goal.returns-clause-nothing
returns-clause-nothing g c =
    nothing_executed g.S.Store c.args.change.now.conn.now c.execute_prepared.new.self.conn.now _ _ c.execute_prepared.result c.execute_prepared.ensures.survives
    c.execute_prepared.ensures.ended c.execute_prepared.ensures.runs
