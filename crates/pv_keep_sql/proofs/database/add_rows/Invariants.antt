use Rattle.std.proofs.Common.{◌≡◌}
use Rattle.pv_keep_sql.specs.Crashes.{CommitsNothing}
use Rattle.pv_keep_sql.proofs.database.add_rows.Given as goal

abbrev pub invariant-loop-first : goal.invariant-loop-first
invariant-loop-first g l =
    (l.change.conn.ghost_name ≡ l.fn.change.conn.ghost_name) × CommitsNothing g.S.Store l.fn.change.conn.now l.change.conn.now
