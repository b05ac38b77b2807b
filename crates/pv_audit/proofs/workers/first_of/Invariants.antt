use Rattle.std.proofs.Common.{◌%◌, ◌≤◌, length}
use Rattle.pv_audit.specs.Reports.{IsReport, AreReports}
use Rattle.pv_audit.proofs.workers.first_of.Given as goal

abbrev pub invariant-loop-report : goal.invariant-loop-report
invariant-loop-report g l = record {
  reports : AreReports (g.S.Settler.settle_of l.settler) (g.S.Settler.depth_of l.settler) l.paving.root l.paving.tree l.workers l.reports.items;
  first : IsReport (g.S.Settler.settle_of l.settler) (g.S.Settler.depth_of l.settler) l.paving.root l.paving.tree (λ n. length l.reports.items ≤ n % l.workers) l.first;
}

abbrev pub decreases-loop-report : goal.decreases-loop-report
decreases-loop-report g l = length l.reports.items
