use Rattle.std.proofs.Common.{◌≡◌, ◌%◌, ◌∙◌, subst, refl, rules}
use Rattle.pv_join.specs.Audits.{IsChecked}
use Rattle.pv_audit.proofs.Findings.{report_up_to, report_differs, still_numbered, due_here, due_past}
use Rattle.pv_audit.proofs.share.check_share.Goals as goal
use Rattle.pv_audit.proofs.share.check_share.Goals.{then-number-workers+else-load-number+in_ok-due+in_default-2, else-number-workers}

pub returns-then-load-number : goal.returns-then-load-number
returns-then-load-number g c =
    let s = c.args.settler.now in let p = c.args.paving.now in
    report_up_to (g.S.Settler.settle_of s) (g.S.Settler.depth_of s) p.root p.tree (λ n. n % c.args.workers ≡ c.args.worker) c.loop-number.number _ c.loop-number.invariant.due
    c.up_to-then-load-number.ensures.checked c.up_to-then-load-number.ensures.none

pub returns-in-Some-2 : goal.returns-in-Some-2
returns-in-Some-2 g c =
    let s = c.args.settler.now in let p = c.args.paving.now in let e = c.in-Some.ensures in let h = c.loop-number.invariant in
    report_differs (g.S.Settler.settle_of s) (g.S.Settler.depth_of s) p.root p.tree c.loop-number.number c.loop-number.walk c.next.new.self c.in-Some.shape
    e.visit (e.root ∙ h.root) (e.tree ∙ h.tree) e.piece h.numbered (λ n. n % c.args.workers ≡ c.args.worker) c.in-Some-2.due _ _
    (subst (IsChecked (g.S.Settler.settle_of s) (g.S.Settler.depth_of s) c.next.new.self.here) c.in-Some-2.is c.in_ok-due.ensures.checked)
    h.due refl refl c.path-path.ensures refl

pub loop-number-preserved : goal.loop-number-preserved
loop-number-preserved g c =
    let s = c.args.settler.now in let p = c.args.paving.now in let e = c.in-Some.ensures in let h = c.loop-number.invariant in record {
      root = e.root ∙ h.root;
      tree = e.tree ∙ h.tree;
      scratch = elim c.if-number-workers.branch [
        | then-number-workers+else-load-number+in_ok-due+in_default-2 w ↦ search rules
        | else-number-workers w ↦ search rules
      ];
      numbered = still_numbered (g.S.Settler.settle_of s) (g.S.Settler.depth_of s) p.root p.tree c.loop-number.number c.loop-number.walk c.next.new.self c.in-Some.shape
          e.visit (e.root ∙ h.root) (e.tree ∙ h.tree) e.piece h.numbered;
      due = elim c.if-number-workers.branch [
        | then-number-workers+else-load-number+in_ok-due+in_default-2 w ↦
            due_here (g.S.Settler.settle_of s) (g.S.Settler.depth_of s) p.root p.tree c.loop-number.number c.loop-number.walk c.next.new.self c.in-Some.shape
            e.visit (e.root ∙ h.root) (e.tree ∙ h.tree) e.piece h.numbered (λ n. n % c.args.workers ≡ c.args.worker)
            (subst (IsChecked (g.S.Settler.settle_of s) (g.S.Settler.depth_of s) c.next.new.self.here) w.in_default-2.is w.in_ok-due.ensures.checked)
            h.due
        | else-number-workers w ↦
            due_past (g.S.Settler.settle_of s) (g.S.Settler.depth_of s) p.root p.tree (λ n. n % c.args.workers ≡ c.args.worker) c.loop-number.number w.if-number-workers.false h.due
      ];
    }
