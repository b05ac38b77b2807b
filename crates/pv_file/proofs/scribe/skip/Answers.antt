use Rattle.std.proofs.Common.{◌≡◌, ap, rules}
use Rattle.pv_file.proofs.Handing.{over_come, end_come, step_come}
use Rattle.pv_file.proofs.scribe.skip.Goals as goal

pub returns-in_default-clause-come : goal.returns-in_default-clause-come
returns-in_default-clause-come c =
    over_come c.loop-left.left _ _ _ c.loop-left.invariant.come (c.next.ensures.over c.in_default.is) (ap (λ w. w.pending) (c.next.ensures.stays c.in_default.is))

pub loop-left-preserved : goal.loop-left-preserved
loop-left-preserved c =
    let visit = c.in-Some.ensures.visit in record {
      root = search rules;
      come = step_come c.loop-left.left c.next.new.self.here _ _ visit.rest _ c.loop-left-test.true c.loop-left.invariant.come visit.was visit.pending;
    }

pub returns-clause-come : goal.returns-clause-come
returns-clause-come c =
    let e : c.loop-left.left ≡ 0 = search rules in
    end_come c.loop-left.left _ _ c.loop-left.invariant.come e
