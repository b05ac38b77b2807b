use Rattle.std.proofs.Common.{sym, subst}
use Rattle.pv_least.specs.Points.{AreFinite}
use Rattle.pv_least.specs.Objectives.{aim_of}
use Rattle.pv_least.proofs.Numbers.{numbers_finite, lows_at}
use Rattle.pv_least.proofs.Trying.{tried_better}
use Rattle.pv_least.proofs.found.try_point.Goals as goal

pub of_exact-requires : goal.of_exact-requires
of_exact-requires c =
    subst AreFinite (sym (lows_at c.args.which c.args.to.now c.write.new.probe c.write.ensures))
    (numbers_finite c.args.which c.args.to.now c.dims-places.ensures.is_box.intervals)

pub returns-in_ok-point-clause-best : goal.returns-in_ok-point-clause-best
returns-in_ok-point-clause-best c =
    tried_better (aim_of c.args.objective.now) c.args.to.now c.write.new.probe c.args.which c.args.best.now c.in_ok-point.point c.in-Some.upper c.in_ok-upper.field-0 c.is_better.result
    c.write.ensures c.in_ok-upper.ensures c.in-Some.is c.in_ok-point.ensures c.is_better.ensures c.if-is_better.true
