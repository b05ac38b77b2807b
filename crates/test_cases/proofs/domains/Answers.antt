use Rattle.std.proofs.Common.{sym, ◌∙◌, ap, ◌++◌, [], ◌∷◌}
use Rattle.std.specs.Prelude.{map}
use Rattle.pv_expr.specs.Searches.{search_bounds}
use Rattle.test_cases.proofs.Taking.{take_more}
use Rattle.test_cases.proofs.domains.Goals as goal

pub loop-i-preserved : goal.loop-i-preserved
loop-i-preserved c = record {
  end = c.loop-i.invariant.end;
  parts = c.in_ok-push.ensures.items ∙ ap (λ xs. xs ++ c.search_interval.result ∷ []) c.loop-i.invariant.parts ∙ sym (take_more (map search_bounds c.args.system.now.domains) c.loop-i.i c.search_interval.result c.search_interval.ensures);
}
