use Rattle.std.proofs.Common.{rules, ◌∙◌, ◌+◌, sym, ap, subst, ◌≤◌, arith}
use Rattle.pv_pool.specs.Links.{AreApart}
use Rattle.pv_pool.proofs.Linking.{apart_more}
use Rattle.pv_pool.proofs.bench.empty_benches.Goals as goal

pub loop-preserved : goal.loop-preserved
loop-preserved g c = record {
  apart = subst (AreApart (c.loop.counter + 1)) (sym c.push_reserved.ensures.items) (apart_more c.loop.counter c.loop.benches.items _ c.loop.invariant.apart (search rules));
  room = search rules;
}
