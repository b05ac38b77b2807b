use Rattle.std.proofs.Common.{◌≡◌, rules}
use Rattle.pv_keep.proofs.Leaves.{pass_more, pass_none}
use Rattle.pv_keep.proofs.rebuild.pass_to.Goals as goal

pub loop-next-preserved : goal.loop-next-preserved
loop-next-preserved c =
    let next = c.in-Some.ensures.next in
    let holes : c.pass.new.self.holes ≡ next.rest = search rules in
    let differ : c.in-Some.next ≡ c.args.path → ⊥ = search rules in
    record {
      root = search rules;
      tree = search rules;
      passed = pass_more c.args.growth.now.holes c.loop-next.growth.holes c.pass.new.self.holes c.loop-next.invariant.passed next.hole next.rest next.is holes;
      none = λ k. pass_none c.args.path c.in-Some.next c.loop-next.growth.holes c.pass.new.self.holes next.hole next.rest next.is holes next.path differ (c.loop-next.invariant.none k);
    }
