use Rattle.std.proofs.Common.{◌∙◌, ap}
use Rattle.pv_tree.specs.Holes.{Growing}
use Rattle.pv_workers.proofs.Leaves.{listed_more}
use Rattle.pv_workers.proofs.stage.list_leaves.Goals as goal

pub loop-path-preserved : goal.loop-path-preserved
loop-path-preserved c =
    let l = c.loop-path in
    record {
      at = l.invariant.at;
      root = ap (λ (x : Growing). x.root) c.pass.ensures ∙ l.invariant.root;
      tree = ap (λ (x : Growing). x.tree) c.pass.ensures ∙ l.invariant.tree;
      listed = listed_more l.stage.at l.stage.growth c.pass.new.self c.in-Some.path c.then.result l.leaves.items c.push.new.self.items _ c.in-Some.ensures.next c.pass.ensures c.then.ensures c.in_ok-push.ensures.items l.invariant.listed;
    }
