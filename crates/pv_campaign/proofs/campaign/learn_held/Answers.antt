use Rattle.std.proofs.Common.{List, subst}
use Rattle.pv_interval.specs.Bounds.{Bounds}
use Rattle.pv_tree.specs.Trees.{leaf}
use Rattle.pv_tree.specs.Stages.{IsStage}
use Rattle.pv_slope.specs.Methods.{method_of, settle_by}
use Rattle.pv_campaign.proofs.campaign.learn_held.Goals as goal

pub returns : goal.returns
returns c = λ system s opening is first grown.
    let rule = method_of c.args.settler.now in
    let t = c.args.paving.now.tree in
    let stages = subst (λ (b : List Bounds). IsStage (settle_by rule) rule.parts.depth b leaf opening → IsStage (settle_by rule) rule.parts.depth b opening t → IsStage (settle_by rule) rule.parts.depth b leaf t)
    c.requires.root (c.learn_rounds.ensures.further.stages leaf opening t tt) in
    c.learn_honest.ensures.honest system s is (stages first grown)
