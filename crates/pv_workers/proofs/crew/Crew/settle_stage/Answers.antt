use Rattle.std.proofs.Common.{◌∙◌, length, List, Bool, ap, subst}
use Rattle.std.specs.Prelude.{Some, reverse}
use Rattle.pv_interval.specs.Bounds.{Bounds}
use Rattle.pv_tree.specs.Trees.{leaf, opens, box_of}
use Rattle.pv_tree.specs.Stages.{full_of}
use Rattle.pv_workers.specs.Facts.{AreFacts}
use Rattle.pv_workers.proofs.Facts.{handed_facts}
use Rattle.pv_workers.proofs.crew.Crew.settle_stage.Goals as goal

pub hand_out-requires-clause-facts : goal.hand_out-requires-clause-facts
hand_out-requires-clause-facts g c =
    let n = g.N.Naming in let now = c.args.parts.ruled.now.settler.now in let knows = g.S.KnowingSettler.knows now in
    let full = full_of n.rule n.depth n.root n.opening 0 in let b = c.args.bench.now.workspace.scratch in let p = c.args.parts.ticket.path in
    let ks = reverse c.grow.new.bench.workspace.facts.items in let w = c.settle_stage.ensures in
    handed_facts knows n.root full p b (full_of n.rule n.depth b leaf (length p)) c.in-Ok.stage.tree c.settle_stage.new.children ks c.settle_stage.result c.requires.leaf w.children
    (λ so. w.full so ∙ ap (λ (x : List Bounds). Some (full_of n.rule n.depth x leaf (length p))) c.in-Ok.ensures.root)
    (subst (λ (q : List Bool). AreFacts knows (box_of b (full_of n.rule n.depth b leaf (length q))) (opens c.in-Ok.stage.tree) ks) c.path-path.ensures c.in-Ok.ensures.facts)
