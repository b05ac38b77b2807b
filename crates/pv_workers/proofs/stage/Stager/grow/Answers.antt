use Rattle.std.proofs.Common.{◌≡◌, ◌∙◌, ◌+◌, ◌≤◌, length, sym, ap, subst, arith, rules, refl, List}
use Rattle.std.specs.Prelude.{reverse}
use Rattle.std.proofs.lemmas.List.{length-reverse}
use Rattle.pv_interval.specs.Bounds.{Bounds}
use Rattle.pv_box.specs.Boxes.{IsBox}
use Rattle.pv_tree.specs.Trees.{Tree, leaf, opens, box_of}
use Rattle.pv_tree.specs.Holes.{IsNext}
use Rattle.pv_tree.specs.Stages.{Grows, full_of}
use Rattle.pv_tree.proofs.StageLaws.{grows_leaf}
use Rattle.pv_board.specs.Events.{leaves_at}
use Rattle.pv_board.specs.Rules.{IsFitting}
use Rattle.pv_board.proofs.Dealing.{leaves_count}
use Rattle.pv_workers.proofs.Below.{path_fits}
use Rattle.pv_workers.proofs.Facts.{few_facts, laid_first, stage_facts}
use Rattle.pv_workers.proofs.Laws.{fitting_of}
use Rattle.pv_workers.proofs.Leaves.{next_at_root}
use Rattle.pv_workers.proofs.stage.Stager.grow.Goals as goal

pub settle_next-requires-clause-next : goal.settle_next-requires-clause-next
settle_next-requires-clause-next g c =
    subst (IsNext c.in_ok-stage.stage.growth) (sym c.root.ensures) (next_at_root c.args.bench.now.workspace.scratch c.in_ok-stage.stage.growth c.dims-places.ensures.is_box c.in_ok-stage.ensures.growth)

pub settle_next-requires-clause-stage : goal.settle_next-requires-clause-stage
settle_next-requires-clause-stage g c =
    let n = g.N.Naming in let full = full_of n.rule n.depth c.in_ok-stage.stage.growth.root leaf (length c.args.self.now.at) in
    subst (λ (t : Tree). Grows t full) (sym (ap (λ x. x.tree) c.in_ok-stage.ensures.growth)) (grows_leaf full)

pub settle_next-requires-clause-laid : goal.settle_next-requires-clause-laid
settle_next-requires-clause-laid g c =
    let n = g.N.Naming in
    laid_first c.args.bench.now.workspace.scratch (full_of n.rule n.depth c.in_ok-stage.stage.growth.root leaf (length c.args.self.now.at)) c.in_ok-stage.stage.growth c.in_ok-stage.ensures.growth

pub list_leaves-requires-clause-short : goal.list_leaves-requires-clause-short
list_leaves-requires-clause-short g c =
    let n = g.N.Naming in let own = g.S.Settler in let m = g.met.S.Settler in let r = c.args.self.now.ruled.now in let s = r.settler.now in
    let laws : IsFitting n.rule n.depth n.dims = fitting_of n.rule (own.settle_of s) n.depth (own.depth_of s) n.dims (own.dims s) r.rule r.depth r.dims
    (record { some = (m.depth_fits s).0; few = (m.depth_fits s).1; fits = m.fits s; keeps_box = m.keeps_box s; ends = m.ends s }) in
    let st = c.grow_on.new.stage.growth in
    let same : st.root ≡ c.in_ok-stage.stage.growth.root = c.in_ok-grow_on.ensures.root ∙ c.in_ok-settle_next.ensures.root in
    let sides : length c.in_ok-stage.stage.growth.root ≡ n.dims = search rules in
    let at : c.grow_on.new.stage.at ≡ c.args.self.now.at = c.in_ok-grow_on.ensures.at ∙ c.in_ok-settle_next.ensures.at ∙ c.in_ok-stage.ensures.at in
    λ p e. subst (λ q. length q + length p ≤ 200) (sym at)
    (path_fits n.rule n.depth n.dims laws st.root st.tree p c.args.self.now.at (subst IsBox (sym same) c.dims-places.ensures.is_box) (ap length same ∙ sides) c.len-steps.ensures.few c.in_ok-grow_on.ensures.stage e)

pub returns-clause-stage : goal.returns-clause-stage
returns-clause-stage g c =
    let n = g.N.Naming in
    let st = c.grow_on.new.stage.growth in
    let same : st.root ≡ c.in_ok-stage.stage.growth.root = c.in_ok-grow_on.ensures.root ∙ c.in_ok-settle_next.ensures.root in
    let from : c.in_ok-stage.stage.growth.root ≡ c.args.bench.now.workspace.scratch = search rules in
    let root : st.root ≡ c.args.bench.now.workspace.scratch = same ∙ from in
    let tree : c.finish.result.tree ≡ st.tree = c.finish.ensures.tree ∙ c.in_ok-list_leaves.ensures.tree in
    subst (λ (x : Tree). Grows x (full_of n.rule n.depth c.args.bench.now.workspace.scratch leaf (length c.args.self.now.at))) (sym tree)
    (subst (λ (b : List Bounds). Grows st.tree (full_of n.rule n.depth b leaf (length c.args.self.now.at))) root c.in_ok-grow_on.ensures.stage)

pub returns-clause-facts : goal.returns-clause-facts
returns-clause-facts g c =
    let n = g.N.Naming in
    let st = c.grow_on.new.stage.growth in
    let same : st.root ≡ c.in_ok-stage.stage.growth.root = c.in_ok-grow_on.ensures.root ∙ c.in_ok-settle_next.ensures.root in
    let from : c.in_ok-stage.stage.growth.root ≡ c.args.bench.now.workspace.scratch = search rules in
    let root : st.root ≡ c.args.bench.now.workspace.scratch = same ∙ from in
    let tree : c.finish.result.tree ≡ st.tree = c.finish.ensures.tree ∙ c.in_ok-list_leaves.ensures.tree in
    stage_facts (g.S.KnowingSettler.knows c.args.self.now.ruled.now.settler.now) n.rule n.depth (length c.args.self.now.at) st c.args.bench.now.workspace.scratch c.finish.result.tree (reverse c.grow_on.new.workspace.facts.items)
    tree root c.in_ok-grow_on.ensures.laid c.in_ok-grow_on.ensures.facts

pub returns-clause-few_leaves : goal.returns-clause-few_leaves
returns-clause-few_leaves g c =
    let n = g.N.Naming in let knows = g.S.KnowingSettler.knows c.args.self.now.ruled.now.settler.now in
    let st = c.grow_on.new.stage.growth in let ks = c.grow_on.new.workspace.facts in let ps = c.list_leaves.new.leaves in let k = length c.args.self.now.at in
    let known = stage_facts knows n.rule n.depth k st st.root st.tree (reverse ks.items) refl refl c.in_ok-grow_on.ensures.laid c.in_ok-grow_on.ensures.facts in
    let few = few_facts knows (box_of st.root (full_of n.rule n.depth st.root leaf k)) (opens st.tree) (reverse ks.items) known in
    let count = ap length c.in_ok-list_leaves.ensures.leaves ∙ leaves_count c.grow_on.new.stage.at st.tree in
    let back = length-reverse ks.items in let most = c.in_ok-grow_on.ensures.few_facts in
    let leaves = ps.ok.0 in let facts = ks.ok.0 in
    omega (arith, few, count, back, most, leaves, facts)

pub returns-clause-leaves : goal.returns-clause-leaves
returns-clause-leaves g c =
    let at : c.grow_on.new.stage.at ≡ c.args.self.now.at = c.in_ok-grow_on.ensures.at ∙ c.in_ok-settle_next.ensures.at ∙ c.in_ok-stage.ensures.at in
    let tree : c.finish.result.tree ≡ c.grow_on.new.stage.growth.tree = c.finish.ensures.tree ∙ c.in_ok-list_leaves.ensures.tree in
    c.in_ok-list_leaves.ensures.leaves ∙ (λ i. leaves_at (at i) (sym tree i))
