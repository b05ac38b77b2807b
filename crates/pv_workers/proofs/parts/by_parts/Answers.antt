use Rattle.std.proofs.Common.{◌≡◌, ◌∙◌, refl, sym, subst, arith}
use Rattle.pv_interval.specs.Bounds.{Bounds}
use Rattle.std.specs.Prelude.{List}
use Rattle.pv_tree.specs.Trees.{Paves}
use Rattle.pv_tree.specs.Stages.{IsStage}
use Rattle.pv_tree.proofs.StageLaws.{grows_self}
use Rattle.pv_board.proofs.Fulls.{full_grows}
use Rattle.pv_workers.proofs.Shares.{last_part, done_part, more_parts}
use Rattle.pv_workers.proofs.parts.by_parts.Goals as goal

pub loop-round-init : goal.loop-round-init
loop-round-init g c =
    let s = c.args.settler.now in let o = c.args.opening.tree in
    record {
      root = refl;
      stage = record { grown = grows_self o; grows = full_grows (g.S.Settler.settle_of s) (g.S.Settler.depth_of s) c.args.opening.root o 0 };
      count = refl;
      some = c.args.budget.some;
      few = omega arith;
      spent = omega arith;
      least = omega arith;
      low = omega arith;
    }

pub loop-round-preserved : goal.loop-round-preserved
loop-round-preserved g c =
    let s = c.args.settler.now in let rule = g.S.Settler.settle_of s in let depth = g.S.Settler.depth_of s in
    let b = c.args.opening.root in let o = c.args.opening.tree in
    let m = c.loop-round.paved.paving.tree in let t = c.in_ok-next.next.paving.tree in
    let h = c.loop-round.invariant in let n = c.in_ok-next.ensures in let part = c.part_of-nodes.ensures in
    let same : c.in_ok-next.next.paving.root ≡ b = n.root ∙ h.root in
    let z = c.if-left-eq0.false in let f = part.few in let k = part.some in let w = h.few in let u = h.spent in let v = n.spent in let l = h.low in let x = n.low in let e = h.least in let d = n.least in
    record {
      root = same;
      stage = subst (λ (y : List Bounds). IsStage rule depth y o t) same
          (c.learn_paved.ensures.stages o m (subst (λ (y : List Bounds). Paves y o) (sym same) c.dims-places.ensures.paving.paves)
          (subst (λ (y : List Bounds). IsStage rule depth y o m) (sym same) h.stage)
          (subst (λ (y : List Bounds). IsStage rule depth y m t) (sym n.root) n.stage));
      count = more_parts c.part_of-nodes.result c.loop-round.left c.args.budget.nodes o m t n.paved h.count part.few (c.is_closed.ensures.open c.if-is_closed.false);
      some = omega (arith, z);
      few = omega (arith, w, f, k);
      spent = omega (arith, u, v);
      least = omega (arith, e, d);
      low = omega (arith, l, x);
    }

pub returns-then-left-eq0-clause-stage : goal.returns-then-left-eq0-clause-stage
returns-then-left-eq0-clause-stage g c =
    let s = c.args.settler.now in let rule = g.S.Settler.settle_of s in let depth = g.S.Settler.depth_of s in
    let b = c.args.opening.root in let o = c.args.opening.tree in
    let m = c.loop-round.paved.paving.tree in let t = c.in_ok-next.next.paving.tree in
    let h = c.loop-round.invariant in let n = c.in_ok-next.ensures in
    let same : c.in_ok-next.next.paving.root ≡ b = n.root ∙ h.root in
    subst (λ (y : List Bounds). IsStage rule depth y o t) same
    (c.learn_paved.ensures.stages o m (subst (λ (y : List Bounds). Paves y o) (sym same) c.dims-places.ensures.paving.paves)
    (subst (λ (y : List Bounds). IsStage rule depth y o m) (sym same) h.stage)
    (subst (λ (y : List Bounds). IsStage rule depth y m t) (sym n.root) n.stage))

pub returns-then-left-eq0-clause-paved : goal.returns-then-left-eq0-clause-paved
returns-then-left-eq0-clause-paved g c =
    let n = c.in_ok-next.ensures in
    last_part c.part_of-nodes.result c.loop-round.left c.args.budget.nodes c.args.opening.tree c.loop-round.paved.paving.tree c.in_ok-next.next.paving.tree n.paved c.loop-round.invariant.count c.part_of-nodes.ensures.few c.if-left-eq0.true

pub returns-then-is_closed-clause-stage : goal.returns-then-is_closed-clause-stage
returns-then-is_closed-clause-stage g c =
    let s = c.args.settler.now in let rule = g.S.Settler.settle_of s in let depth = g.S.Settler.depth_of s in
    let b = c.args.opening.root in let o = c.args.opening.tree in
    let m = c.loop-round.paved.paving.tree in let t = c.in_ok-next.next.paving.tree in
    let h = c.loop-round.invariant in let n = c.in_ok-next.ensures in
    let same : c.in_ok-next.next.paving.root ≡ b = n.root ∙ h.root in
    subst (λ (y : List Bounds). IsStage rule depth y o t) same
    (c.learn_paved.ensures.stages o m (subst (λ (y : List Bounds). Paves y o) (sym same) c.dims-places.ensures.paving.paves)
    (subst (λ (y : List Bounds). IsStage rule depth y o m) (sym same) h.stage)
    (subst (λ (y : List Bounds). IsStage rule depth y m t) (sym n.root) n.stage))

pub returns-then-is_closed-clause-paved : goal.returns-then-is_closed-clause-paved
returns-then-is_closed-clause-paved g c =
    let n = c.in_ok-next.ensures in
    done_part c.part_of-nodes.result c.loop-round.left c.args.budget.nodes c.args.opening.tree c.loop-round.paved.paving.tree c.in_ok-next.next.paving.tree n.paved c.loop-round.invariant.count c.part_of-nodes.ensures.few (c.is_closed.ensures.closed c.if-is_closed.true)

pub returns-clause-paved : goal.returns-clause-paved
returns-clause-paved g c =
    let h = c.loop-round.invariant in let f = h.few in let s = h.some in
    let e = c.loop-round-test.false in let m = c.loop-round.auto._round-end in
    absurd (omega (arith, f, s, e, m))
