use Rattle.std.proofs.Common.{◌≡◌, ◌+◌, ◌-◌, ◌*◌, ℕ, List, refl, sym, ◌∙◌, arith, subst}
use Rattle.pv_interval.specs.Bounds.{Bounds}
use Rattle.pv_tree.specs.Trees.{Paves}
use Rattle.pv_tree.specs.Stages.{IsStage}
use Rattle.pv_tree.proofs.Earlier.{opening_is_stage}
use Rattle.pv_scope.proofs.Passes.{IsBegun, begun_first, begun_next, level_here, over_spent, last_spent}
use Rattle.pv_scope.proofs.levels.by_passes.Goals as goal

pub loop-pass-init : goal.loop-pass-init
loop-pass-init g c = record {
  root = refl;
  scratch = c.in_ok-workspace.ensures.places ∙ c.dims.ensures.dims ∙ c.requires.dims;
  stage = λ earlier paves stage. stage;
  begun = begun_first c.args.opening.tree;
  count = omega arith;
  few = omega arith;
  some = omega arith;
}

pub returns-then-is_over-clause-level : goal.returns-then-is_over-clause-level
returns-then-is_over-clause-level g c =
    let l = c.loop-pass in let came = c.in_ok-came.came in
    level_here c.args.opening.tree l.paving.tree c.settle_pass.new.paving.tree l.pass (4 * l.pass) (c.args.budget - l.settled) came.settled came.done refl l.invariant.some l.invariant.begun c.in_ok-came.ensures.pass

pub returns-then-is_over-clause-spent : goal.returns-then-is_over-clause-spent
returns-then-is_over-clause-spent g c =
    let l = c.loop-pass in let came = c.in_ok-came.came in
    over_spent c.args.opening.tree l.paving.tree c.settle_pass.new.paving.tree (4 * l.pass) c.args.budget l.settled came.settled came.done c.in_ok-came.ensures.pass l.invariant.few l.invariant.count
    (c.is_over.ensures.over c.if-is_over.true)

pub returns-then-is_over-clause-stages : goal.returns-then-is_over-clause-stages
returns-then-is_over-clause-stages g c = λ earlier paves stage.
    let s = c.args.settler.now in let rule = g.S.Settler.settle_of s in let depth = g.S.Settler.depth_of s in let l = c.loop-pass in let root = l.invariant.root in
    subst (λ (b : List Bounds). IsStage rule depth b earlier c.settle_pass.new.paving.tree) (c.in_ok-came.ensures.root ∙ root)
    (c.in_ok-came.ensures.stage earlier (subst (λ (b : List Bounds). Paves b earlier) (sym root) paves)
    (subst (λ (b : List Bounds). IsStage rule depth b earlier l.paving.tree) (sym root) (l.invariant.stage earlier paves stage)))

pub returns-then-is_over-clause-stage : goal.returns-then-is_over-clause-stage
returns-then-is_over-clause-stage g c =
    let s = c.args.settler.now in let rule = g.S.Settler.settle_of s in let depth = g.S.Settler.depth_of s in let l = c.loop-pass in let root = l.invariant.root in
    let t = c.args.opening.tree in let paves = c.dims.ensures.paving.paves in
    subst (λ (b : List Bounds). IsStage rule depth b t c.settle_pass.new.paving.tree) (c.in_ok-came.ensures.root ∙ root)
    (c.in_ok-came.ensures.stage t (subst (λ (b : List Bounds). Paves b t) (sym root) paves)
    (subst (λ (b : List Bounds). IsStage rule depth b t l.paving.tree) (sym root) (l.invariant.stage t paves (opening_is_stage rule depth c.args.opening.root t))))

pub returns-clause-stages : goal.returns-clause-stages
returns-clause-stages g c = λ earlier paves stage.
    let s = c.args.settler.now in let rule = g.S.Settler.settle_of s in let depth = g.S.Settler.depth_of s in let l = c.loop-pass in let root = l.invariant.root in
    subst (λ (b : List Bounds). IsStage rule depth b earlier c.settle_pass-2.new.paving.tree) (c.in_ok-came-2.ensures.root ∙ root)
    (c.in_ok-came-2.ensures.stage earlier (subst (λ (b : List Bounds). Paves b earlier) (sym root) paves)
    (subst (λ (b : List Bounds). IsStage rule depth b earlier l.paving.tree) (sym root) (l.invariant.stage earlier paves stage)))

pub returns-clause-stage : goal.returns-clause-stage
returns-clause-stage g c =
    let s = c.args.settler.now in let rule = g.S.Settler.settle_of s in let depth = g.S.Settler.depth_of s in let l = c.loop-pass in let root = l.invariant.root in
    let t = c.args.opening.tree in let paves = c.dims.ensures.paving.paves in
    subst (λ (b : List Bounds). IsStage rule depth b t c.settle_pass-2.new.paving.tree) (c.in_ok-came-2.ensures.root ∙ root)
    (c.in_ok-came-2.ensures.stage t (subst (λ (b : List Bounds). Paves b t) (sym root) paves)
    (subst (λ (b : List Bounds). IsStage rule depth b t l.paving.tree) (sym root) (l.invariant.stage t paves (opening_is_stage rule depth c.args.opening.root t))))

pub loop-pass-preserved : goal.loop-pass-preserved
loop-pass-preserved g c =
    let s = c.args.settler.now in let rule = g.S.Settler.settle_of s in let depth = g.S.Settler.depth_of s in let l = c.loop-pass in let root = l.invariant.root in
    let came = c.in_ok-came.came in let pass = c.in_ok-came.ensures.pass in let more = pass.count in let less = pass.few in let was = l.invariant.count in let few = l.invariant.few in
    record {
      root = c.in_ok-came.ensures.root ∙ root;
      scratch = c.in_ok-came.ensures.scratch;
      stage = λ earlier paves stage. subst (λ (b : List Bounds). IsStage rule depth b earlier c.settle_pass.new.paving.tree) (c.in_ok-came.ensures.root ∙ root)
          (c.in_ok-came.ensures.stage earlier (subst (λ (b : List Bounds). Paves b earlier) (sym root) paves)
          (subst (λ (b : List Bounds). IsStage rule depth b earlier l.paving.tree) (sym root) (l.invariant.stage earlier paves stage)));
      begun = begun_next c.args.opening.tree l.paving.tree c.settle_pass.new.paving.tree l.pass (4 * l.pass) (c.args.budget - l.settled) came.settled came.done refl l.invariant.some l.invariant.begun pass
          (l.pass + 1) refl (c.is_over.ensures.on c.if-is_over.false);
      count = omega (arith, more, was);
      few = omega (arith, less, few);
      some = omega arith;
    }

pub returns-clause-spent : goal.returns-clause-spent
returns-clause-spent g c =
    let l = c.loop-pass in let came = c.in_ok-came-2.came in
    last_spent c.args.opening.tree l.paving.tree c.settle_pass-2.new.paving.tree (4 * 51) c.args.budget l.settled came.settled came.done c.in_ok-came-2.ensures.pass l.invariant.few l.invariant.count
    (omega arith) c.dims-sides.ensures.paving.depth

pub returns-clause-level : goal.returns-clause-level
returns-clause-level g c =
    let l = c.loop-pass in let came = c.in_ok-came-2.came in let low = c.loop-pass-test.false in let high = c.loop-pass.auto.pass-end in
    let last : l.pass ≡ 51 = omega (arith, low, high) in
    level_here c.args.opening.tree l.paving.tree c.settle_pass-2.new.paving.tree 51 (4 * 51) (c.args.budget - l.settled) came.settled came.done refl (omega arith)
    (subst (λ (n : ℕ). IsBegun c.args.opening.tree l.paving.tree n) last l.invariant.begun) c.in_ok-came-2.ensures.pass
