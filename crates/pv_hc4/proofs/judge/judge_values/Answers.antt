use Rattle.std.proofs.Common.{length, sym, ◌∙◌, refl, subst}
use Rattle.pv_hc4.specs.Graphs.{IsAnswer}
use Rattle.pv_hc4.specs.Judging.{revised_by}
use Rattle.pv_hc4.specs.declared.revised.Revised.TheVariants.{Empty}
use Rattle.pv_hc4.proofs.Revising.{pass_none, answer_some}
use Rattle.pv_hc4.proofs.Judging.{none_sure, sure_kept}
use Rattle.pv_hc4.proofs.judge.judge_values.Goals as goal

pub returns-then-not-forward_all-clause-answer : goal.returns-then-not-forward_all-clause-answer
returns-then-not-forward_all-clause-answer c =
    subst (λ o. IsAnswer o Empty c.args.bx.now c.args.bx.now) (sym (pass_none (record { nodes = c.args.nodes.now; left = c.args.left; relation = c.args.relation; right = c.args.right; dims = length c.args.bx.now }) c.args.bx.now c.requires.graph c.if-not-forward_all.ensures.passed)) refl

pub returns-then-not-forward_all-clause-sure : goal.returns-then-not-forward_all-clause-sure
returns-then-not-forward_all-clause-sure c =
    none_sure (record { nodes = c.args.nodes.now; left = c.args.left; relation = c.args.relation; right = c.args.right; dims = length c.args.bx.now }) c.args.bx.now c.requires.graph c.if-not-forward_all.ensures.passed

pub returns-then-is_sure-clause-answer : goal.returns-then-is_sure-clause-answer
returns-then-is_sure-clause-answer c =
    sure_kept (record { nodes = c.args.nodes.now; left = c.args.left; relation = c.args.relation; right = c.args.right; dims = length c.args.bx.now }) c.args.bx.now c.requires.graph c.dims-dims.ensures.is_box.intervals (sym c.is_sure.ensures ∙ c.if-is_sure.true)

pub returns-in-Some-clause-answer : goal.returns-in-Some-clause-answer
returns-in-Some-clause-answer c =
    answer_some (record { nodes = c.args.nodes.now; left = c.args.left; relation = c.args.relation; right = c.args.right; dims = length c.args.bx.now }) c.args.bx.now c.judge_sides.new.bx c.forward_all.new.values c.index-values-left.result c.index-values-right.result c.related.result c.in-Some.both (revised_by c.judge_sides.result) c.requires.graph refl c.if-not-forward_all.ensures.passed c.index-values-left.is c.index-values-right.is c.related.ensures c.in-Some.is c.judge_sides.ensures.answer
