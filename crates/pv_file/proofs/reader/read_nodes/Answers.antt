use Rattle.std.proofs.Common.{◌≡◌, suc, ◌+◌, ◌<◌, ◌≤◌, ◌^◌, [], length, refl, sym, ◌∙◌, ap, subst, arith, rules}
use Rattle.std.specs.Prelude.{Err}
use Rattle.pv_tree.specs.Trees.{Tree}
use Rattle.pv_file.specs.Lines.{lines_of}
use Rattle.pv_file.specs.Readings.{IsPavingInFormat, settled_count}
use Rattle.pv_file.proofs.Refusals.{same_error, same_bad, refused_memory, empty_is, not_empty, next_number}
use Rattle.pv_file.proofs.Reached.{begun_at, stepped, stuck_bad, stuck_none, full_many, full_none, trailing_bad, trailing_none, done_tree, done_text, done_paving, done_few, no_holes, read_few}
use Rattle.pv_file.proofs.reader.read_nodes.Goals as goal

pub loop-path-init : goal.loop-path-init
loop-path-init c = record {
  root = search rules;
  bx = search rules;
  read = 0;
  line = refl;
  few = omega arith;
  reached = begun_at c.args.version c.args.root.now _ c.args.body.now c.in_ok-growth.growth c.in_ok-growth.ensures c.in_ok-clone_of.ensures c.dims-places.ensures.is_box;
}

pub returns-in-Err-clause-complete : goal.returns-in-Err-clause-complete
returns-in-Err-clause-complete c = λ t paving few e.
    let r = c.loop-path.invariant.reached in
    refused_memory c.in-Err.refusal
    (λ w. c.take_node.ensures.not_other (c.in-Err.is ∙ ap Err w))
    (λ n w. stuck_none _ _ _ _ c.loop-path.growth _ _ t r (c.take_node.ensures.bad n (c.in-Err.is ∙ ap Err w)).1 paving e)
    (λ n w. full_none _ _ _ _ _ c.loop-path.growth _ _ t r (c.take_node.ensures.full n (c.in-Err.is ∙ ap Err w)).1 paving few e)

pub returns-in-Err-clause-bad : goal.returns-in-Err-clause-bad
returns-in-Err-clause-bad c = λ n e.
    let bad = c.take_node.ensures.bad n (c.in-Err.is ∙ ap Err (same_error _ _ e)) in
    stuck_bad _ _ _ _ _ c.loop-path.growth c.loop-path.invariant.read _ n c.loop-path.invariant.reached c.loop-path.invariant.few bad.1 (bad.0 ∙ c.loop-path.invariant.line)

pub returns-in-Err-clause-many : goal.returns-in-Err-clause-many
returns-in-Err-clause-many c = λ n e.
    let many = c.take_node.ensures.full n (c.in-Err.is ∙ ap Err (same_error _ _ e)) in
    full_many _ _ _ _ _ c.loop-path.growth c.loop-path.invariant.read _ n c.loop-path.invariant.reached c.loop-path.invariant.few many.1 (many.0 ∙ c.loop-path.invariant.line)

pub overflow_add-line : goal.overflow_add-line
overflow_add-line c =
    let read : c.loop-path.invariant.read ≤ length c.args.body.now = read_few _ _ _ _ _ _ _ _ c.loop-path.invariant.reached in
    let small : length c.args.body.now < 2 ^ 63 = search rules in
    let line : c.loop-path.line ≡ c.loop-path.invariant.read + 3 = c.loop-path.invariant.line in
    search rules

pub loop-path-preserved : goal.loop-path-preserved
loop-path-preserved c = record {
  root = c.in-Ok.ensures.step.root ∙ c.loop-path.invariant.root;
  bx = search rules;
  read = suc c.loop-path.invariant.read;
  line = next_number c.loop-path.line c.loop-path.invariant.read _ c.loop-path.invariant.line refl;
  few = c.in-Ok.ensures.few;
  reached = stepped c.args.version c.args.root.now c.args.body.now _ _ c.loop-path.growth c.take_node.new.growth c.loop-path.invariant.read _ _ c.loop-path.invariant.reached c.in-Ok.ensures.step;
}

pub returns-then-is_empty-clause-text : goal.returns-then-is_empty-clause-text
returns-then-is_empty-clause-text c =
    let r = no_holes _ _ _ _ _ _ _ _ (c.next_leaf.ensures.none c.in_default.is) c.loop-path.invariant.reached in
    let empty : c.loop-path.rest.now ≡ [] = empty_is c.loop-path.rest.now c.is_empty.result c.is_empty.ensures c.if-is_empty.true in
    done_text _ _ _ _ c.loop-path.growth.tree _ _ r empty ∙ ap (lines_of c.args.version c.args.root.now) (sym c.finish.ensures.tree)

pub returns-then-is_empty-clause-numbers : goal.returns-then-is_empty-clause-numbers
returns-then-is_empty-clause-numbers c =
    let r = no_holes _ _ _ _ _ _ _ _ (c.next_leaf.ensures.none c.in_default.is) c.loop-path.invariant.reached in
    subst (λ (t : Tree). IsPavingInFormat c.args.root.now t) (sym c.finish.ensures.tree) (done_paving _ _ _ _ c.loop-path.growth.tree _ _ r)

pub returns-then-is_empty-clause-few : goal.returns-then-is_empty-clause-few
returns-then-is_empty-clause-few c =
    let r = no_holes _ _ _ _ _ _ _ _ (c.next_leaf.ensures.none c.in_default.is) c.loop-path.invariant.reached in
    subst (λ (t : Tree). settled_count t ≤ c.args.limit) (sym c.finish.ensures.tree) (done_few _ _ _ _ _ c.loop-path.growth.tree _ _ r c.loop-path.invariant.few)

pub returns-then-is_empty-clause-complete : goal.returns-then-is_empty-clause-complete
returns-then-is_empty-clause-complete c = λ t paving few e.
    let r = no_holes _ _ _ _ _ _ _ _ (c.next_leaf.ensures.none c.in_default.is) c.loop-path.invariant.reached in
    c.finish.ensures.tree ∙ sym (done_tree _ _ _ _ c.loop-path.growth.tree t _ _ r paving e)

pub returns-else-is_empty-clause-complete : goal.returns-else-is_empty-clause-complete
returns-else-is_empty-clause-complete c = λ t paving few e.
    let r = no_holes _ _ _ _ _ _ _ _ (c.next_leaf.ensures.none c.in_default.is) c.loop-path.invariant.reached in
    absurd (not_empty c.loop-path.rest.now c.is_empty.result c.is_empty.ensures c.if-is_empty.false (trailing_none _ _ _ _ c.loop-path.growth.tree t _ _ r paving e))

pub returns-else-is_empty-clause-bad : goal.returns-else-is_empty-clause-bad
returns-else-is_empty-clause-bad c = λ n e.
    let r = no_holes _ _ _ _ _ _ _ _ (c.next_leaf.ensures.none c.in_default.is) c.loop-path.invariant.reached in
    trailing_bad _ _ _ _ _ c.loop-path.growth.tree c.loop-path.invariant.read _ n r c.loop-path.invariant.few (same_bad c.loop-path.line n e ∙ c.loop-path.invariant.line)
