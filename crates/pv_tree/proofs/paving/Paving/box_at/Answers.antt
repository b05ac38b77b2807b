use Rattle.std.proofs.Common.{◌≡◌, ◌<◌, ◌-◌, sym, ◌∙◌, ap, subst, length, Some, None, get_or, false}
use Rattle.pv_tree.specs.contracts.paving.Paving.{the_view}
use Rattle.std.specs.Option.{IsSome}
use Rattle.pv_tree.specs.Trees.{subtree, box_of}
use Rattle.pv_tree.specs.Arena.{cell_along, HasHalves, half_at}
use Rattle.pv_tree.proofs.Wholes.{whole_kids}
use Rattle.pv_tree.proofs.Halves.{has_box, not_none, half_size}
use Rattle.pv_tree.proofs.paving.Paving.box_at.Goals as goal

pub cell_after-requires-clause-kids : goal.cell_after-requires-clause-kids
cell_after-requires-clause-kids c = rw c.deref.ensures.value (whole_kids _ _ _ _ c.self.invariant.0)

pub child_box-requires : goal.child_box-requires
child_box-requires c =
    let some : 0 < length c.args.path = (let f = c.if-steps-eq0.false in let e = c.len-steps.ensures.count in not_none (length c.args.path) c.len-steps.result e f) in
    let there = subst (λ s. IsSome (subtree s.tree c.args.path)) (sym c.self.view_is) c.requires.there in
    let dims : length c.args.into.now ≡ length c.self.inside.root = c.requires.dims ∙ sym (ap (λ s. length s.root) c.self.view_is) in
    let hb = has_box c.self.inside.root c.self.inside.ends.items c.self.inside.nodes.items c.self.inside.counts c.args.path c.self.invariant.0 c.len-steps.ensures.few some there in
    let e : Some c.in-Some.cell ≡ Some hb.cell = c.in-Some.ensures ∙ ap (λ ns. cell_along ns c.args.path (c.len-steps.result - 1)) c.deref.ensures.value ∙ ap (λ n. cell_along c.self.inside.nodes.items c.args.path (n - 1)) c.len-steps.ensures.count ∙ hb.is in
    let same : c.in-Some.cell ≡ hb.cell = cc in
    subst (λ n. HasHalves n c.deref-in-Some.result.now c.in-Some.cell) (sym dims)
    (subst (λ es. HasHalves (length c.self.inside.root) es c.in-Some.cell) (sym c.deref-in-Some.ensures.value) (subst (HasHalves (length c.self.inside.root) c.self.inside.ends.items) (sym same) hb.halves))

pub unreachable-requires : goal.unreachable-requires
unreachable-requires c =
    let some : 0 < length c.args.path = (let f = c.if-steps-eq0.false in let e = c.len-steps.ensures.count in not_none (length c.args.path) c.len-steps.result e f) in
    let there = subst (λ s. IsSome (subtree s.tree c.args.path)) (sym c.self.view_is) c.requires.there in
    let dims : length c.args.into.now ≡ length c.self.inside.root = c.requires.dims ∙ sym (ap (λ s. length s.root) c.self.view_is) in
    let hb = has_box c.self.inside.root c.self.inside.ends.items c.self.inside.nodes.items c.self.inside.counts c.args.path c.self.invariant.0 c.len-steps.ensures.few some there in
    let e : None ≡ Some hb.cell = sym c.in-None.is ∙ c.cell_after.ensures ∙ ap (λ ns. cell_along ns c.args.path (c.len-steps.result - 1)) c.deref.ensures.value ∙ ap (λ n. cell_along c.self.inside.nodes.items c.args.path (n - 1)) c.len-steps.ensures.count ∙ hb.is in
    cc

pub returns-clause-is : goal.returns-clause-is
returns-clause-is c =
    let some : 0 < length c.args.path = (let f = c.if-steps-eq0.false in let e = c.len-steps.ensures.count in not_none (length c.args.path) c.len-steps.result e f) in
    let there = subst (λ s. IsSome (subtree s.tree c.args.path)) (sym c.self.view_is) c.requires.there in
    let dims : length c.args.into.now ≡ length c.self.inside.root = c.requires.dims ∙ sym (ap (λ s. length s.root) c.self.view_is) in
    let hb = has_box c.self.inside.root c.self.inside.ends.items c.self.inside.nodes.items c.self.inside.counts c.args.path c.self.invariant.0 c.len-steps.ensures.few some there in
    let e : Some c.in-Some.cell ≡ Some hb.cell = c.in-Some.ensures ∙ ap (λ ns. cell_along ns c.args.path (c.len-steps.result - 1)) c.deref.ensures.value ∙ ap (λ n. cell_along c.self.inside.nodes.items c.args.path (n - 1)) c.len-steps.ensures.count ∙ hb.is in
    let same : c.in-Some.cell ≡ hb.cell = cc in
    let step : c.step.result ≡ get_or c.args.path (length c.args.path - 1) false = c.step.ensures ∙ ap (λ n. get_or c.args.path (n - 1) false) c.len-steps.ensures.count in
    let w : Some c.child_box.new.into ≡ Some (box_of (the_view c.self.inside).root (the_view c.self.inside).tree c.args.path) =
    sym c.child_box.ensures ∙ ap (λ n. half_at n c.deref-in-Some.result.now c.in-Some.cell c.step.result) dims
    ∙ ap (λ es. half_at (length c.self.inside.root) es c.in-Some.cell c.step.result) c.deref-in-Some.ensures.value
    ∙ ap (λ x. half_at (length c.self.inside.root) c.self.inside.ends.items x c.step.result) same
    ∙ ap (half_at (length c.self.inside.root) c.self.inside.ends.items hb.cell) step ∙ hb.half in
    let here : c.child_box.new.into ≡ box_of (the_view c.self.inside).root (the_view c.self.inside).tree c.args.path = cc in
    here ∙ ap (λ s. box_of s.root s.tree c.args.path) c.self.view_is

pub returns-clause-places : goal.returns-clause-places
returns-clause-places c =
    let some : 0 < length c.args.path = (let f = c.if-steps-eq0.false in let e = c.len-steps.ensures.count in not_none (length c.args.path) c.len-steps.result e f) in
    let there = subst (λ s. IsSome (subtree s.tree c.args.path)) (sym c.self.view_is) c.requires.there in
    let dims : length c.args.into.now ≡ length c.self.inside.root = c.requires.dims ∙ sym (ap (λ s. length s.root) c.self.view_is) in
    let hb = has_box c.self.inside.root c.self.inside.ends.items c.self.inside.nodes.items c.self.inside.counts c.args.path c.self.invariant.0 c.len-steps.ensures.few some there in
    let e : Some c.in-Some.cell ≡ Some hb.cell = c.in-Some.ensures ∙ ap (λ ns. cell_along ns c.args.path (c.len-steps.result - 1)) c.deref.ensures.value ∙ ap (λ n. cell_along c.self.inside.nodes.items c.args.path (n - 1)) c.len-steps.ensures.count ∙ hb.is in
    let same : c.in-Some.cell ≡ hb.cell = cc in
    let w : Some c.child_box.new.into ≡ half_at (length c.self.inside.root) c.self.inside.ends.items hb.cell c.step.result =
    sym c.child_box.ensures ∙ ap (λ n. half_at n c.deref-in-Some.result.now c.in-Some.cell c.step.result) dims
    ∙ ap (λ es. half_at (length c.self.inside.root) es c.in-Some.cell c.step.result) c.deref-in-Some.ensures.value
    ∙ ap (λ x. half_at (length c.self.inside.root) c.self.inside.ends.items x c.step.result) same in
    half_size (length c.self.inside.root) c.self.inside.ends.items hb.cell c.step.result c.child_box.new.into hb.halves (sym w) ∙ sym dims
