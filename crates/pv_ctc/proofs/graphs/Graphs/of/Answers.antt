use Rattle.std.proofs.Common.{◌≡◌, ◌+◌, ◌++◌, take, length, [], ◌∷◌, ap, sym, ◌∙◌, subst, arith, length-append}
use Rattle.std.proofs.lemmas.List.{length-map}
use Rattle.std.specs.Prelude.{All, map}
use Rattle.std.proofs.lemmas.List.Elements.{All-push}
use Rattle.pv_hc4.specs.Graphs.{sides_of, sides_named}
use Rattle.pv_ctc.specs.Uses.{HaveUses}
use Rattle.pv_ctc.specs.Users.{AreTurned}
use Rattle.pv_ctc.proofs.Collected.{sides_more, named_more}
use Rattle.pv_ctc.specs.Members.{AllOver}
use Rattle.pv_ctc.proofs.Marking.{uses_more, uses_length}
use Rattle.pv_ctc.proofs.Using.{are_users, all_over_push}
use Rattle.pv_ctc.proofs.graphs.Graphs.of.Goals as goal

pub invariant_of-result : goal.invariant_of-result
invariant_of-result c = (
  record {
    some = omega (arith, c.loop-i.invariant.count, c.loop-i.invariant.end, c.loop-i-test.false, c.constraint_count-i-end.ensures.limits.some_constraints);
    few = omega (arith, c.loop-i.invariant.count, c.loop-i.invariant.end, c.loop-i.auto.i-end, c.constraint_count-i-end.ensures.limits.few_constraints);
    same_dims = c.loop-i.invariant.same;
  },
  subst (HaveUses c.loop-i.uses.items) (sym c.loop-i.invariant.sides) c.loop-i.invariant.uses,
  are_users c.users_of-users.result c.loop-i.uses.items (map sides_of c.loop-i.graphs.items) (subst (HaveUses c.loop-i.uses.items) (sym c.loop-i.invariant.sides) c.loop-i.invariant.uses) (subst (AreTurned c.users_of-users.result) c.deref.ensures.value c.users_of-users.ensures),
  c.loop-i.invariant.over,
)

pub loop-i-preserved : goal.loop-i-preserved
loop-i-preserved c = record {
  end = c.loop-i.invariant.end;
  count = ap length c.in_ok-push-2.ensures.items ∙ (omega (arith, length-append c.loop-i.graphs.items (c.in_ok-of.field-0 ∷ []), c.loop-i.invariant.count));
  same = subst (All (λ h. h.dims ≡ c.variable_count-dims.result)) (sym c.in_ok-push-2.ensures.items) (All-push (λ h. h.dims ≡ c.variable_count-dims.result) c.loop-i.graphs.items c.in_ok-of.field-0 c.loop-i.invariant.same c.in_ok-of.ensures.dims);
  over = subst (λ gs. AllOver c.variable_count-dims.result (map sides_of gs)) (sym c.in_ok-push-2.ensures.items) (all_over_push c.variable_count-dims.result c.loop-i.graphs.items c.in_ok-of.field-0 c.loop-i.invariant.over c.in_ok-of.ensures.dims c.in_ok-of.ensures.over);
  uses =
      subst (λ us. HaveUses us (map sides_named (take (c.loop-i.i + 1) c.args.system.now.constraints))) (sym c.in_ok-push.ensures.items)
      (subst (HaveUses (c.loop-i.uses.items ++ c.uses_of.result ∷ [])) (sym (named_more c.args.system.now.constraints c.loop-i.i c.constraint-constraint.result.now c.constraint-constraint.ensures.found))
      (uses_more c.loop-i.uses.items c.uses_of.result (map sides_named (take c.loop-i.i c.args.system.now.constraints)) (sides_named c.constraint-constraint.result.now) c.loop-i.invariant.uses c.uses_of.ensures));
  sides = ap (map sides_of) c.in_ok-push-2.ensures.items ∙ sides_more c.loop-i.graphs.items c.in_ok-of.field-0 c.args.system.now.constraints c.loop-i.i c.constraint-constraint.result.now c.loop-i.invariant.sides c.constraint-constraint.ensures.found c.in_ok-of.ensures.sides;
}

pub users_of-users-requires : goal.users_of-users-requires
users_of-users-requires c =
    let e = uses_length c.loop-i.uses.items (map sides_of c.loop-i.graphs.items) (subst (HaveUses c.loop-i.uses.items) (sym c.loop-i.invariant.sides) c.loop-i.invariant.uses) in
    let v = ap length c.deref.ensures.value in
    omega (arith, e, v, length-map c.loop-i.graphs.items sides_of, c.loop-i.invariant.count, c.loop-i.invariant.end, c.loop-i.auto.i-end, c.constraint_count-i-end.ensures.limits.few_constraints)
