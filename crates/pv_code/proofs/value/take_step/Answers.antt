use Rattle.std.proofs.Common.{◌≡◌, ◌-◌, ◌++◌, ◌∷◌, ◌∙◌, [], List, ap, arith, length, refl, reverse, rules, subst, sym, take}
use Rattle.pv_code.specs.declared.code.Op.{Op}
use Rattle.pv_code.specs.declared.value.Value.{Value}
use Rattle.pv_code.specs.Expansion.{below}
use Rattle.pv_code.specs.Sizes.{IsShortCall}
use Rattle.pv_code.specs.Values.{AreAll, Represents, at}
use Rattle.pv_code.proofs.Leaving.{few-arguments, of-one, of-step, of-two, placed, stacked-call}
use Rattle.pv_code.proofs.value.take_step.Goals.{in-Constant+in_ok-made-in-Constant, in-Variable+in_ok-made-in-Variable, in-Parameter+in_ok-made-in-Parameter, in-One+in_ok-value-in-One+in_ok-push-in-One, in-Two+in_ok-right-in-Two+in_ok-left-in-Two+in_ok-extend_from_slice-in-Two+in_ok-push-in-Two, in-Call+in_ok-arguments-in-Call+in_ok-made-in-Call}
use Rattle.pv_code.proofs.Sizing.{size-as}
use Rattle.pv_code.proofs.value.take_step.Goals as goal

pub returns : goal.returns
returns c = λ code ms args ts short s.
    elim c.match-op.branch [
      | in-Constant+in_ok-made-in-Constant w ↦
          placed (at c.args.functions.now ms args code) c.args.op _ ts _ _ c.match-op.stack.items _ c.push-2.new.self.items c.match-op.made _ w.in-Constant.is refl (ap (λ v. v.items) w.stack-is) w.made-is c.in_ok-push.ensures.items
          (of-step (at c.args.functions.now ms args code) _ _ c.args.op _ _ w.in_ok-made-in-Constant.ensures.measure w.in_ok-made-in-Constant.ensures.code w.in-Constant.is (λ st. refl) (w.leaf.ensures args)) s
      | in-Variable+in_ok-made-in-Variable w ↦
          placed (at c.args.functions.now ms args code) c.args.op _ ts _ _ c.match-op.stack.items _ c.push-2.new.self.items c.match-op.made _ w.in-Variable.is refl (ap (λ v. v.items) w.stack-is) w.made-is c.in_ok-push.ensures.items
          (of-step (at c.args.functions.now ms args code) _ _ c.args.op _ _ w.in_ok-made-in-Variable.ensures.measure w.in_ok-made-in-Variable.ensures.code w.in-Variable.is (λ st. refl) (w.leaf-in-Variable.ensures args)) s
      | in-Parameter+in_ok-made-in-Parameter w ↦
          placed (at c.args.functions.now ms args code) c.args.op _ ts _ _ c.match-op.stack.items _ c.push-2.new.self.items c.match-op.made _ w.in-Parameter.is refl (ap (λ v. v.items) w.stack-is) w.made-is c.in_ok-push.ensures.items
          (of-step (at c.args.functions.now ms args code) _ _ _ _ _ w.in_ok-made-in-Parameter.ensures.measure w.in_ok-made-in-Parameter.ensures.code refl (λ st. refl) (w.of_parameter.ensures args)) s
      | in-One+in_ok-value-in-One+in_ok-push-in-One w ↦
          let taken = w.in_ok-value-in-One.ensures (at c.args.functions.now ms args code) ts s in
          placed (at c.args.functions.now ms args code) c.args.op _ ts _ _ c.match-op.stack.items _ c.push-2.new.self.items c.match-op.made _ w.in-One.is refl (ap (λ v. v.items) w.stack-is) w.made-is c.in_ok-push.ensures.items
          (of-one (at c.args.functions.now ms args code) w.in_ok-value-in-One.value _ c.args.op _ _ w.in-One.is w.in_ok-push-in-One.ensures.items
          (λ args t u few of_t. size-as _ args _ _ _ _ (w.with-value.ensures args 1 1 t (w.leaf-in-One.ensures args few) of_t) (omega arith) (omega arith)) taken.0) taken.1
      | in-Two+in_ok-right-in-Two+in_ok-left-in-Two+in_ok-extend_from_slice-in-Two+in_ok-push-in-Two w ↦
          let right = w.in_ok-right-in-Two.ensures (at c.args.functions.now ms args code) ts s in
          let left = w.in_ok-left-in-Two.ensures (at c.args.functions.now ms args code) (below ts) right.1 in
          placed (at c.args.functions.now ms args code) c.args.op _ ts _ _ c.match-op.stack.items _ c.push-2.new.self.items c.match-op.made _ w.in-Two.is refl (ap (λ v. v.items) w.stack-is) w.made-is c.in_ok-push.ensures.items
          (of-two (at c.args.functions.now ms args code) w.in_ok-left-in-Two.left w.in_ok-right-in-Two.right _ c.args.op _ _ _ w.in-Two.is
          (w.in_ok-push-in-Two.ensures.items ∙ ap (λ z. z ++ c.args.op ∷ []) (w.in_ok-extend_from_slice-in-Two.ensures.items ∙ ap (λ z. w.in_ok-left-in-Two.left.code.items ++ z) w.as_slice.ensures.value))
          (λ args t u b few of_t of_u. size-as _ args _ _ _ _ (w.with-left.ensures args _ _ u (w.with.ensures args 1 1 t (w.leaf-in-Two.ensures args few) of_t) of_u) (omega arith) (omega arith))
          left.0 right.0) left.1
      | in-Call+in_ok-arguments-in-Call+in_ok-made-in-Call w ↦
          let first : w.saturating_sub-first.result ≡ length c.args.stack.now.items - w.in-Call.arity = search rules in
          let both = stacked-call (at c.args.functions.now ms args code) c.args.stack.now.items w.in_ok-arguments-in-Call.arguments.items _ w.in-Call.arity w.saturating_sub-first.result ts first
          w.in_ok-arguments-in-Call.ensures.tail w.in_ok-arguments-in-Call.ensures.items s in
          placed (at c.args.functions.now ms args code) c.args.op _ ts _ _ c.match-op.stack.items _ c.push-2.new.self.items c.match-op.made _ w.in-Call.is refl (ap (λ v. v.items) w.stack-is) w.made-is c.in_ok-push.ensures.items
          (w.in_ok-made-in-Call.ensures code ms args (reverse (take w.in-Call.arity ts)) (λ all. few-arguments w.in-Call.arity ts (subst (λ (o : Op). IsShortCall o) w.in-Call.is (short all)))
          (subst (λ (z : List Value). AreAll (Represents (at c.args.functions.now ms args code)) z (reverse (take w.in-Call.arity ts))) (sym w.as_slice-in-Call.ensures.value) both.0)) both.1
    ]
