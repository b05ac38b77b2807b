use Rattle.std.proofs.Common.{◌≡◌, ◌∙◌, ap, refl, arith}
use Rattle.pv_code.specs.Sizes.{cut, depth_in, nodes_in}
use Rattle.pv_code.proofs.Sizing.{depth-next, nodes-next, size-as, size-none, total-begun}
use Rattle.pv_code.proofs.value.measure_of.Goals as goal

pub loop-i-init : goal.loop-i-init
loop-i-init c = λ args inner few all.
    size-as _ args 0 0 _ _ (size-none _ args refl) (total-begun _ _) (total-begun _ _)

pub loop-i-preserved : goal.loop-i-preserved
loop-i-preserved c = λ args inner few all.
    size-as _ args _ _ _ _ (c.with-made.ensures args _ _ _ (c.loop-i.invariant args inner few all) (c.measure_at.ensures args inner few all))
    (nodes-next c.args.body.now.places inner c.loop-i.i _ refl) (depth-next c.args.body.now.places inner c.loop-i.i _ refl)

pub returns : goal.returns
returns c = λ args inner t few all s.
    let end : 13 ≡ c.loop-i.i = omega arith in
    let made = c.loop-i.invariant args inner few all in
    record {
      nodes_are = s.nodes_are ∙ ap (λ k. cut (nodes_in k c.args.body.now.places inner)) end ∙ made.nodes_are;
      depth_is = s.depth_is ∙ ap (λ k. cut (depth_in k c.args.body.now.places inner)) end ∙ made.depth_is;
    }
