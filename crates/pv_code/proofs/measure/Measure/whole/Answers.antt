use Rattle.std.proofs.Common.{◌≡◌, ◌∙◌, sym, ap, refl, arith, []}
use Rattle.pv_code.specs.Sizes.{cut, depth_in, nodes_in}
use Rattle.pv_code.proofs.Sizing.{total-begun, whole-depth, whole-nodes}
use Rattle.pv_code.proofs.measure.Measure.whole.Goals as goal

pub loop-place-init : goal.loop-place-init
loop-place-init c = record {
  nodes = ap cut (total-begun _ _);
  depth = ap cut (total-begun _ _);
}

pub loop-place-preserved : goal.loop-place-preserved
loop-place-preserved c = record {
  nodes = whole-nodes c.args.self.now.places c.loop-place.place-index c.loop-place.all _ c.beside-all.result c.beside-all.ensures refl c.loop-place.invariant.nodes;
  depth = whole-depth c.args.self.now.places c.loop-place.place-index c.loop-place.all _ c.beside-all.result c.beside-all.ensures refl c.loop-place.invariant.depth;
}

pub returns : goal.returns
returns c =
    let end : 13 ≡ c.loop-place.place-index = omega arith in
    record {
      nodes = λ t s. s.nodes_are ∙ ap (λ k. cut (nodes_in k c.args.self.now.places [])) end ∙ sym c.loop-place.invariant.nodes;
      depth = λ t s. s.depth_is ∙ ap (λ k. cut (depth_in k c.args.self.now.places [])) end ∙ sym c.loop-place.invariant.depth;
    }
