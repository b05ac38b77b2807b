use Rattle.std.proofs.Common.{◌<◌, ◌≤◌, length, refl, sym, subst, arith}
use Rattle.std.proofs.lemmas.List.{length-set}
use Rattle.pv_slope.specs.Centres.{at_centre}
use Rattle.pv_slope.proofs.Inside.{inside_more, parts_inside, whole_here}
use Rattle.pv_slope.proofs.Walking.{more_of, centre_then}
use Rattle.pv_slope.proofs.centre.centre_all.Goals as goal

pub value-requires-clause-parts : goal.value-requires-clause-parts
value-requires-clause-parts c =
    parts_inside c.args.values.now c.loop-at.centres c.args.nodes.now _ c.loop-at.at _ _ c.requires.ordered c.loop-at-test.true c.loop-at.invariant.inside refl

pub value-requires-clause-whole : goal.value-requires-clause-whole
value-requires-clause-whole c =
    whole_here c.args.bx.now c.args.nodes.now c.args.values.now _ c.loop-at.at _ _ c.index-values-at.result c.requires.ordered c.requires.valued c.loop-at-test.true refl c.index-values-at.is

pub loop-at-preserved : goal.loop-at-preserved
loop-at-preserved c =
    let test = c.loop-at-test.true in
    let within = c.loop-at.invariant.within in
    let same = c.requires.valued.same in
    let in_centres : c.loop-at.at < length c.loop-at.centres = omega (arith, test, within) in
    let in_values : c.loop-at.at < length c.args.values.now = omega (arith, test, same) in
    record {
      within = subst (λ n. length c.args.nodes.now ≤ n) (sym (length-set c.loop-at.centres c.loop-at.at c.value.result)) within;
      done = more_of (at_centre c.args.bx.now) c.args.nodes.now c.loop-at.centres c.loop-at.at c.value.result in_centres c.loop-at.invariant.done
          (centre_then c.args.bx.now c.args.nodes.now c.args.values.now c.loop-at.centres _ c.loop-at.at _ _ c.index-values-at.result c.value.result c.requires.ordered c.requires.valued test c.loop-at.invariant.done refl c.index-values-at.is c.value.ensures.value);
      inside = inside_more c.args.values.now c.loop-at.centres c.loop-at.at c.index-values-at.result c.value.result in_values in_centres c.index-values-at.is c.value.ensures.inside c.loop-at.invariant.inside;
    }
