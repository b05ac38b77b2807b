use Rattle.pv_slope.specs.Methods.{method_of}
use Rattle.pv_honest.proofs.HonestStages.{honest_of}
use Rattle.pv_honest.proofs.honest.learn_honest.Goals as goal

pub returns-clause-honest : goal.returns-clause-honest
returns-clause-honest c = λ system s is stage.
    let rule = method_of c.args.settler.now in
    honest_of system s rule c.args.paving.now.root c.args.paving.now.tree c.requires.root c.dims-places.ensures.paving c.dims-places.ensures.covers
    c.learn_stages.ensures.sound c.learn_stages.ensures.whole is stage
