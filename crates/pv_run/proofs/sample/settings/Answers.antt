use Rattle.pv_run.proofs.Sampled.{eight_from, eight_finite}
use Rattle.pv_run.proofs.sample.settings.Goals as goal

pub invariant_of-result-clause-eps_from : goal.invariant_of-result-clause-eps_from
invariant_of-result-clause-eps_from c = eight_from c.from_ratio.result c.from_ratio.ensures

pub invariant_of-result-clause-eps_finite : goal.invariant_of-result-clause-eps_finite
invariant_of-result-clause-eps_finite c = eight_finite c.from_ratio.result c.from_ratio.ensures
