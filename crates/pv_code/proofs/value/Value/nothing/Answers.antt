use Rattle.std.proofs.Common.{refl}
use Rattle.pv_code.proofs.Leaving.{of-step}
use Rattle.pv_code.proofs.value.Value.nothing.Goals as goal

pub returns : goal.returns
returns c = λ x. of-step x _ _ _ _ _ c.in_ok-of.ensures.measure c.in_ok-of.ensures.code refl (λ st. refl) (c.leaf.ensures x.arguments)
