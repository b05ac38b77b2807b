use Rattle.std.proofs.Common.{refl, suc, arith}
use Rattle.pv_tokens.proofs.Exists.{separated_more}
use Rattle.pv_tokens.proofs.scanner.gap_end.Goals as goal

pub loop-next-init : goal.loop-next-init
loop-next-init c = record { onward = omega arith; within = omega arith; gap = (0, refl) }

pub loop-next-preserved : goal.loop-next-preserved
loop-next-preserved c = record { onward = omega (arith, c.in-Some.ensures.1); within = c.in-Some.ensures.2; gap = (suc c.loop-next.invariant.gap.0, separated_more _ _ _ _ _ c.loop-next.invariant.gap.1 c.in-Some.ensures.0) }
