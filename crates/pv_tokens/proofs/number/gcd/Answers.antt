use Rattle.std.proofs.lemmas.Nat.Gcd.{IsGcd-from_mod, IsGcd-from_zero}
use Rattle.pv_tokens.proofs.number.gcd.Goals as goal

pub loop-b-preserved : goal.loop-b-preserved
loop-b-preserved c = λ g rest. c.loop-b.invariant g (IsGcd-from_mod _ _ g rest)

pub returns : goal.returns
returns c = c.loop-b.invariant _ (IsGcd-from_zero _ _ c.loop-b-test.false)
