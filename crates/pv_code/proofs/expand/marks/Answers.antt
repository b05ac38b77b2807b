use Rattle.std.proofs.Common.{◌∙◌, arith, true, inl, inr}
use Rattle.std.proofs.lemmas.Bool.{cases_lt}
use Rattle.std.proofs.lemmas.List.{get_or_past}
use Rattle.pv_code.proofs.expand.marks.Goals as goal

pub returns : goal.returns
returns c = λ i named.
    elim (cases_lt i c.loop-i.i) [
      | inl less ↦ c.loop-i.invariant.so_far i less ∙ named
      | inr most ↦ get_or_past c.loop-i.uses.items i true (omega (arith, most, c.loop-i.invariant.whole))
    ]
