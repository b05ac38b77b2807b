use Rattle.std.proofs.Common.{◌≡◌, ◌+◌, ◌-◌, arith}
use Rattle.pv_num.proofs.Differences.{doubled_exact, doubled_whole, shifted_whole, same_exact, few_units}
use Rattle.pv_num.proofs.unlike.units.Goals as goal

pub returns-then-exponent-size-clause-whole : goal.returns-then-exponent-size-clause-whole
returns-then-exponent-size-clause-whole c = doubled_whole c.args.toward c.args.size.mantissa c.args.size.exponent c.args.exponent c.if-exponent-size.true c.requires.near

pub returns-then-exponent-size-clause-exact : goal.returns-then-exponent-size-clause-exact
returns-then-exponent-size-clause-exact c = λ _. doubled_exact c.args.size.mantissa c.args.size.exponent c.args.exponent c.if-exponent-size.true c.requires.near

pub returns-clause-whole : goal.returns-clause-whole
returns-clause-whole c =
    let q : c.args.exponent - c.args.size.exponent + c.args.size.exponent ≡ c.args.exponent = omega (arith, c.if-exponent-size.false) in
    shifted_whole c.args.toward c.args.size.mantissa (c.args.exponent - c.args.size.exponent) c.args.size.exponent c.args.exponent c.whole.result q c.whole.ensures.whole

pub returns-clause-exact : goal.returns-clause-exact
returns-clause-exact c = λ h.
    same_exact c.args.toward c.args.size.mantissa (c.args.exponent - c.args.size.exponent) c.args.size.exponent c.args.exponent c.whole.result
    (omega (arith, h, c.if-exponent-size.false)) (omega (arith, h, c.if-exponent-size.false)) c.whole.ensures.whole

pub returns-clause-few : goal.returns-clause-few
returns-clause-few c = λ h. few_units c.args.toward c.args.size.mantissa (c.args.exponent - c.args.size.exponent) c.whole.result (omega (arith, h)) c.args.size.mantissa_fits c.whole.ensures.whole
