use Rattle.std.proofs.Common.{rules, refl}
use Rattle.pv_num.proofs.Fitted.{kept_sized, half_sized}
use Rattle.pv_num.proofs.alike.fitted.Goals as goal

pub returns-then-word-lt4611686018427387904-clause-sized : goal.returns-then-word-lt4611686018427387904-clause-sized
returns-then-word-lt4611686018427387904-clause-sized c = λ v b p k w.
    kept_sized c.args.toward c.args.word c.args.exponent v b _ refl p c.if-word-lt4611686018427387904.true c.requires.exponent_fits c.requires.justified k w

pub returns-clause-sized : goal.returns-clause-sized
returns-clause-sized c = λ v b p k w.
    half_sized c.args.toward c.args.word c.whole.result c.args.exponent v b _ refl p c.if-word-lt4611686018427387904.false (search rules) (search rules) w c.whole.ensures.whole
