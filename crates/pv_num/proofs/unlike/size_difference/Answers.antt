use Rattle.std.proofs.Common.{◌≡◌, ◌+◌, ◌-◌, arith, ◌∙◌}
use Rattle.pv_num.proofs.Differences.{at_zero, exact_sized, taken_below, word_whole, few_exact, word_high}
use Rattle.pv_num.proofs.Sums.{exponents_ordered}
use Rattle.pv_num.proofs.unlike.size_difference.Goals as goal

pub returns-then-x-eq0 : goal.returns-then-x-eq0
returns-then-x-eq0 c =
    let o = exponents_ordered c.args.x.mantissa c.args.x.exponent c.args.y.mantissa c.args.y.exponent c.args.x.mantissa_fits c.args.y.justified c.requires.ordered in
    exact_sized c.args.toward _ c.justified.result
    (c.justified.ensures ∙ at_zero c.args.x.mantissa c.args.y.mantissa c.args.x.exponent c.args.y.exponent c.if-x-eq0.true (omega (arith, o, c.if-x-eq0.true)))

pub units-requires : goal.units-requires
units-requires c =
    let o = exponents_ordered c.args.x.mantissa c.args.x.exponent c.args.y.mantissa c.args.y.exponent c.args.x.mantissa_fits c.args.y.justified c.requires.ordered in
    record { near = omega (arith, o) }

pub overflow_sub-word : goal.overflow_sub-word
overflow_sub-word c =
    let q : c.args.x.exponent - 1 + 1 ≡ c.args.x.exponent = omega (arith, c.if-x-eq0.false) in
    taken_below c.other.result c.args.x.mantissa c.args.x.exponent c.args.y.mantissa c.args.y.exponent (c.args.x.exponent - 1) c.units.result q c.requires.ordered c.units.ensures.whole

pub returns-then-word-lt2305843009213693952 : goal.returns-then-word-lt2305843009213693952
returns-then-word-lt2305843009213693952 c =
    let q : c.args.x.exponent - 1 + 1 ≡ c.args.x.exponent = omega (arith, c.if-x-eq0.false) in
    let b = taken_below c.other.result c.args.x.mantissa c.args.x.exponent c.args.y.mantissa c.args.y.exponent (c.args.x.exponent - 1) c.units.result q c.requires.ordered c.units.ensures.whole in
    exact_sized c.args.toward _ c.justified-then-word-lt2305843009213693952.result
    (c.justified-then-word-lt2305843009213693952.ensures
    ∙ few_exact c.args.x.mantissa c.args.x.exponent c.args.y.mantissa c.args.y.exponent (c.args.x.exponent - 1) c.units.result q (c.args.x.justified (omega (arith, c.if-x-eq0.false))) b
    c.if-word-lt2305843009213693952.true c.units.ensures.exact c.units.ensures.few)

pub returns : goal.returns
returns c =
    let q : c.args.x.exponent - 1 + 1 ≡ c.args.x.exponent = omega (arith, c.if-x-eq0.false) in
    let b = taken_below c.other.result c.args.x.mantissa c.args.x.exponent c.args.y.mantissa c.args.y.exponent (c.args.x.exponent - 1) c.units.result q c.requires.ordered c.units.ensures.whole in
    c.fitted.ensures.sized _ 1 (omega arith)
    (λ _. word_high c.args.x.mantissa c.args.x.exponent c.args.y.mantissa c.args.y.exponent (c.args.x.exponent - 1) c.units.result q (c.args.x.justified (omega (arith, c.if-x-eq0.false)))
    c.args.y.mantissa_fits b c.if-word-lt2305843009213693952.false c.units.ensures.exact)
    (word_whole c.args.toward c.other.result c.args.x.mantissa c.args.x.exponent c.args.y.mantissa c.args.y.exponent (c.args.x.exponent - 1) c.units.result q c.requires.ordered
    c.other.ensures.zero c.other.ensures.away c.units.ensures.whole)
