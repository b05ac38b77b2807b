use Rattle.std.proofs.Common.{◌+◌, ◌*◌, ◌^◌, arith, refl, ap, zero-mul, ◌∙◌}
use Rattle.pv_num.proofs.Align.{fits_under, whole_fits, whole_justified}
use Rattle.pv_num.proofs.Rounds.{zero_sized, beyond_sized, sized}
use Rattle.pv_num.proofs.round.round.Goals as goal

pub returns-then-parts-eq0 : goal.returns-then-parts-eq0
returns-then-parts-eq0 c = zero_sized _ _ _ (ap (λ x. x * 2 ^ c.args.at) c.if-parts-eq0.true ∙ zero-mul (2 ^ c.args.at)) refl

pub returns-then-exponent-gt-TOP_EXPONENT : goal.returns-then-exponent-gt-TOP_EXPONENT
returns-then-exponent-gt-TOP_EXPONENT c =
    beyond_sized _ c.bit_length.result c.args.at c.args.parts _ (omega arith) c.bit_length.ensures.below c.beyond.ensures.largest c.beyond.ensures.none

pub aligned-mantissa-requires-clause-fits : goal.aligned-mantissa-requires-clause-fits
aligned-mantissa-requires-clause-fits c = fits_under c.bit_length.result c.args.at _ c.args.parts c.bit_length.ensures.above (omega arith)

pub next-requires-clause-mantissa_fits : goal.next-requires-clause-mantissa_fits
next-requires-clause-mantissa_fits c =
    whole_fits _ (1024 + c.saturating_sub-exponent.result) (c.args.parts * 2 ^ c.args.at) c.aligned-mantissa.ensures.below
    (fits_under c.bit_length.result c.args.at (62 + (1024 + c.saturating_sub-exponent.result)) c.args.parts c.bit_length.ensures.above (omega arith))

pub next-requires-clause-justified : goal.next-requires-clause-justified
next-requires-clause-justified c =
    λ p. whole_justified c.bit_length.result c.args.at (1024 + c.saturating_sub-exponent.result) _ c.args.parts (omega arith) c.bit_length.ensures.below c.aligned-mantissa.ensures.above

pub returns : goal.returns
returns c =
    sized c.args.toward c.aligned-mantissa.result.0 c.saturating_sub-exponent.result (c.args.parts * 2 ^ c.args.at) c.aligned-mantissa.result.1 c.next.result
    (whole_fits _ (1024 + c.saturating_sub-exponent.result) (c.args.parts * 2 ^ c.args.at) c.aligned-mantissa.ensures.below
    (fits_under c.bit_length.result c.args.at (62 + (1024 + c.saturating_sub-exponent.result)) c.args.parts c.bit_length.ensures.above (omega arith)))
    (omega arith)
    (λ p. whole_justified c.bit_length.result c.args.at (1024 + c.saturating_sub-exponent.result) _ c.args.parts (omega arith) c.bit_length.ensures.below c.aligned-mantissa.ensures.above)
    c.aligned-mantissa.ensures.below c.aligned-mantissa.ensures.above c.aligned-mantissa.ensures.exact
    c.next.ensures.kept_exact c.next.ensures.kept_zero c.next.ensures.raised
