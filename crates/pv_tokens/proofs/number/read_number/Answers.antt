use Rattle.pv_tokens.proofs.Decimals.{no_numeral, read_of}
use Rattle.pv_tokens.proofs.number.read_number.Goals as goal

pub returns-then-parts-text-clause-read : goal.returns-then-parts-text-clause-read
returns-then-parts-text-clause-read c = read_of _ _ _ _ c.parts_at-parts.ensures.number c.if-parts-text.true c.decimal_of.ensures.caps c.value_of.ensures.value

pub returns-else-parts-text-clause-read : goal.returns-else-parts-text-clause-read
returns-else-parts-text-clause-read c = no_numeral _ _ c.parts_at-parts.ensures.number c.parts_at-parts.ensures.longest c.if-parts-text.false
