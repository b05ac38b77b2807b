use Rattle.std.proofs.Common.{ap, subst, sym, ◌∙◌}
use Rattle.pv_parse.specs.Fractions.{KnowsFractions}
use Rattle.pv_parse.specs.Views.{view}
use Rattle.pv_parse.proofs.Fractions.{no_fractions}
use Rattle.pv_parse.proofs.Pieces.{none_bounded}
use Rattle.pv_parse.proofs.reader.read_system.Goals as goal

pub read_tokens-requires-clause-names : goal.read_tokens-requires-clause-names
read_tokens-requires-clause-names c = none_bounded (view c.new-state.result.names) (ap view c.new-state.ensures.names ∙ c.new.ensures)

pub read_tokens-requires-clause-fractions : goal.read_tokens-requires-clause-fractions
read_tokens-requires-clause-fractions c = subst KnowsFractions (sym (ap view c.new-state.ensures.names ∙ c.new.ensures)) no_fractions
