use Rattle.std.proofs.Common.{List, [], ap, ◌∙◌, rules, subst, sym}
use Rattle.pv_expr.specs.Terms.{term_of}
use Rattle.pv_code.specs.declared.code.Op.{Op}
use Rattle.pv_code.specs.Expansion.{run, top}
use Rattle.pv_parse.specs.ByItems.{AreBounded}
use Rattle.pv_parse.specs.Fractions.{KnowsFractions}
use Rattle.pv_parse.specs.Scopes.{scoped}
use Rattle.pv_parse.specs.Views.{view}
use Rattle.pv_parse.proofs.Fractions.{variables_fractions}
use Rattle.pv_parse.proofs.Meant.{told_at, unsigned}
use Rattle.pv_parse.proofs.Naming.{expression_over}
use Rattle.pv_parse.proofs.Pieces.{known_bounded}
use Rattle.pv_parse.proofs.Refusals.{expression_meant}
use Rattle.pv_parse.proofs.reader.parse_expr.Goals as goal

pub read_tokens-requires-clause-names : goal.read_tokens-requires-clause-names
read_tokens-requires-clause-names c = subst AreBounded (sym (ap view c.new-state.ensures.names)) (known_bounded c.args.system.now.names (view c.in_ok-names.names) c.in_ok-names.ensures)

pub read_tokens-requires-clause-fractions : goal.read_tokens-requires-clause-fractions
read_tokens-requires-clause-fractions c = subst KnowsFractions (sym (ap view c.new-state.ensures.names)) (variables_fractions _ (view c.in_ok-names.names) c.in_ok-names.ensures)

pub returns-clause-means : goal.returns-clause-means
returns-clause-means c =
    let told = told_at (ap view c.new-state.ensures.names) c.new-state.ensures.counts c.in_ok-machine.ensures.stack c.in_ok-machine.ensures.code (c.new-state.ensures.scoped ∙ unsigned c.in_ok-names.ensures.negative)
    c.in_ok-read_tokens.ensures.told in
    expression_meant c.args.system.now.names c.args.text.now (view c.in_ok-names.names) c.read_tokens.new.machine.code.items (term_of c.in_ok-e.e)
    _ (c.in_default.ensures.short (search rules)) c.in_ok-names.ensures told
    (c.in_ok-e.ensures ∙ ap (λ (z : List Op). top (run [] [] z [])) (c.as_slice.ensures.value ∙ c.into_code.ensures))

pub returns-clause-over : goal.returns-clause-over
returns-clause-over c =
    let told = told_at (ap view c.new-state.ensures.names) c.new-state.ensures.counts c.in_ok-machine.ensures.stack c.in_ok-machine.ensures.code (c.new-state.ensures.scoped ∙ unsigned c.in_ok-names.ensures.negative)
    c.in_ok-read_tokens.ensures.told in
    expression_over c.args.system.now.names c.args.text.now (view c.in_ok-names.names) c.read_tokens.new.machine.code.items (term_of c.in_ok-e.e) (scoped c.read_tokens.new.state)
    c.in_ok-names.ensures told
    (c.in_ok-e.ensures ∙ ap (λ (z : List Op). top (run [] [] z [])) (c.as_slice.ensures.value ∙ c.into_code.ensures))
