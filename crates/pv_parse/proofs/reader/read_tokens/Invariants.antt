use Rattle.std.proofs.Common.{◌-◌, ◌≤◌, length}
use Rattle.pv_grammar.specs.Grammar.{pile}
use Rattle.pv_parse.specs.Fractions.{KnowsFractions}
use Rattle.pv_parse.specs.Scopes.{scoped}
use Rattle.pv_parse.specs.Views.{view}
use Rattle.pv_parse.proofs.Taken.{ReachedAs}
use Rattle.pv_parse.proofs.reader.read_tokens.Given as goal

abbrev pub invariant-loop-item : goal.invariant-loop-item
invariant-loop-item l = record {
  fractions : KnowsFractions (view l.state.names);
  within : l.from ≤ length l.text;
  reached : ReachedAs l.text (view l.initial.state.names) (view l.state.names) l.initial.state.counts l.state.counts (pile l.initial.machine.stack.items) l.initial.machine.code.items (pile l.machine.stack.items) l.machine.code.items l.from (scoped l.initial.state) (scoped l.state);
}

abbrev pub decreases-loop-item : goal.decreases-loop-item
decreases-loop-item l = length l.text - l.from
