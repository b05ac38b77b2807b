use Rattle.std.proofs.Common.{◌≢◌, arith, subst, sym, false}
use Rattle.std.proofs.lemmas.Result.{IfErr-weaker}
use Rattle.pv_grammar.specs.Causes.{refusal}
use Rattle.pv_grammar.specs.Grammar.{pile}
use Rattle.pv_tokens.specs.declared.token.Kind.TheVariants.{End}
use Rattle.pv_parse.specs.declared.refused.ParseRefused.{ParseRefused}
use Rattle.pv_parse.specs.ByItems.{IsAt, IsFirstOf}
use Rattle.pv_parse.specs.Declarations.{mark_of}
use Rattle.pv_parse.specs.Scopes.{TakesIn, scoped}
use Rattle.pv_parse.specs.Sentences.{bytes_of}
use Rattle.pv_parse.specs.Views.{view}
use Rattle.pv_parse.proofs.Fractions.{learnt_fractions, same_fractions}
use Rattle.pv_parse.proofs.NameBytes.{declared_ascii}
use Rattle.pv_parse.proofs.Taken.{forbidden, refused, starts_told, taken_not_end, taken_told, too_much, whole_told}
use Rattle.pv_parse.proofs.Refusals.{first_at, on_ok, settles_as, takes_as}
use Rattle.pv_parse.proofs.reader.read_tokens.Goals as goal

pub loop-item-init : goal.loop-item-init
loop-item-init c = record {
  fractions = c.requires.fractions;
  within = omega arith;
  reached = starts_told c.args.text.now (view c.args.state.now.names) c.args.state.now.counts (pile c.args.machine.now.stack.items) c.args.machine.now.code.items c.requires.start c.requires.names (scoped c.args.state.now);
}

pub returns-in_default-clause-told : goal.returns-in_default-clause-told
returns-in_default-clause-told c = on_ok c.ended.result (λ ok.
    whole_told c.loop-item.invariant.reached.reached c.next_token-token.ensures.next c.symbol_of-symbol.ensures.stands (settles_as c.in_default.is c.in_ok-item.ensures) (c.ended.ensures.ends ok)
    c.loop-item.invariant.reached.told)

pub returns-in_default-clause-fault : goal.returns-in_default-clause-fault
returns-in_default-clause-fault c =
    IfErr-weaker c.ended.result (λ (e : ParseRefused). (c.next_token-token.result.kind ≢ End) × IsAt c.next_token-token.result.start (refusal false c.symbol_of-symbol.result) e)
    (λ (e : ParseRefused). IsFirstOf c.args.text.now (view c.args.state.now.names) c.args.state.now.counts e)
    (λ e at. first_at c.args.text.now (view c.args.state.now.names) c.args.state.now.counts _ _ e at.1
    (too_much c.loop-item.invariant.reached.reached c.next_token-token.ensures.next c.symbol_of-symbol.ensures.stands (settles_as c.in_default.is c.in_ok-item.ensures) at.0))
    c.ended.ensures.at

pub returns-then-not-branch-clause-fault : goal.returns-then-not-branch-clause-fault
returns-then-not-branch-clause-fault c =
    first_at c.args.text.now (view c.args.state.now.names) c.args.state.now.counts c.next_token-token.result.start c.refusal.result c.fault.result c.fault.ensures.at
    (rw c.refusal.ensures
    (refused c.loop-item.invariant.reached.reached c.next_token-token.ensures.next c.symbol_of-symbol.ensures.stands (settles_as c.in-Some.is c.in_ok-item.ensures) _
    (takes_as _ _ _ _ _ c.if-not-branch.true c.in_ok-take.ensures) (sym c.is_exponent.ensures)))

pub loop-item-smaller : goal.loop-item-smaller
loop-item-smaller c =
    let on = c.next_token-token.ensures.progress (taken_not_end c.loop-item.invariant.reached.reached c.next_token-token.ensures.next c.symbol_of-symbol.ensures.stands
    (settles_as c.in-Some.is c.in_ok-item.ensures) _ _ (takes_as _ _ _ _ _ c.if-not-branch.false c.in_ok-take.ensures)) in
    omega (arith, on, c.next_token-token.ensures.onward, c.next_token-token.ensures.within)

pub take_in-requires-clause-ascii : goal.take_in-requires-clause-ascii
take_in-requires-clause-ascii c =
    declared_ascii c.args.text.now c.loop-item.from c.next_token-token.result c.loop-item.state.counts.phase (view c.loop-item.state.names) c.symbol_of-symbol.result
    c.next_token-token.ensures.next c.symbol_of-symbol.ensures.stands c.loop-item.state.counts.phase

pub returns-in-Some-2-clause-fault : goal.returns-in-Some-2-clause-fault
returns-in-Some-2-clause-fault c =
    let mark = mark_of c.args.text.now c.loop-item.state.counts.phase c.symbol_of-symbol.result c.next_token-token.result in
    first_at c.args.text.now (view c.args.state.now.names) c.args.state.now.counts _ _ c.fault-in-Some-2.result c.fault-in-Some-2.ensures.at
    (forbidden c.loop-item.invariant.reached.reached c.next_token-token.ensures.next c.symbol_of-symbol.ensures.stands (settles_as c.in-Some.is c.in_ok-item.ensures) _ _
    (takes_as _ _ _ _ _ c.if-not-branch.false c.in_ok-take.ensures) _ (subst (TakesIn c.loop-item.state mark c.take_in.new.self) c.in-Some-2.is c.in_ok-cause.ensures))

pub loop-item-preserved : goal.loop-item-preserved
loop-item-preserved c =
    let bytes = bytes_of c.args.text.now c.next_token-token.result in
    let mark = mark_of c.args.text.now c.loop-item.state.counts.phase c.symbol_of-symbol.result c.next_token-token.result in
    let on = subst (TakesIn c.loop-item.state mark c.take_in.new.self) c.in_default-2.is c.in_ok-cause.ensures in
    record {
      fractions = same_fractions _ _ on.names (learnt_fractions c.loop-item.state.counts c.symbol_of-symbol.result bytes (view c.loop-item.state.names) c.symbol_of-symbol.ensures.fraction c.loop-item.invariant.fractions);
      within = c.next_token-token.ensures.within;
      reached = taken_told c.loop-item.invariant.reached.reached c.next_token-token.ensures.next c.symbol_of-symbol.ensures.stands (settles_as c.in-Some.is c.in_ok-item.ensures) _ _
          (takes_as _ _ _ _ _ c.if-not-branch.false c.in_ok-take.ensures) on.counts c.loop-item.invariant.reached.told c.symbol_of-symbol.ensures.fraction on.scoped _ on.names;
    }
