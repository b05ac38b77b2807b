-- What a refused text's answer says.
use Rattle.std.proofs.Common.{◌∙◌, ◌≡◌, ◌≤◌, Bool, Err, IsOk, List, Ok, OnOk, Option, Result, [], ap, length, rules, subst, ℕ}
use Rattle.pv_expr.specs.Terms.{Term}
use Rattle.pv_code.specs.declared.code.Op.{Op}
use Rattle.pv_code.specs.Expansion.{run, top}
use Rattle.pv_grammar.specs.declared.cause.Cause.{Cause}
use Rattle.pv_grammar.specs.declared.counts.Counts.{Counts}
use Rattle.pv_grammar.specs.declared.counts.Phase.TheVariants.{Sides}
use Rattle.pv_grammar.specs.declared.machine.Item.{Item}
use Rattle.pv_grammar.specs.declared.symbol.Symbol.{Symbol}
use Rattle.pv_grammar.specs.Grammar.{Produced, Settles, Takes, expression_items}
use Rattle.pv_grammar.specs.Counting.{nothing}
use Rattle.pv_grammar.proofs.TreeBuilding.{expression_tree}
use Rattle.pv_grammar.proofs.TreeRuns.{expression_means}
use Rattle.pv_grammar.proofs.Within.{expression_within}
use Rattle.pv_parse.specs.declared.refused.ParseRefused.{ParseRefused}
use Rattle.pv_parse.specs.declared.refused.ParseRefused.TheVariants.{Memory, Fault}
use Rattle.pv_parse.specs.ByItems.{IsAt, IsFirstFrom, IsFirstOf, IsLong, IsToldAs}
use Rattle.pv_parse.specs.Declarations.{IsExpressionMeaning}
use Rattle.pv_parse.specs.Faults.{IsExpressionRefusal, IsRefusal}
use Rattle.pv_parse.specs.Faults.IsExpressionFaultOf.{first as first_text, long as long_text}
use Rattle.pv_parse.specs.Faults.IsFaultOf.{long}
use Rattle.pv_parse.specs.Meanings.{KnowsVariables, Names}
use Rattle.pv_parse.specs.Scopes.{Scoped, nothing_scoped}

pub first_at : (t : List ℕ) (known : Names) (start : Counts) (byte : ℕ) (cause : Cause) (e : ParseRefused) → IsAt byte cause e → IsFirstFrom t known start byte cause → IsFirstOf t known start e
first_at t known start byte cause Memory h f = absurd h
first_at t known start byte cause (Fault byte' line column cause') h f = rw (h.0, h.1) f

pub on_ok : {V E P : Type 0} (r : Result V E) → (IsOk r → P) → OnOk r P
on_ok (Ok v) f = f (search rules)
on_ok (Err e) f = search rules

pub settles_as : {s : Symbol} {items rest : List Item} {code more : List Op} {o o' : Option Item} → o ≡ o' → Settles s items code o rest more → Settles s items code o' rest more
settles_as {s = s} {items = items} {rest = rest} {code = code} {more = more} e h = subst (λ (o : Option Item). Settles s items code o rest more) e h

pub takes_as : {b b' : Bool} (o : Option Produced) (items items' : List Item) (ops ops' : List Op) → b ≡ b' → Takes b o items ops items' ops' → Takes b' o items ops items' ops'
takes_as o items items' ops ops' e h = subst (λ (z : Bool). Takes z o items ops items' ops') e h

-- ---- Of a text that is too long

pub long_system : (t : List ℕ) (e : ParseRefused) → IsLong t e → IsRefusal t e
long_system t Memory h = tt
long_system t (Fault byte line column cause) h = long h.0 h.1 h.2

-- ---- Of one expression

pub long_expression : (variables : List (List ℕ)) (t : List ℕ) (e : ParseRefused) → IsLong t e → IsExpressionRefusal variables t e
long_expression variables t Memory h = tt
long_expression variables t (Fault byte line column cause) h = long_text h.0 h.1 h.2

pub first_expression : (variables : List (List ℕ)) (t : List ℕ) (n : Names) (e : ParseRefused) → length t ≤ 65536 → KnowsVariables variables n → IsFirstOf t n (nothing Sides) e →
    IsExpressionRefusal variables t e
first_expression variables t n Memory short knows h = tt
first_expression variables t n (Fault byte line column cause) short knows h = first_text short (n, knows, h)

pub expression_meant : (variables : List (List ℕ)) (t : List ℕ) (n : Names) (code : List Op) (x : Term) (new : Scoped) → length t ≤ 65536 → KnowsVariables variables n →
    IsToldAs t n (nothing Sides) expression_items [] code nothing_scoped new → x ≡ top (run [] [] code []) → IsExpressionMeaning variables t x
expression_meant variables t n code x new short knows s e =
    let (d, symbols, steps) = expression_tree s.symbols s.steps s.derived s.are_known in
    record {
      text = record { known = n; knows = knows; tree = d; spelled = (rw symbols at s.spelled, expression_within d (rw symbols at s.within)); short = short };
      term = e ∙ (ap (λ (z : List Op). top (run [] [] z [])) (s.code_is ∙ steps) ∙ ap top (expression_means d [] []));
    }
