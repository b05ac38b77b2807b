-- One step of the machine, read backward: what is a sentence behind a token is one with it.
use Rattle.std.proofs.Common.{◌≡◌, List, [], ◌∷◌, ◌++◌, refl, ap, sym, subst, ◌∙◌, append_assoc, Option, Some, None}
use Rattle.std.proofs.lemmas.List.{append-nil}
use Rattle.pv_code.specs.declared.code.Op.{Op}
use Rattle.pv_grammar.specs.declared.symbol.Symbol.{Symbol}
use Rattle.pv_grammar.specs.declared.machine.Item.{Item}
use Rattle.pv_grammar.specs.Grammar.{Produced, produced, MayEnd, step_of, Derives, done, left_out, begun, Settles, emptied, met, ended, Follows}

-- the symbols can be derived from the items, and lead from one code to the other
pub record Leads (items : List Item) (ss : List Symbol) (code after : List Op) : Type 0 where
  pub steps : List Op
  pub derived : Derives items ss steps
  pub code_is : after ≡ code ++ steps

leads_out : (i : Item) (items : List Item) (ss : List Symbol) (code after : List Op) → MayEnd i →
    Leads items ss (code ++ step_of i) after → Leads (i ∷ items) ss code after
leads_out i items ss code after may l = record {
  steps = step_of i ++ l.steps;
  derived = left_out i items ss l.steps may l.derived;
  code_is = l.code_is ∙ append_assoc code (step_of i) l.steps;
}

-- where the token is met, what stood above it ended
settled : (s : Symbol) (items : List Item) (code : List Op) (i : Item) (rest : List Item) (code' : List Op) → Settles s items code (Some i) rest code' →
    (ss : List Symbol) (after : List Op) → Leads (i ∷ rest) ss code' after → Leads items ss code after
settled s items code i rest code' (met j items' ops meets) ss after l = l
settled s items code i rest code' (ended j items' ops o rest' more may unlike h) ss after l =
    leads_out j items' ss ops after may (settled s items' (ops ++ step_of j) i rest' more h ss after l)

leads_taken : (i : Item) (rest : List Item) (s : Symbol) (ss : List Symbol) (code after : List Op) (o : Option Produced) (items' : List Item) (code' : List Op) →
    produced i s ≡ o → Follows o rest code items' code' → Leads items' ss code' after → Leads (i ∷ rest) (s ∷ ss) code after
leads_taken i rest s ss code after None items' code' e f l = absurd f
leads_taken i rest s ss code after (Some p) items' code' e (piled, written) l = record {
  steps = p.1 ++ l.steps;
  derived = begun i rest s ss p l.steps e (subst (λ (z : List Item). Derives z ss l.steps) piled l.derived);
  code_is = l.code_is ∙ ap (λ (z : List Op). z ++ l.steps) written ∙ append_assoc code p.1 l.steps;
}

-- one token: settled, and then taken
pub leads_back : (items rest items' : List Item) (code code' code'' after : List Op) (i : Item) (s : Symbol) (ss : List Symbol) →
    Settles s items code (Some i) rest code' → Follows (produced i s) rest code' items' code'' →
    Leads items' ss code'' after → Leads items (s ∷ ss) code after
leads_back items rest items' code code' code'' after i s ss settles follows l =
    settled s items code i rest code' settles (s ∷ ss) after
    (leads_taken i rest s ss code' after (produced i s) items' code'' refl follows l)

-- the end: nothing is left that must come
pub leads_end : (s : Symbol) (items rest : List Item) (code code' : List Op) → Settles s items code None rest code' → Leads items [] code code'
leads_end s items rest code code' (emptied ops) = record { steps = []; derived = done; code_is = sym (append-nil ops) }
leads_end s items rest code code' (ended i items' ops o rest' more may unlike h) = leads_out i items' [] ops more may (leads_end s items' rest' (ops ++ step_of i) more h)
