-- An exponent is wanted exactly behind `^`, and the end of the text never.
use Rattle.std.proofs.Common.{◌≡◌, zero, Bool, true, false, List, [], ◌∷◌, ◌++◌, refl, sym, subst, Option, Some, None}
use Rattle.pv_expr.specs.declared.constraint.Relation.TheVariants.{Eq}
use Rattle.pv_code.specs.declared.code.Op.{Op}
use Rattle.pv_grammar.specs.declared.symbol.Fixed.TheVariants.{Caret, EndOfText}
use Rattle.pv_grammar.specs.declared.symbol.Symbol.{Symbol}
use Rattle.pv_grammar.specs.declared.symbol.Symbol.TheVariants.{Fixed as FixedToken, Relation as RelationToken, Number}
use Rattle.pv_grammar.specs.declared.machine.Item.{Item}
use Rattle.pv_grammar.specs.declared.machine.Item.TheVariants.{Exactly, WantEquals, WantExponent, MoreArguments}
use Rattle.pv_grammar.specs.Grammar.{MayEnd, Produced, produced, step_of, Settles, emptied, met, ended, Follows, is_exponent, system_items, expression_items}
use Rattle.pv_grammar.specs.Causes.{is_caret, behind_caret}

-- no item that wants an exponent, `^` or the end of the text
abbrev pub Plain : List Item → Type 0
Plain [] = Unit {0}
Plain (WantExponent ∷ st) = ⊥
Plain (Exactly Caret ∷ st) = ⊥
Plain (Exactly EndOfText ∷ st) = ⊥
Plain (i ∷ st) = Plain st

-- an item that wants neither `^` nor the end of the text
abbrev pub IsUsual : Item → Type 0
IsUsual (Exactly Caret) = ⊥
IsUsual (Exactly EndOfText) = ⊥
IsUsual i = Unit {0}

-- behind `^` an exponent is wanted first
abbrev pub AtExponent : Bool → List Item → Type 0
AtExponent true (WantExponent ∷ st) = Plain st
AtExponent true st = ⊥
AtExponent false st = Plain st

abbrev pub Met : Bool → Option Item → List Item → Type 0
Met b None rest = b ≡ false
Met b (Some i) rest = (is_exponent i ≡ b) × IsUsual i × Plain rest

met_plain : (i : Item) (st : List Item) → Plain (i ∷ st) → Met false (Some i) st
met_plain WantExponent st h = absurd h
met_plain (Exactly Caret) st h = absurd h
met_plain (Exactly EndOfText) st h = absurd h
met_plain i st h = (refl, tt, h)

met_top : (b : Bool) (i : Item) (st : List Item) → AtExponent b (i ∷ st) → Met b (Some i) st
met_top false i st h = met_plain i st h
met_top true WantExponent st h = (refl, tt, h)
met_top true i st h = absurd h

-- no item that may be left out wants an exponent
out_plain : (b : Bool) (i : Item) (st : List Item) → MayEnd i → AtExponent b (i ∷ st) → AtExponent b st
out_plain false i st may h = (met_plain i st h).2
out_plain true WantExponent st may h = absurd may
out_plain true i st may h = absurd h

pub settled_met : (b : Bool) (s : Symbol) (items : List Item) (code : List Op) (o : Option Item) (rest : List Item) (code' : List Op) → Settles s items code o rest code' →
    AtExponent b items → Met b o rest
settled_met true s items code o rest code' (emptied ops) h = absurd h
settled_met false s items code o rest code' (emptied ops) h = refl
settled_met b s items code o rest code' (met i items' ops meets) h = met_top b i items' h
settled_met b s items code o rest code' (ended i items' ops o' rest' more may never k) h = settled_met b s items' (ops ++ step_of i) o' rest' more k (out_plain b i items' may h)

-- where nothing is produced, the claim is the premise: one term serves each item and token
abbrev PlainAfter : Bool → Option Produced → List Item → Type 0
PlainAfter b None rest = Plain rest
PlainAfter b (Some p) rest = AtExponent b (p.0 ++ rest)

after : (i : Item) (s : Symbol) (rest : List Item) → IsUsual i → Plain rest → PlainAfter (is_caret s) (produced i s) rest
after (Exactly Caret) s rest u h = absurd u
after (Exactly EndOfText) s rest u h = absurd u
after (MoreArguments zero) (FixedToken EndOfText) rest u h = h
after WantEquals (RelationToken Eq) rest u h = h
after WantExponent (Number value (Some n)) rest u h = h
after i (FixedToken EndOfText) rest u h = h
after i s rest u h = h

pub taken_plain : (i : Item) (s : Symbol) (rest : List Item) (code : List Op) (items' : List Item) (code' : List Op) (o : Option Produced) → produced i s ≡ o →
    Follows o rest code items' code' → IsUsual i → Plain rest → AtExponent (is_caret s) items'
taken_plain i s rest code items' code' None made f u h = absurd f
taken_plain i s rest code items' code' (Some p) made f u h =
    subst (AtExponent (is_caret s)) (sym f.0) (subst (λ (x : Option Produced). PlainAfter (is_caret s) x rest) made (after i s rest u h))

-- the end of the text is no token of an item
pub no_end : (i : Item) → IsUsual i → produced i (FixedToken EndOfText) ≡ None
no_end (Exactly EndOfText) u = absurd u
no_end (MoreArguments zero) u = refl
no_end i u = refl

pub behind_last : (ss : List Symbol) (s : Symbol) → behind_caret (ss ++ s ∷ []) ≡ is_caret s
behind_last [] s = refl
behind_last (t ∷ []) s = refl
behind_last (t ∷ (u ∷ ss)) s = behind_last (u ∷ ss) s

pub system_plain : AtExponent false system_items
system_plain = tt

pub expression_plain : AtExponent false expression_items
expression_plain = tt
