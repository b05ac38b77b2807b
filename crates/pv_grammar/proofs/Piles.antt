-- The stack as a pile, the top first.
use Rattle.std.proofs.Common.{◌≡◌, ◌≢◌, List, [], ◌∷◌, ◌++◌, refl, ap, sym, subst, ◌∙◌, Option, Some, None, length, arith}
use Rattle.std.proofs.lemmas.List.{reverse-append}
use Rattle.pv_code.specs.declared.code.Op.{Op}
use Rattle.pv_grammar.specs.declared.symbol.Symbol.{Symbol}
use Rattle.pv_grammar.specs.declared.machine.Item.{Item}
use Rattle.pv_grammar.specs.Grammar as Grammar
use Rattle.pv_grammar.specs.Grammar.{pile, Settles, emptied, met, ended, MayEnd, step_of, produced}

pub pile-push : (xs : List Item) (x : Item) → pile (xs ++ x ∷ []) ≡ x ∷ pile xs
unfolding Grammar.pile
pile-push xs x = reverse-append xs (x ∷ [])

pub pile-empty : pile [] ≡ []
unfolding Grammar.pile
pile-empty = refl

pub settles_met : (s : Symbol) (xs ys : List Item) (i : Item) (ops : List Op) → xs ≡ ys ++ i ∷ [] → (MayEnd i → produced i s ≢ None) → Settles s (pile xs) ops (Some i) (pile ys) ops
settles_met s xs ys i ops e meets =
    subst (λ (z : List Item). Settles s z ops (Some i) (pile ys) ops) (sym (ap pile e ∙ pile-push ys i)) (met i (pile ys) ops meets)

pub settles_more : (s : Symbol) (xs ys zs : List Item) (i : Item) (ops after : List Op) → xs ≡ ys ++ i ∷ [] → zs ≡ ys → after ≡ ops ++ step_of i → MayEnd i → produced i s ≡ None →
    (o : Option Item) (rest : List Item) (more : List Op) → Settles s (pile zs) after o rest more → Settles s (pile xs) ops o rest more
settles_more s xs ys zs i ops after e same written may unlike o rest more h =
    let k = subst (λ (z : List Item). Settles s (pile z) after o rest more) same h in
    let l = subst (λ (z : List Op). Settles s (pile ys) z o rest more) written k in
    subst (λ (z : List Item). Settles s z ops o rest more) (sym (ap pile e ∙ pile-push ys i)) (ended i (pile ys) ops o rest more may unlike l)

pub settles_none : (s : Symbol) (xs ys : List Item) (ops : List Op) → xs ≡ [] → ys ≡ [] → Settles s (pile xs) ops None (pile ys) ops
settles_none s xs ys ops e f =
    subst (λ (z : List Item). Settles s (pile z) ops None (pile ys) ops) (sym e)
    (subst (λ (z : List Item). Settles s (pile []) ops None (pile z) ops) (sym f)
    (subst (λ (z : List Item). Settles s z ops None z ops) (sym pile-empty) (emptied ops)))

pub none_left : (xs : List Item) → length xs ≡ 0 → xs ≡ []
none_left [] e = refl
none_left (x ∷ xs) e = absurd (omega arith)
