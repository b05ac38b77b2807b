-- What is behind a token depends neither on what a name is declared as nor on which function is called, but for the code: so the
-- items begin with tokens where a tree does, an undeclared or taken name as a known one.
use Rattle.std.proofs.Common.{◌≡◌, ℕ, zero, suc, ◌-◌, List, [], ◌∷◌, ◌++◌, map, Option, Some, None, refl, sym, ap, ◌∙◌, subst, append_assoc, arith}
use Rattle.std.proofs.lemmas.List.{map-append}
use Rattle.pv_code.specs.declared.code.Op.{Op}
use Rattle.pv_code.specs.declared.code.Op.TheVariants.{Call, Define}
use Rattle.pv_grammar.specs.declared.machine.Item.{Item}
use Rattle.pv_grammar.specs.declared.machine.Item.TheVariants.{Exactly, MaybeConstraint, MaybePower, MoreArguments, MoreConstraints, MoreFactors, MoreTerms, Then, WantFactor, WantRelation}
use Rattle.pv_grammar.specs.declared.symbol.Fixed.TheVariants.{Open}
use Rattle.pv_grammar.specs.declared.symbol.Symbol.{Symbol}
use Rattle.pv_grammar.specs.declared.symbol.Symbol.TheVariants.{Function as FunctionName}
use Rattle.pv_grammar.specs.ByItems.{BeginsByItems}
use Rattle.pv_grammar.specs.Causes.{Begins, as_known}
use Rattle.pv_grammar.specs.Grammar.{Derives, MayEnd, Produced, begun, done, expression_items, left_out, produced, step_of, system_items}
use Rattle.pv_grammar.specs.Productions.{IsExpression, IsSystem}
use Rattle.pv_grammar.specs.TreeCodes.{AreKnown, IsKnown}
use Rattle.pv_grammar.proofs.Forward.{head_is, nil_cons, none_some, some_is, tail_is}
use Rattle.pv_grammar.proofs.TreeBuilding.{expression_tree, system_tree}
use Rattle.pv_grammar.proofs.TreeReadings.{expression_text, system_text}

-- ---- What the items are behind a token, with codes left aside

-- a token that may stand in another one's place; each function is one that is declared, with as many arguments
abbrev pub tame : Symbol → Symbol
tame (FunctionName op arity) = FunctionName (Call 0 (suc (arity - 1))) (suc (arity - 1))
tame s = as_known s

abbrev pub plain : Item → Item
plain (Then op) = Then Define
plain i = i

abbrev shape : Option Produced → Option (List Item)
shape None = None
shape (Some p) = Some (map plain p.0)

same_count : (n : ℕ) → n - 1 ≡ suc (n - 1) - 1
same_count n = omega arith

alike : (i : Item) (s : Symbol) → shape (produced i s) ≡ shape (produced (plain i) (tame s))
alike (Then op) s = refl
alike WantFactor (FunctionName op arity) =
    ap (λ (n : ℕ). Some (Exactly Open ∷ WantFactor ∷ MoreFactors ∷ MoreTerms ∷ MoreArguments n ∷ Then Define ∷ MaybePower ∷ [])) (same_count arity)
alike MaybeConstraint (FunctionName op arity) =
    ap (λ (n : ℕ). Some (Exactly Open ∷ WantFactor ∷ MoreFactors ∷ MoreTerms ∷ MoreArguments n ∷ Then Define ∷ MaybePower ∷ MoreFactors ∷ MoreTerms ∷ WantRelation ∷ MoreConstraints ∷ [])) (same_count arity)
alike (MoreArguments zero) (FunctionName op arity) = refl
alike i (FunctionName op arity) = refl
alike i s = refl

-- ---- Lists that are alike

plain_append : (is js ks ls : List Item) → map plain is ≡ map plain js → map plain ks ≡ map plain ls → map plain (is ++ ks) ≡ map plain (js ++ ls)
plain_append is js ks ls h k = map-append plain is ks ∙ (λ i. h i ++ k i) ∙ sym (map-append plain js ls)

pub alike_behind : (before ss rs : List Symbol) → map tame ss ≡ map tame rs → map tame (before ++ ss) ≡ map tame (before ++ rs)
alike_behind [] ss rs h = h
alike_behind (s ∷ before) ss rs h = ap (λ (z : List Symbol). tame s ∷ z) (alike_behind before ss rs h)

tame_known : (s : Symbol) → tame s ≡ tame (as_known s)
tame_known (FunctionName op arity) = refl
tame_known s = refl

tame_twice : (s : Symbol) → tame s ≡ tame (tame s)
tame_twice (FunctionName op arity) = ap (λ (n : ℕ). FunctionName (Call 0 (suc n)) (suc n)) (same_count arity)
tame_twice s = refl

pub alike_tame : (ss : List Symbol) → map tame ss ≡ map tame (map tame ss)
alike_tame [] = refl
alike_tame (s ∷ ss) = λ i. tame_twice s i ∷ alike_tame ss i

-- ---- Derivations

may_plain : (i : Item) → MayEnd i → MayEnd (plain i)
may_plain (Then op) h = tt
may_plain i h = h

plain_may : (i : Item) → MayEnd (plain i) → MayEnd i
plain_may (Then op) h = tt
plain_may i h = h

of_shape : (o : Option Produced) (l : List Item) → shape o ≡ Some l → (p : Produced) × (o ≡ Some p) × (l ≡ map plain p.0)
of_shape None l e = absurd (none_some refl e)
of_shape (Some p) l e = (p, refl, sym (some_is e))

produced_alike : (i j : Item) (s r : Symbol) (p : Produced) → plain i ≡ plain j → tame s ≡ tame r → produced i s ≡ Some p →
    (q : Produced) × (produced j r ≡ Some q) × (map plain p.0 ≡ map plain q.0)
produced_alike i j s r p e f made =
    of_shape (produced j r) (map plain p.0)
    (alike j r
    ∙ (ap (λ (z : Item). shape (produced z (tame r))) (sym e)
    ∙ (ap (λ (z : Symbol). shape (produced (plain i) z)) (sym f)
    ∙ (sym (alike i s) ∙ ap shape made))))

pub derived_alike : (items : List Item) (ss : List Symbol) (code : List Op) → Derives items ss code → (items' : List Item) (ss' : List Symbol) → map plain items ≡ map plain items' → map tame ss ≡ map tame ss' →
    (code' : List Op) × Derives items' ss' code'
derived_alike items ss code (done) [] [] h k = ([], done)
derived_alike items ss code (done) (j ∷ js) ss' h k = absurd (nil_cons h)
derived_alike items ss code (done) [] (r ∷ rs) h k = absurd (nil_cons k)
derived_alike items ss code (left_out i rest ss1 code1 may d) [] ss' h k = absurd (nil_cons (sym h))
derived_alike items ss code (left_out i rest ss1 code1 may d) (j ∷ js) ss' h k =
    let more = derived_alike rest ss1 code1 d js ss' (tail_is h) k in
    (step_of j ++ more.0, left_out j js ss' more.0 (plain_may j (subst MayEnd (head_is h) (may_plain i may))) more.1)
derived_alike items ss code (begun i rest s ss1 p code1 made d) [] ss' h k = absurd (nil_cons (sym h))
derived_alike items ss code (begun i rest s ss1 p code1 made d) (j ∷ js) [] h k = absurd (nil_cons (sym k))
derived_alike items ss code (begun i rest s ss1 p code1 made d) (j ∷ js) (r ∷ rs) h k =
    let found = produced_alike i j s r p (head_is h) (head_is k) made in
    let more = derived_alike (p.0 ++ rest) ss1 code1 d (found.0.0 ++ js) rs (plain_append p.0 found.0.0 rest js found.2 (tail_is h)) (tail_is k) in
    (found.0.1 ++ more.0, begun j js r rs found.0 more.0 found.1 more.1)

-- ---- Trees

-- the texts of the items whose names are known are those of trees
pub record AreTexts (items : List Item) (IsText : List Symbol → Type 0) : Type 0 where
  pub tree : (ss : List Symbol) (code : List Op) → Derives items ss code → AreKnown ss → IsText ss
  pub derived : (ss : List Symbol) → IsText ss → (code : List Op) × Derives items ss code
  pub known : (ss : List Symbol) → IsText ss → AreKnown ss

pub system_texts : AreTexts system_items IsSystem
system_texts = record {
  tree = λ ss code d known. let found = system_tree ss code d known in (found.0, found.1);
  derived = λ ss x. (_, (system_text ss _ (x.0, x.1, refl)).0);
  known = λ ss x. (system_text ss _ (x.0, x.1, refl)).1;
}

pub expression_texts : AreTexts expression_items IsExpression
expression_texts = record {
  tree = λ ss code d known. let found = expression_tree ss code d known in (found.0, found.1);
  derived = λ ss x. (_, (expression_text ss _ (x.0, x.1, refl)).0);
  known = λ ss x. (expression_text ss _ (x.0, x.1, refl)).1;
}

pub known_append : (ss rs : List Symbol) → AreKnown ss → AreKnown rs → AreKnown (ss ++ rs)
known_append [] rs h k = k
known_append (s ∷ ss) rs h k = (h.0, known_append ss rs h.1 k)

tame_is_known : (s : Symbol) → IsKnown (tame s)
tame_is_known (FunctionName op arity) = refl
tame_is_known s = tt

pub tame_are_known : (ss : List Symbol) → AreKnown (map tame ss)
tame_are_known [] = tt
tame_are_known (s ∷ ss) = (tame_is_known s, tame_are_known ss)

-- what the items begin with, a tree begins with
pub tree_begins : (items : List Item) (IsText : List Symbol → Type 0) → AreTexts items IsText → (before : List Symbol) (s : Symbol) → AreKnown before → IsKnown (as_known s) →
    BeginsByItems items (before ++ s ∷ []) → Begins IsText (before ++ as_known s ∷ [])
tree_begins items IsText texts before s known name b =
    let ending : List Symbol = as_known s ∷ map tame b.rest in
    let same = alike_behind before (s ∷ b.rest) ending (λ i. tame_known s i ∷ alike_tame b.rest i) in
    let found = derived_alike items (before ++ s ∷ b.rest) b.steps (subst (λ (z : List Symbol). Derives items z b.steps) (append_assoc before (s ∷ []) b.rest) b.derived)
    items (before ++ ending) refl same in
    let are : AreKnown (before ++ ending) = known_append before ending known (name, tame_are_known b.rest) in
    (map tame b.rest, subst IsText (sym (append_assoc before (as_known s ∷ []) (map tame b.rest))) (texts.tree (before ++ ending) found.0 found.1 are))

-- and the other way round
pub items_begin : (items : List Item) (IsText : List Symbol → Type 0) → AreTexts items IsText → (before : List Symbol) (s : Symbol) →
    Begins IsText (before ++ as_known s ∷ []) → BeginsByItems items (before ++ s ∷ [])
items_begin items IsText texts before s (rest, text) =
    let whole : IsText (before ++ as_known s ∷ rest) = subst IsText (append_assoc before (as_known s ∷ []) rest) text in
    let d = texts.derived (before ++ as_known s ∷ rest) whole in
    let same = alike_behind before (as_known s ∷ rest) (s ∷ rest) (λ i. sym (tame_known s) i ∷ map tame rest) in
    let found = derived_alike items (before ++ as_known s ∷ rest) d.0 d.1 items (before ++ s ∷ rest) refl same in
    record { rest = rest; steps = found.0; derived = subst (λ (z : List Symbol). Derives items z found.0) (sym (append_assoc before (s ∷ []) rest)) found.1 }
