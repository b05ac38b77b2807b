-- Tokens have one tree.
use Rattle.std.proofs.Common.{◌≡◌, ◌≢◌, ℕ, zero, suc, List, [], ◌∷◌, ◌++◌, true, Option, None, refl, ap, sym, subst, ◌∙◌}
use Rattle.std.proofs.Props.{props}
use Rattle.pv_code.specs.declared.code.Op.{Op}
use Rattle.pv_code.specs.declared.code.Op.TheVariants.{One, Two, Call}
use Rattle.pv_expr.specs.declared.operators.UnaryOp.TheVariants.{Pow}
use Rattle.pv_expr.specs.declared.operators.BinaryOp.TheVariants.{Max}
use Rattle.pv_grammar.specs.declared.machine.Item.{Item}
use Rattle.pv_grammar.specs.declared.machine.Item.TheVariants.{Then}
use Rattle.pv_grammar.specs.declared.symbol.Symbol.{Symbol}
use Rattle.pv_grammar.specs.declared.symbol.Symbol.TheVariants.{Declared, Function as FunctionName}
use Rattle.pv_grammar.specs.Grammar.{Derives, MayEnd, Produced, begun, done, expression_items, left_out, produced, system_items}
use Rattle.pv_grammar.specs.Productions.{Expression, System, expression_symbols, product_of, relates, sum_of, system_of, system_symbols}
use Rattle.pv_grammar.specs.TreeCodes.{IsCalled, IsKnown, expression_code, system_code}
use Rattle.pv_grammar.proofs.Forward.{after_some, clash, head_is, shut, tail_is}
use Rattle.pv_grammar.proofs.Orderly.{Orderly, expression_orderly, behind, system_orderly}
use Rattle.pv_grammar.proofs.TreeBuilding.{Trees, TreesBehind, all_code, all_symbols, builds, none_of, none_symbols, of_parts, of_trees, symbols_behind}
use Rattle.pv_grammar.proofs.TreeReadings.{Built, expression_is_read, expression_tokens, numbers, parts_of, reads, seen, seen_in, seen_out, system_reads, system_tokens, trees_of}

none_same : (i : Item) (may may' : MayEnd i) → none_of i may ≡ none_of i may'
none_same (Then op) may may' = refl
none_same i may may' = search

-- a built tree begins with its token, and its token begins the item
record Starts (i : Item) (s : Symbol) (rest : List Item) (x : Trees (i ∷ rest)) : Type 0 where
  behind : List Symbol
  symbols : s ∷ behind ≡ all_symbols (i ∷ rest) x
  begins : produced i s ≢ None

starts : (i : Item) (s : Symbol) (rest : List Item) (h : IsKnown s) (x : Trees (i ∷ rest)) → Built i s rest h x → Starts i s rest x
starts i s rest h x (y, is) = record {
  behind = symbols_behind (produced i s) rest y;
  symbols = (builds i s rest h y).symbols ∙ ap (all_symbols (i ∷ rest)) is;
  begins = λ none. subst (λ (o : Option Produced). TreesBehind o rest) none y;
}

called_once : (op : Op) (n : ℕ) → IsProp (IsCalled op n)
called_once (Call f n) (suc m) = numbers n (suc m)
called_once (One (Pow (suc (suc zero)))) (suc (suc zero)) = hlevel props
called_once (Two Max) (suc (suc zero)) = hlevel props
called_once op (suc (suc zero)) = hlevel props
called_once op n = hlevel props

known_once : (s : Symbol) → IsProp (IsKnown s)
known_once (FunctionName op arity) = called_once op arity
known_once (Declared true) = hlevel props
known_once s = hlevel props

abbrev BeginsWith : (i : Item) (rest : List Item) (x : Trees (i ∷ rest)) (s : Symbol) → Type 0
BeginsWith i rest x s = (h : IsKnown s) × Built i s rest h x

-- a tree whose first token is known begins with it
begins_at : (i : Item) (s : Symbol) (rest : List Item) (ss : List Symbol) (x : Trees (i ∷ rest)) (s' : Symbol) (h : IsKnown s') → s ∷ ss ≡ all_symbols (i ∷ rest) x → Built i s' rest h x → BeginsWith i rest x s
begins_at i s rest ss x s' h e built = subst (BeginsWith i rest x) (head_is ((starts i s' rest h x built).symbols ∙ sym e)) (h, built)

-- trees of what is behind the token are alike where their tokens are
abbrev AreOne : Option Produced → List Item → List Symbol → Type 0
AreOne o rest ss = (x y : TreesBehind o rest) → ss ≡ symbols_behind o rest x → ss ≡ symbols_behind o rest y → x ≡ y

built_alike : (i : Item) (s : Symbol) (rest : List Item) (x y : Trees (i ∷ rest)) (ss : List Symbol) → BeginsWith i rest x s → BeginsWith i rest y s →
    s ∷ ss ≡ all_symbols (i ∷ rest) x → s ∷ ss ≡ all_symbols (i ∷ rest) y → AreOne (produced i s) rest ss → x ≡ y
built_alike i s rest x y ss (h, a) (k, b) e f same =
    let c : Built i s rest h y = subst (λ (g : IsKnown s). Built i s rest g y) (known_once s k h) b in
    let left_is = tail_is (e ∙ ap (all_symbols (i ∷ rest)) (sym a.1) ∙ sym (builds i s rest h a.0).symbols) in
    let right_is = tail_is (f ∙ ap (all_symbols (i ∷ rest)) (sym c.1) ∙ sym (builds i s rest h c.0).symbols) in
    sym a.1 ∙ ap (λ (z : TreesBehind (produced i s) rest). (builds i s rest h z).trees) (same a.0 c.0 left_is right_is) ∙ c.1

one_tree : (items : List Item) (ss : List Symbol) (code : List Op) → Derives items ss code → Orderly items → (x y : Trees items) → ss ≡ all_symbols items x → ss ≡ all_symbols items y → x ≡ y
one_tree items ss code (done) o x y e f = refl
one_tree items ss code (left_out i rest ss' code' may d) o x y e f =
    let never : (z : Trees (i ∷ rest)) (s : Symbol) (h : IsKnown s) → ss' ≡ all_symbols (i ∷ rest) z → Built i s rest h z → ⊥ =
    λ z s h g built.
    (let begins = starts i s rest h z built in
    shut s begins.behind rest code' (behind i s rest o.0 may begins.begins) (subst (λ (w : List Symbol). Derives rest w code') (g ∙ sym begins.symbols) d)) in
    elim (seen i x.0 rest x.1) [
      | seen_out m is ↦
          elim (seen i y.0 rest y.1) [
            | seen_out m' is' ↦
                is
                ∙ (let same = one_tree rest ss' code' d o.1 x.1 y.1 (e ∙ ap (all_symbols (i ∷ rest)) is ∙ none_symbols i rest m x.1) (f ∙ ap (all_symbols (i ∷ rest)) is' ∙ none_symbols i rest m' y.1) in
                λ k. (none_same i m m' k, same k))
                ∙ sym is'
            | seen_in s h built ↦ absurd (never y s h f built)
          ]
      | seen_in s h built ↦ absurd (never x s h e built)
    ]
one_tree items ss code (begun i rest s ss' p code' made d) o x y e f =
    let never : (z : Trees (i ∷ rest)) (m : MayEnd i) → s ∷ ss' ≡ all_symbols (i ∷ rest) z → z ≡ (none_of i m, z.1) → ⊥ =
    λ z m g is. clash i rest s ss' p (all_code rest z.1) o m made (reads (s ∷ ss') rest z.1 (g ∙ ap (all_symbols (i ∷ rest)) is ∙ none_symbols i rest m z.1)).derived in
    elim (seen i x.0 rest x.1) [
      | seen_out m is ↦ absurd (never x m e is)
      | seen_in s1 h1 built1 ↦
          elim (seen i y.0 rest y.1) [
            | seen_out m is ↦ absurd (never y m f is)
            | seen_in s2 h2 built2 ↦
                built_alike i s rest x y ss' (begins_at i s rest ss' x s1 h1 e built1) (begins_at i s rest ss' y s2 h2 f built2) e f
                (subst (λ (z : Option Produced). AreOne z rest ss') (sym made) (one_tree (p.0 ++ rest) ss' code' d (after_some i s rest p o made)))
          ]
    ]

-- ---- Systems and expressions

whole_system : (x : System) → of_trees (trees_of x) ≡ x
whole_system (system_of block before v vs behind (relates (sum_of (product_of x xs) ts) r e) cs) = refl

pub one_system_tree : (x y : System) → system_symbols x [] ≡ system_symbols y [] → x ≡ y
one_system_tree x y e =
    sym (whole_system x)
    ∙ ap of_trees
    (one_tree system_items (system_symbols x []) (system_code x []) (system_reads x).derived system_orderly (trees_of x) (trees_of y) (system_tokens x) (e ∙ system_tokens y))
    ∙ whole_system y

whole_expression : (e : Expression) → of_parts (parts_of e) ≡ e
whole_expression (sum_of (product_of x xs) ts) = refl

pub one_expression_tree : (d e : Expression) → expression_symbols d [] ≡ expression_symbols e [] → d ≡ e
one_expression_tree d e same =
    sym (whole_expression d)
    ∙ ap of_parts
    (one_tree expression_items (expression_symbols d []) (expression_code d []) (expression_is_read d).derived expression_orderly (parts_of d) (parts_of e) (expression_tokens d) (same ∙ expression_tokens e))
    ∙ whole_expression e
