-- The grammar reads a list of tokens in one way.
use Rattle.std.proofs.Common.{◌≡◌, List, ◌++◌, refl, sym, ap, ◌∙◌, subst}
use Rattle.pv_code.specs.declared.code.Op.{Op}
use Rattle.pv_grammar.specs.declared.machine.Item.{Item}
use Rattle.pv_grammar.specs.declared.symbol.Symbol.{Symbol}
use Rattle.pv_grammar.specs.Grammar.{Derives, Produced, begun, done, left_out, step_of}
use Rattle.pv_grammar.proofs.Forward.{after_some, clash, same_some}
use Rattle.pv_grammar.proofs.Orderly.{Orderly}

pub one_way : (items : List Item) (ss : List Symbol) (ops : List Op) → Derives items ss ops → Orderly items → (ops' : List Op) → Derives items ss ops' → ops ≡ ops'
one_way items ss ops (done) o ops' (done) = refl
one_way items ss ops (left_out i rest ss' steps may d) o ops' (left_out j items' rs steps' may' d') =
    ap (λ (x : List Op). step_of i ++ x) (one_way rest ss' steps d o.1 steps' d')
one_way items ss ops (left_out i rest ss' steps may d) o ops' (begun j items' s rs p steps' made d') = absurd (clash i rest s rs p steps o may made d)
one_way items ss ops (begun i rest s ss' p steps made d) o ops' (left_out j items' rs steps' may d') = absurd (clash i rest s ss' p steps' o may made d')
one_way items ss ops (begun i rest s ss' p steps made d) o ops' (begun j items' r rs q steps' made' d') =
    let same : p ≡ q = same_some made made' in
    let d'' : Derives (p.0 ++ rest) ss' steps' = subst (λ (x : Produced). Derives (x.0 ++ rest) ss' steps') (sym same) d' in
    ap (λ (x : List Op). p.1 ++ x) (one_way (p.0 ++ rest) ss' steps d (after_some i s rest p o made) steps' d'') ∙ ap (λ (x : Produced). x.1 ++ steps') same
