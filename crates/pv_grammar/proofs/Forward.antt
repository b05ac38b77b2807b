-- One step of the machine, read forward: each text of the items goes on with the pile that the step leaves.
use Rattle.std.proofs.Common.{◌≡◌, ◌≢◌, ℕ, zero, suc, List, [], ◌∷◌, ◌++◌, refl, sym, subst, Option, Some, None, pos, false}
use Rattle.pv_expr.specs.declared.constraint.Relation.TheVariants.{Eq, Le}
use Rattle.pv_code.specs.declared.code.Op.{Op}
use Rattle.pv_code.specs.declared.fraction.Fraction.{Fraction}
use Rattle.pv_grammar.specs.declared.symbol.Fixed.{Fixed}
use Rattle.pv_grammar.specs.declared.symbol.Fixed.TheVariants.{Close, Comma, Oo, EndOfText}
use Rattle.pv_grammar.specs.declared.symbol.Symbol.{Symbol}
use Rattle.pv_grammar.specs.declared.symbol.Symbol.TheVariants.{Fixed as FixedToken, Relation as RelationToken, Number, Declared}
use Rattle.pv_grammar.specs.declared.machine.Item.{Item}
use Rattle.pv_grammar.specs.declared.machine.Item.TheVariants.{Exactly, WantConstant, WantEquals, MaybeSign, WantValue, WantFunctionName, WantParameter, MoreParameters, WantVariable, MaybeDomain, WantBound, WantRelation, WantFactor, MoreFactors, MoreTerms, MaybePower, WantExponent, MoreArguments, Then}
use Rattle.pv_grammar.specs.Grammar.{Produced, produced, MayEnd, step_of, Derives, done, left_out, begun, Settles, emptied, met, ended, Follows}
use Rattle.pv_grammar.proofs.Orderly.{Shut, Orderly, OrderlyAfter, behind, kept}

-- ---- Each list of items has a text: its closing

pub record Closing (items : List Item) : Type 0 where
  pub symbols : List Symbol
  pub steps : List Op
  pub derived : Derives items symbols steps

out : (i : Item) (rest : List Item) → MayEnd i → Closing rest → Closing (i ∷ rest)
out i rest may c = record { symbols = c.symbols; steps = step_of i ++ c.steps; derived = left_out i rest c.symbols c.steps may c.derived }

by_token : (i : Item) (rest : List Item) (s : Symbol) (p : Produced) → produced i s ≡ Some p → Closing (p.0 ++ rest) → Closing (i ∷ rest)
by_token i rest s p e c = record { symbols = s ∷ c.symbols; steps = p.1 ++ c.steps; derived = begun i rest s c.symbols p c.steps e c.derived }

abbrev nothing : Fraction
nothing = record { p = pos 0; q = 1 }

abbrev number : Symbol
number = Number nothing (Some 0)

close_factor : (rest : List Item) → Closing rest → Closing (WantFactor ∷ rest)
close_factor rest c = by_token WantFactor rest number _ refl (out MaybePower rest tt c)

close_expression : (rest : List Item) → Closing rest → Closing (WantFactor ∷ MoreFactors ∷ MoreTerms ∷ rest)
close_expression rest c = close_factor _ (out MoreFactors _ tt (out MoreTerms rest tt c))

close_arguments : (n : ℕ) (rest : List Item) → Closing rest → Closing (MoreArguments n ∷ rest)
close_arguments zero rest c = by_token (MoreArguments zero) rest (FixedToken Close) _ refl c
close_arguments (suc n) rest c =
    by_token (MoreArguments (suc n)) rest (FixedToken Comma) _ refl (close_expression (MoreArguments n ∷ rest) (close_arguments n rest c))

pub fixed_alone : (f : Fixed) → produced (Exactly f) (FixedToken f) ≡ Some ([], [])
fixed_alone EndOfText = refl
fixed_alone f = refl

close : (i : Item) (rest : List Item) → Closing rest → Closing (i ∷ rest)
close (Exactly f) rest c = by_token (Exactly f) rest (FixedToken f) ([], []) (fixed_alone f) c
close WantConstant rest c =
    by_token WantConstant rest (Declared false) _ refl (by_token WantEquals _ (RelationToken Eq) _ refl (out MaybeSign _ tt (by_token WantValue rest number _ refl c)))
close WantEquals rest c = by_token WantEquals rest (RelationToken Eq) _ refl c
close WantValue rest c = by_token WantValue rest number _ refl c
close WantFunctionName rest c = by_token WantFunctionName rest (Declared false) _ refl c
close WantParameter rest c = by_token WantParameter rest (Declared false) _ refl c
close MoreParameters rest c = by_token MoreParameters rest (FixedToken Close) _ refl c
close WantVariable rest c = by_token WantVariable rest (Declared false) _ refl (out MaybeDomain rest tt c)
close WantBound rest c = by_token WantBound rest (FixedToken Oo) _ refl c
close WantRelation rest c = by_token WantRelation rest (RelationToken Le) _ refl (close_expression (Then _ ∷ rest) (out (Then _) rest tt c))
close WantFactor rest c = close_factor rest c
close WantExponent rest c = by_token WantExponent rest number _ refl c
close (MoreArguments n) rest c = close_arguments n rest c
close i rest c = out i rest tt c

pub closing : (items : List Item) → Closing items
closing [] = record { symbols = []; steps = []; derived = done }
closing (i ∷ items) = close i items (closing items)

-- ---- Where a token begins no text

pub nil_cons : {X : Type 0} {x : X} {xs : List X} → [] ≡ x ∷ xs → ⊥
nil_cons e = cc

pub none_some : {X : Type 0} {o : Option X} {x : X} → o ≡ None → o ≡ Some x → ⊥
none_some e f = cc

pub same_some : {X : Type 0} {o : Option X} {x y : X} → o ≡ Some x → o ≡ Some y → x ≡ y
same_some e f = cc

pub some_is : {X : Type 0} {x y : X} → Some x ≡ Some y → x ≡ y
some_is e = cc

pub head_is : {X : Type 0} {x y : X} {xs ys : List X} → x ∷ xs ≡ y ∷ ys → x ≡ y
head_is e = cc

pub tail_is : {X : Type 0} {x y : X} {xs ys : List X} → x ∷ xs ≡ y ∷ ys → xs ≡ ys
tail_is e = cc

-- where no text of the items begins with the token
pub shut : (s : Symbol) (ss : List Symbol) (items : List Item) (ops : List Op) → Shut s items → Derives items (s ∷ ss) ops → ⊥
shut s ss items ops h (left_out i rest ss' ops' may d) = shut s ss rest ops' (h.1 may) d
shut s ss items ops h (begun i rest s' ss' p ops' made d) = none_some h.0 made

-- where an item begins with the token, it is not left out
pub clash : (i : Item) (rest : List Item) (s : Symbol) (ss : List Symbol) (p : Produced) (ops : List Op) → Orderly (i ∷ rest) → MayEnd i → produced i s ≡ Some p → Derives rest (s ∷ ss) ops → ⊥
clash i rest s ss p ops o may made d = shut s ss rest ops (behind i s rest o.0 may (λ never. none_some never made)) d

pub after_some : (i : Item) (s : Symbol) (rest : List Item) (p : Produced) → Orderly (i ∷ rest) → produced i s ≡ Some p → Orderly (p.0 ++ rest)
after_some i s rest p o made = subst (λ (x : Option Produced). OrderlyAfter x rest) made (kept i s rest o)

-- what is left of a text of the items, on the pile
pub record GoesOn (items : List Item) (ss : List Symbol) : Type 0 where
  pub steps : List Op
  pub derived : Derives items ss steps

-- where an item can't begin with the token, it is left out
unlike : (i : Item) (rest : List Item) (s : Symbol) (ss : List Symbol) (ops : List Op) → produced i s ≡ None → Derives (i ∷ rest) (s ∷ ss) ops → MayEnd i × GoesOn rest (s ∷ ss)
unlike i rest s ss ops never (left_out j items ss' steps may d) = (may, record { steps = steps; derived = d })
unlike i rest s ss ops never (begun j items s' ss' p steps made d) = absurd (none_some never made)

-- where it can, it isn't
like : (i : Item) (rest : List Item) (s : Symbol) (ss : List Symbol) (p : Produced) (ops : List Op) → Orderly (i ∷ rest) → produced i s ≡ Some p → Derives (i ∷ rest) (s ∷ ss) ops → GoesOn (p.0 ++ rest) ss
like i rest s ss p ops o made (left_out j items ss' steps may d) = absurd (clash i rest s ss p steps o may made d)
like i rest s ss p ops o made (begun j items s' ss' q steps made' d) =
    record { steps = steps; derived = subst (λ (x : Produced). Derives (x.0 ++ rest) ss steps) (same_some made' made) d }

-- the pile that is met: what is left of a text stays one, and it is orderly
abbrev pub Behind : Option Item → List Item → Symbol → List Symbol → Type 0
Behind None rest s ss = ⊥
Behind (Some i) rest s ss = GoesOn (i ∷ rest) (s ∷ ss)

pub settled_forth : (s : Symbol) (items : List Item) (code : List Op) (o : Option Item) (rest : List Item) (code' : List Op) → Settles s items code o rest code' →
    (ss : List Symbol) → GoesOn items (s ∷ ss) → Behind o rest s ss
settled_forth s items code o rest code' (emptied ops) ss g = shut s ss [] g.steps tt g.derived
settled_forth s items code o rest code' (met i items' ops meets) ss g = g
settled_forth s items code o rest code' (ended i items' ops o' rest' more may never h) ss g =
    settled_forth s items' (ops ++ step_of i) o' rest' more h ss (unlike i items' s ss g.steps never g.derived).1

abbrev pub OrderlyBehind : Option Item → List Item → Type 0
OrderlyBehind None rest = Unit {0}
OrderlyBehind (Some i) rest = Orderly (i ∷ rest)

pub settled_orderly : (s : Symbol) (items : List Item) (code : List Op) (o : Option Item) (rest : List Item) (code' : List Op) → Settles s items code o rest code' →
    Orderly items → OrderlyBehind o rest
settled_orderly s items code o rest code' (emptied ops) h = tt
settled_orderly s items code o rest code' (met i items' ops meets) h = h
settled_orderly s items code o rest code' (ended i items' ops o' rest' more may never k) h = settled_orderly s items' (ops ++ step_of i) o' rest' more k h.1

pub taken_forth : (i : Item) (s : Symbol) (rest : List Item) (code : List Op) (items' : List Item) (code' : List Op) (o : Option Produced) → produced i s ≡ o →
    Follows o rest code items' code' → Orderly (i ∷ rest) → (ss : List Symbol) → GoesOn (i ∷ rest) (s ∷ ss) → GoesOn items' ss
taken_forth i s rest code items' code' None made f o ss g = absurd f
taken_forth i s rest code items' code' (Some p) made f o ss g = subst (λ (x : List Item). GoesOn x ss) (sym f.0) (like i rest s ss p g.steps o made g.derived)

pub taken_orderly : (i : Item) (s : Symbol) (rest : List Item) (code : List Op) (items' : List Item) (code' : List Op) (o : Option Produced) → produced i s ≡ o →
    Follows o rest code items' code' → Orderly (i ∷ rest) → Orderly items'
taken_orderly i s rest code items' code' None made f o = absurd f
taken_orderly i s rest code items' code' (Some p) made f o = subst Orderly (sym f.0) (after_some i s rest p o made)

-- where the item that is met can't begin with the token, no text goes on with it
pub refused_forth : (i : Item) (s : Symbol) (rest : List Item) (ss : List Symbol) → (MayEnd i → produced i s ≢ None) → produced i s ≡ None → GoesOn (i ∷ rest) (s ∷ ss) → ⊥
refused_forth i s rest ss meets never g = meets (unlike i rest s ss g.steps never g.derived).0 never

-- ---- Where a text ends

ends : (i : Item) (rest : List Item) (ops : List Op) → Derives (i ∷ rest) [] ops → MayEnd i × GoesOn rest []
ends i rest ops (left_out j items ss steps may d) = (may, record { steps = steps; derived = d })

-- where nothing is left of the text, the item that is met may be left out
pub settled_whole : (s : Symbol) (items : List Item) (code : List Op) (o : Option Item) (rest : List Item) (code' : List Op) → Settles s items code o rest code' →
    GoesOn items [] → (i : Item) → o ≡ Some i → MayEnd i
settled_whole s items code o rest code' (emptied ops) g i e = absurd (none_some refl e)
settled_whole s items code o rest code' (met j items' ops meets) g i e = subst MayEnd (some_is e) (ends j items' g.steps g.derived).0
settled_whole s items code o rest code' (ended j items' ops o' rest' more may never k) g i e =
    settled_whole s items' (ops ++ step_of j) o' rest' more k (ends j items' g.steps g.derived).1 i e
