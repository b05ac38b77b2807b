-- What stands behind an item never begins with a token that the item itself could take.
use Rattle.std.proofs.Common.{Bool, true, false, ◌≡◌, ◌≢◌, ℕ, zero, suc, List, [], ◌∷◌, ◌++◌, ◌-◌, refl, sym, subst, append_assoc, Option, Some, None}
use Rattle.pv_expr.specs.declared.constraint.Relation.TheVariants.{Eq}
use Rattle.pv_code.specs.declared.code.Op.{Op}
use Rattle.pv_code.specs.declared.code.Op.TheVariants.{One, Two, Define, Relate}
use Rattle.pv_expr.specs.declared.operators.UnaryOp.TheVariants.{Neg}
use Rattle.pv_expr.specs.declared.operators.BinaryOp.TheVariants.{Add, Sub, Mul, Div}
use Rattle.pv_grammar.specs.declared.symbol.Fixed.{Fixed}
use Rattle.pv_grammar.specs.declared.symbol.Fixed.TheVariants.{Plus, Minus, Star, Slash, Caret, Open, Close, CloseBracket, Comma, Semicolon, Constants, Variables, Constraints, Function as FunctionWord, End, In, EndOfText}
use Rattle.pv_grammar.specs.declared.symbol.Symbol.{Symbol}
use Rattle.pv_grammar.specs.declared.symbol.Symbol.TheVariants.{Fixed as FixedToken, Relation as RelationToken, Number, Declared, Constant as ConstantName, Variable as VariableName, Parameter as ParameterName, Function as FunctionName, Unknown}
use Rattle.pv_grammar.specs.declared.machine.Item.{Item}
use Rattle.pv_grammar.specs.declared.machine.Item.TheVariants.{Exactly, MaybeConstants, WantConstant, MoreConstants, MaybeConstant, WantEquals, MaybeSign, WantValue, MaybeFunctions, MoreParameters, MaybeSemicolon, WantVariable, MoreVariables, MaybeVariable, MaybeDomain, WantBound, WantRelation, MoreConstraints, MaybeConstraint, WantFactor, MoreFactors, MoreTerms, MaybePower, WantExponent, MoreArguments, Then}
use Rattle.pv_grammar.specs.Grammar.{Produced, produced, with_more, MayEnd, body_items, system_items, expression_items}

-- no text of the items begins with the token
abbrev pub Shut : Symbol → List Item → Type 0
Shut s [] = Unit {0}
Shut s (i ∷ st) = (produced i s ≡ None) × (MayEnd i → Shut s st)

-- none of the tokens begins a text of the items
abbrev pub AllShut : List Symbol → List Item → Type 0
AllShut [] st = Unit {0}
AllShut (s ∷ ss) st = Shut s st × AllShut ss st

abbrev power_tokens : List Symbol
power_tokens = FixedToken Caret ∷ []

abbrev factor_tokens : List Symbol
factor_tokens = FixedToken Star ∷ FixedToken Slash ∷ power_tokens

abbrev term_tokens : List Symbol
term_tokens = FixedToken Plus ∷ FixedToken Minus ∷ factor_tokens

abbrev sign_tokens : List Symbol
sign_tokens = FixedToken Plus ∷ FixedToken Minus ∷ []

abbrev list_tokens : List Symbol
list_tokens = FixedToken Comma ∷ FixedToken Semicolon ∷ Declared false ∷ Declared true ∷ []

abbrev EndsText : List Item → Type 0
EndsText (Exactly End ∷ st) = Unit {0}
EndsText st = ⊥

-- what stands behind the item begins with no token with which the item's text may go on where it could also end
abbrev pub Follows : Item → List Item → Type 0
Follows MaybeConstants st = AllShut (FixedToken Constants ∷ list_tokens) st
Follows MoreConstants st = AllShut list_tokens st
Follows MaybeConstant st = AllShut list_tokens st
Follows MaybeSign st = AllShut sign_tokens st
Follows MaybeFunctions st = AllShut (FixedToken FunctionWord ∷ FixedToken Semicolon ∷ []) st
Follows MaybeSemicolon st = AllShut (FixedToken Semicolon ∷ []) st
Follows WantVariable st = AllShut (FixedToken In ∷ []) st
Follows MoreVariables st = AllShut (FixedToken In ∷ list_tokens) st
Follows MaybeVariable st = AllShut (FixedToken In ∷ list_tokens) st
Follows MaybeDomain st = AllShut (FixedToken In ∷ []) st
Follows WantRelation st = AllShut term_tokens st
Follows MoreConstraints st = EndsText st
Follows MaybeConstraint st = EndsText st
Follows WantFactor st = AllShut power_tokens st
Follows MoreFactors st = AllShut factor_tokens st
Follows MoreTerms st = AllShut term_tokens st
Follows MaybePower st = AllShut power_tokens st
Follows i st = Unit {0}

abbrev pub Orderly : List Item → Type 0
Orderly [] = Unit {0}
Orderly (i ∷ st) = Follows i st × Orderly st

-- ---- A token that the item could take begins nothing behind it

ends_shut : (s : Symbol) (st : List Item) → EndsText st → produced (Exactly End) s ≡ None → Shut s st
ends_shut s (Exactly End ∷ st) a e = (e, absurd)
ends_shut s st a e = absurd a

pub behind : (i : Item) (s : Symbol) (st : List Item) → Follows i st → MayEnd i → produced i s ≢ None → Shut s st
behind MoreConstraints (FixedToken End) st a may n = absurd (n refl)
behind MoreConstraints s st a may n = ends_shut s st a refl
behind MaybeConstraint (FixedToken End) st a may n = absurd (n refl)
behind MaybeConstraint s st a may n = ends_shut s st a refl
behind (Exactly f) s st a may n = absurd may
behind (MoreArguments k) s st a may n = absurd may
behind WantFactor (Declared true) st a may n = absurd may
behind i (Declared true) st a may n = search
behind i (FixedToken EndOfText) st a may n = search
behind i s st a may n = search

-- ---- What follows a token is orderly where the item was

abbrev never : Item → List Symbol → Bool
never i [] = true
never i (s ∷ ss) = elim (produced i s) [ Some p ↦ false | None ↦ never i ss ]

none_first : (o : Option Produced) (b : Bool) → elim o [ Some p ↦ false | None ↦ b ] ≡ true → (o ≡ None) × (b ≡ true)
none_first None b e = (refl, e)
none_first (Some p) b e = cc

-- tokens that begin no text of the items begin none behind one more item with which none of them begins
over : (ss : List Symbol) (i : Item) (st : List Item) → never i ss ≡ true → (MayEnd i → AllShut ss st) → AllShut ss (i ∷ st)
over [] i st e h = tt
over (s ∷ ss) i st e h =
    let first = none_first (produced i s) (never i ss) e in
    ((first.0, λ may. (h may).0), over ss i st first.1 (λ may. (h may).1))

never_argument : (n : ℕ) → never (MoreArguments n) term_tokens ≡ true
never_argument zero = refl
never_argument (suc n) = refl

-- an expression, before items that none of its tokens could begin
expression : (rest : List Item) → AllShut term_tokens rest → Orderly rest → Orderly (WantFactor ∷ MoreFactors ∷ MoreTerms ∷ rest)
expression rest h o = (
  over power_tokens MoreFactors (MoreTerms ∷ rest) refl (λ _. over power_tokens MoreTerms rest refl (λ _. h.1.1.1.1)),
  (over factor_tokens MoreTerms rest refl (λ _. h.1.1), (h, o)),
)

arguments : (n : ℕ) (rest : List Item) → Orderly rest → Orderly (WantFactor ∷ MoreFactors ∷ MoreTerms ∷ MoreArguments n ∷ rest)
arguments n rest o = expression (MoreArguments n ∷ rest) (over term_tokens (MoreArguments n) rest (never_argument n) absurd) (tt, o)

further_factor : (op : Op) (rest : List Item) → Orderly (MoreFactors ∷ rest) → Orderly (WantFactor ∷ Then op ∷ MoreFactors ∷ rest)
further_factor op rest o =
    (over power_tokens (Then op) (MoreFactors ∷ rest) refl (λ _. over power_tokens MoreFactors rest refl (λ _. o.0.1.1)), (tt, o))

further_term : (op : Op) (rest : List Item) → Orderly (MoreTerms ∷ rest) → Orderly (WantFactor ∷ MoreFactors ∷ Then op ∷ MoreTerms ∷ rest)
further_term op rest o =
    let step : AllShut factor_tokens (Then op ∷ MoreTerms ∷ rest) = over factor_tokens (Then op) (MoreTerms ∷ rest) refl (λ _. over factor_tokens MoreTerms rest refl (λ _. o.0.1.1)) in
    (over power_tokens MoreFactors (Then op ∷ MoreTerms ∷ rest) refl (λ _. step.1.1), (step, (tt, o)))

constraint : (rest : List Item) → Orderly (MoreConstraints ∷ rest) → Orderly (WantFactor ∷ MoreFactors ∷ MoreTerms ∷ WantRelation ∷ MoreConstraints ∷ rest)
constraint rest o =
    let ends : AllShut term_tokens rest = (ends_shut _ rest o.0 refl, (ends_shut _ rest o.0 refl, (ends_shut _ rest o.0 refl, (ends_shut _ rest o.0 refl, (ends_shut _ rest o.0 refl, tt))))) in
    expression (WantRelation ∷ MoreConstraints ∷ rest) (over term_tokens WantRelation (MoreConstraints ∷ rest) refl absurd)
    (over term_tokens MoreConstraints rest refl (λ _. ends), o)

constant : (rest : List Item) → Orderly rest → Orderly (WantEquals ∷ MaybeSign ∷ WantValue ∷ rest)
constant rest o = (tt, (over sign_tokens WantValue rest refl absurd, (tt, o)))

bound : (rest : List Item) → Orderly rest → Orderly (MaybeSign ∷ WantBound ∷ rest)
bound rest o = (over sign_tokens WantBound rest refl absurd, (tt, o))

body : (rest : List Item) → Orderly (MaybeFunctions ∷ rest) → Orderly (body_items ++ rest)
body rest o =
    let last : List Item = MaybeSemicolon ∷ MaybeFunctions ∷ rest in
    let end : List Item = MaybeSemicolon ∷ Exactly End ∷ last in
    expression (Then Define ∷ end)
    (over term_tokens (Then Define) end refl (λ _. over term_tokens MaybeSemicolon (Exactly End ∷ last) refl (λ _. over term_tokens (Exactly End) last refl absurd)))
    (tt, (over (FixedToken Semicolon ∷ []) (Exactly End) last refl absurd, (tt, (over (FixedToken Semicolon ∷ []) MaybeFunctions rest refl (λ _. o.0.1), o))))

-- where nothing is produced, the claim is one that all items have: one term serves where a token leaves nothing to come
abbrev pub OrderlyAfter : Option Produced → List Item → Type 0
OrderlyAfter None rest = Orderly rest
OrderlyAfter (Some p) rest = Orderly (p.0 ++ rest)

kept_factor : (s : Symbol) (rest : List Item) → Orderly (WantFactor ∷ rest) → OrderlyAfter (produced WantFactor s) rest
kept_factor (FixedToken Plus) rest o = o
kept_factor (FixedToken Minus) rest o = (over power_tokens (Then (One Neg)) rest refl (λ _. o.0), (tt, o.1))
kept_factor (FixedToken Open) rest o = arguments 0 (MaybePower ∷ rest) o
kept_factor (Number value exponent) rest o = o
kept_factor (ConstantName value) rest o = o
kept_factor (VariableName i) rest o = o
kept_factor (ParameterName i) rest o = o
kept_factor (FunctionName op arity) rest o = (tt, arguments (arity - 1) (Then op ∷ MaybePower ∷ rest) (tt, o))
kept_factor Unknown rest o = o
kept_factor s rest o = o.1

after_more : (more rest : List Item) (o : Option Produced) → Orderly rest → OrderlyAfter o (more ++ rest) → OrderlyAfter (with_more more o) rest
after_more more rest None h k = h
after_more more rest (Some p) h k = subst Orderly (sym (append_assoc p.0 more rest)) k

pub kept : (i : Item) (s : Symbol) (rest : List Item) → Orderly (i ∷ rest) → OrderlyAfter (produced i s) rest
kept (Exactly EndOfText) (FixedToken EndOfText) rest o = o.1
kept MaybeConstants (FixedToken Constants) rest o = (tt, (o.0.1, o.1))
kept WantConstant (Declared taken) rest o = constant rest o.1
kept MoreConstants (FixedToken Comma) rest o = o
kept MoreConstants (FixedToken Semicolon) rest o = o
kept MaybeConstant (Declared taken) rest o = constant (MoreConstants ∷ rest) o
kept WantEquals (RelationToken Eq) rest o = o.1
kept MaybeFunctions (FixedToken FunctionWord) rest o = (tt, (tt, (tt, (tt, (tt, body rest o)))))
kept MoreParameters (FixedToken Comma) rest o = (tt, (tt, o.1))
kept WantVariable (Declared taken) rest o = o
kept MoreVariables (FixedToken Comma) rest o = o
kept MoreVariables (FixedToken Semicolon) rest o = o
kept MaybeVariable (Declared taken) rest o = (over (FixedToken In ∷ []) MoreVariables rest refl (λ _. (o.0.0, tt)), o)
kept MaybeDomain (FixedToken In) rest o = (tt, bound (Exactly Comma ∷ MaybeSign ∷ WantBound ∷ Exactly CloseBracket ∷ rest) (tt, bound (Exactly CloseBracket ∷ rest) (tt, o.1)))
kept WantRelation (RelationToken r) rest o = expression (Then (Relate r) ∷ rest) (over term_tokens (Then (Relate r)) rest refl (λ _. o.0)) (tt, o.1)
kept MoreConstraints (FixedToken Semicolon) rest o = o
kept MaybeConstraint s rest o =
    after_more (MoreFactors ∷ MoreTerms ∷ WantRelation ∷ MoreConstraints ∷ []) rest (produced WantFactor s) o.1
    (kept_factor s (MoreFactors ∷ MoreTerms ∷ WantRelation ∷ MoreConstraints ∷ rest) (constraint rest o))
kept WantFactor s rest o = kept_factor s rest o
kept MoreFactors (FixedToken Star) rest o = further_factor (Two Mul) rest o
kept MoreFactors (FixedToken Slash) rest o = further_factor (Two Div) rest o
kept MoreTerms (FixedToken Plus) rest o = further_term (Two Add) rest o
kept MoreTerms (FixedToken Minus) rest o = further_term (Two Sub) rest o
kept MaybePower (FixedToken Caret) rest o = (tt, o.1)
kept WantExponent (Number value (Some n)) rest o = o.1
kept (MoreArguments zero) (FixedToken Close) rest o = o.1
kept (MoreArguments (suc n)) (FixedToken Comma) rest o = arguments n rest o.1
kept i (FixedToken EndOfText) rest o = o.1
kept i s rest o = o.1

-- ---- The two starts

abbrev sides : List Item
sides = WantFactor ∷ MoreFactors ∷ MoreTerms ∷ WantRelation ∷ MoreConstraints ∷ Exactly End ∷ []

-- functions, and then a word
functions : (f : Fixed) (rest : List Item) (ss : List Symbol) → never MaybeFunctions ss ≡ true → never (Exactly f) ss ≡ true → AllShut ss (MaybeFunctions ∷ Exactly f ∷ rest)
functions f rest ss e e' = over ss MaybeFunctions (Exactly f ∷ rest) e (λ _. over ss (Exactly f) rest e' absurd)

pub system_orderly : Orderly system_items
system_orderly =
    let behind_variables : List Item = Exactly Constraints ∷ sides in
    let from_variables : List Item = WantVariable ∷ MoreVariables ∷ MaybeFunctions ∷ behind_variables in (
      functions Variables from_variables (FixedToken Constants ∷ list_tokens) refl refl,
      (
        over (FixedToken FunctionWord ∷ FixedToken Semicolon ∷ []) (Exactly Variables) from_variables refl absurd,
        (
          tt,
          (
            over (FixedToken In ∷ []) MoreVariables (MaybeFunctions ∷ behind_variables) refl (λ _. functions Constraints sides (FixedToken In ∷ []) refl refl),
            (
              functions Constraints sides (FixedToken In ∷ list_tokens) refl refl,
              (over (FixedToken FunctionWord ∷ FixedToken Semicolon ∷ []) (Exactly Constraints) sides refl absurd, (tt, constraint (Exactly End ∷ []) (tt, (tt, tt)))),
            ),
          ),
        ),
      ),
    )

pub expression_orderly : Orderly expression_items
expression_orderly = expression [] (tt, (tt, (tt, (tt, (tt, tt))))) tt
