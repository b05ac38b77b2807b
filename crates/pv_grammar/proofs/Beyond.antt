-- The limit that forbids a token, by the part of the text in which it would stand; and a sign may stand where a function's name may.
use Rattle.std.proofs.Common.{◌≡◌, ℕ, zero, ◌+◌, ◌-◌, nat_lt, Bool, true, false, List, [], ◌∷◌, ◌++◌, refl, sym, ap, ◌∙◌, subst, append_assoc, if◌then◌else◌, ◌⊎◌, inl, inr, Some, Ok, Err}
use Rattle.pv_code.specs.declared.code.Op.{Op}
use Rattle.pv_code.specs.declared.code.Op.TheVariants.{One}
use Rattle.pv_expr.specs.declared.operators.UnaryOp.TheVariants.{Neg}
use Rattle.pv_grammar.specs.declared.cause.Cause.{Cause}
use Rattle.pv_grammar.specs.declared.cause.Cause.TheVariants.{UnknownName, DuplicateName, TooManyVariables, TooManyConstraints, TooManyFunctions, TooDeep, Unexpected}
use Rattle.pv_grammar.specs.declared.counts.Counts.{Counts}
use Rattle.pv_grammar.specs.declared.counts.Phase.{Phase}
use Rattle.pv_grammar.specs.declared.counts.Phase.TheVariants.{Parameters, Body, Variables, NextConstraint, Sides}
use Rattle.pv_grammar.specs.declared.machine.Item.{Item}
use Rattle.pv_grammar.specs.declared.machine.Item.TheVariants.{Exactly, MaybeConstraint, MaybePower, MoreArguments, MoreConstraints, MoreFactors, MoreTerms, Then, WantFactor, WantRelation}
use Rattle.pv_grammar.specs.declared.symbol.Fixed.TheVariants.{Minus, Open, Comma, Function as FunctionWord}
use Rattle.pv_grammar.specs.declared.symbol.Symbol.{Symbol}
use Rattle.pv_grammar.specs.declared.symbol.Symbol.TheVariants.{Fixed as FixedToken, Declared, Constant as ConstantName, Function as Call, Unknown}
use Rattle.pv_grammar.specs.ByItems.{BeginsByItems}
use Rattle.pv_grammar.specs.Causes.{as_known, limit_cause, name_cause, nought}
use Rattle.pv_grammar.specs.Counting.{Counting, counted, levels, moved, next, operates, where_below, within}
use Rattle.pv_grammar.specs.Grammar.{Derives, Produced, begun, done, left_out, produced, step_of}
use Rattle.pv_grammar.proofs.Following.{CalmAt}
use Rattle.pv_grammar.proofs.Forward.{head_is, nil_cons, none_some, some_is, tail_is}
use Rattle.pv_grammar.proofs.Passing.{call_is, inside_is, operator_is}
use Rattle.pv_grammar.proofs.Ready.{InExpression, made}
use Rattle.pv_grammar.specs.Standings.{begins_expression}

-- ---- Which limit forbids a token

ok_not_err : {x : Counts} {cause : Cause} → Ok x ≡ Err cause → ⊥
ok_not_err e = cc

abbrev failed : Cause → Counting
failed c = Err c

err_is : {c d : Cause} → failed c ≡ failed d → d ≡ c
err_is e = cc

-- where a count ends, it is for this cause
abbrev Fails : Cause → Counting → Type 0
Fails c (Ok d) = Unit {0}
Fails c (Err cause) = cause ≡ c

fails_if : (c : Cause) (b : Bool) (x : Counts) → Fails c (if b then Ok x else Err c)
fails_if c true x = tt
fails_if c false x = refl

fails_next : (c : Cause) (r : Counting) (f : Counts → Counting) → Fails c r → ((d : Counts) → Fails c (f d)) → Fails c (next r f)
fails_next c (Ok d) f h g = g d
fails_next c (Err cause) f h g = h

abbrev IsPlainToken : Symbol → Type 0
IsPlainToken Unknown = ⊥
IsPlainToken (Declared true) = ⊥
IsPlainToken (Call op n) = ⊥
IsPlainToken s = Unit {0}

operated_fails : (b : Bool) (x c : Counts) (t : Bool) → Fails TooDeep (if b then (if t then Ok x else Err TooDeep) else Ok c)
operated_fails true x c t = fails_if TooDeep t x
operated_fails false x c t = tt

levels_fails : (s : Symbol) (c : Counts) → IsPlainToken s → Fails TooDeep (levels s c)
levels_fails (FixedToken Open) c h = fails_if TooDeep (nat_lt c.level 100) _
levels_fails (Call op n) c h = absurd h
levels_fails s c h = tt

-- where no level and no operation is counted
where_calm : (P : ℕ → ℕ → Type 0) (l o : ℕ) → (l ≡ 0) × (o ≡ 0) → P 0 0 → P l o
where_calm P l o (low, few) p = subst (λ (n : ℕ). P n o) (sym low) (subst (P 0) (sym few) p)

begun_by : (b : Bool) (x : Counts) (f : Counts → Counting) → Fails TooManyConstraints (f x) → Fails TooManyConstraints (next (if b then Ok x else Err TooManyConstraints) f)
begun_by true x f granted = granted
begun_by false x f granted = refl

-- a constraint that begins, or none does
begun_fails : (b : Bool) (s : Symbol) (l o a f v k : ℕ) → (l ≡ 0) × (o ≡ 0) → Fails TooManyConstraints (within (made Sides 0 0 a f v (k + 1)) s) → Fails TooManyConstraints (moved (made NextConstraint l o a f v k) s) →
    Fails TooManyConstraints (next (if b then where_below k 64 TooManyConstraints (made Sides l o a f v (k + 1)) else Ok (made NextConstraint l o a f v k)) (λ d. within d s))
begun_fails true s l o a f v k h granted other =
    begun_by (nat_lt k 64) (made Sides l o a f v (k + 1)) (λ d. within d s) (where_calm (λ x y. Fails TooManyConstraints (within (made Sides x y a f v (k + 1)) s)) l o h granted)
begun_fails false s l o a f v k h granted other = other

inside_fails : (p : Phase) (s : Symbol) (l o a f v k : ℕ) → InExpression p → IsPlainToken s → ((d : Counts) → Fails TooDeep (moved d s)) → Fails TooDeep (counted (made p l o a f v k) s)
inside_fails p s l o a f v k i t g =
    subst (Fails TooDeep) (sym (inside_is p s i l o a f v k))
    (fails_next TooDeep _ _ (operated_fails (operates s) _ _ (nat_lt o 1000)) (λ d. fails_next TooDeep (levels s d) _ (levels_fails s d t) g))

fails : (p : Phase) (s : Symbol) (l o a f v k : ℕ) → IsPlainToken s → CalmAt p l o → Fails (limit_cause p s) (counted (made p l o a f v k) s)
fails Variables (Declared false) l o a f v k t h = fails_if TooManyVariables (nat_lt v 12) _
fails Parameters (Declared false) l o a f v k t h = fails_if Unexpected (nat_lt a 12) _
fails Parameters (FixedToken Comma) l o a f v k t h = fails_if Unexpected (nat_lt a 12) _
fails p (FixedToken FunctionWord) l o a f v k t h = fails_if TooManyFunctions (nat_lt f 64) _
fails p (FixedToken Comma) l o a f v k t h = tt
fails p (Declared false) l o a f v k t h = tt
fails p (Declared true) l o a f v k t h = absurd t
fails p Unknown l o a f v k t h = absurd t
fails p (Call op n) l o a f v k t h = absurd t
fails Body s l o a f v k t h = inside_fails Body s l o a f v k tt t (λ d. tt)
fails Sides s l o a f v k t h = inside_fails Sides s l o a f v k tt t (λ d. tt)
fails NextConstraint s l o a f v k t h = begun_fails (begins_expression s) s l o a f v k h tt tt
fails p s l o a f v k t h = tt

pub limit_at : (p : Phase) (s : Symbol) (l o a f v k : ℕ) (cause : Cause) → IsPlainToken s → CalmAt p l o → counted (made p l o a f v k) s ≡ Err cause → cause ≡ limit_cause p s
limit_at p s l o a f v k cause t h e = subst (Fails (limit_cause p s)) e (fails p s l o a f v k t h)

-- ---- Which limit forbids a function's name

-- a sign is forbidden in its place too; or it is not, and the name is for the parenthesis behind it
abbrev CallErr : Phase → Counts → Op → ℕ → Cause → Type 0
CallErr p c op n cause = ((cause ≡ limit_cause p (Call op n)) × ((d : Counts) → counted c (FixedToken Minus) ≡ Ok d → ⊥)) ⊎ ((cause ≡ Unexpected) × ((d : Counts) × (counted c (FixedToken Minus) ≡ Ok d)))

call_by : (b u : Bool) (x y : Counts) (cause : Cause) (r : Counting) → (if b then (if u then Ok x else Err Unexpected) else Err TooDeep) ≡ Err cause → r ≡ (if b then Ok y else Err TooDeep) →
    ((cause ≡ TooDeep) × ((d : Counts) → r ≡ Ok d → ⊥)) ⊎ ((cause ≡ Unexpected) × ((d : Counts) × (r ≡ Ok d)))
call_by true true x y cause r e is = absurd (ok_not_err e)
call_by true false x y cause r e is = inr (err_is e, (y, is))
call_by false u x y cause r e is = inl (err_is e, λ d same. ok_not_err (sym same ∙ is))

call_begun : (b : Bool) (x y : Counts) (cause : Cause) (f g : Counts → Counting) → f x ≡ Ok y → next (if b then Ok x else Err TooManyConstraints) f ≡ Err cause →
    (cause ≡ TooManyConstraints) × ((d : Counts) → next (if b then Ok x else Err TooManyConstraints) g ≡ Ok d → ⊥)
call_begun true x y cause f g granted e = absurd (ok_not_err (sym granted ∙ e))
call_begun false x y cause f g granted e = (err_is e, λ d one. ok_not_err (sym one))

pub call_at : (p : Phase) (op : Op) (n : ℕ) (l o a f v k : ℕ) (cause : Cause) → CalmAt p l o → counted (made p l o a f v k) (Call op n) ≡ Err cause → CallErr p (made p l o a f v k) op n cause
call_at Body op n l o a f v k cause h e =
    call_by (nat_lt o 1000) (nat_lt l 100) (made Body l (o + 1) a f v k) (made Body l (o + 1) a f v k) cause _ (sym (call_is Body tt op n l o a f v k) ∙ e) (operator_is Body (FixedToken Minus) tt (refl, λ d i. refl) l o a f v k)
call_at Sides op n l o a f v k cause h e =
    call_by (nat_lt o 1000) (nat_lt l 100) (made Sides l (o + 1) a f v k) (made Sides l (o + 1) a f v k) cause _ (sym (call_is Sides tt op n l o a f v k) ∙ e) (operator_is Sides (FixedToken Minus) tt (refl, λ d i. refl) l o a f v k)
call_at NextConstraint op n l o a f v k cause h e =
    let one_more : ℕ → ℕ → Type 0 = λ x y. within (made Sides x y a f v (k + 1)) (Call op n) ≡ Ok (made Sides x (y + 1) a f v (k + 1)) in
    inl (call_begun (nat_lt k 64) (made Sides l o a f v (k + 1)) _ cause (λ d. within d (Call op n)) (λ d. within d (FixedToken Minus)) (where_calm one_more l o h refl) e)
call_at p op n l o a f v k cause h e = absurd (ok_not_err e)

-- ---- Names

-- a name is forbidden as a known one would be, or only for what it is declared as
abbrev NameErr : Counts → Symbol → Cause → Type 0
NameErr c s cause = (counted c (as_known s) ≡ Err cause) ⊎ (((d : Counts) × (counted c (as_known s) ≡ Ok d)) × (cause ≡ name_cause s))

unknown_by : (b : Bool) (x y : Counts) (c cause : Cause) (f g : Counts → Counting) → f x ≡ Err UnknownName → g x ≡ Ok y → next (if b then Ok x else Err c) f ≡ Err cause →
    (next (if b then Ok x else Err c) g ≡ Err cause) ⊎ (((d : Counts) × (next (if b then Ok x else Err c) g ≡ Ok d)) × (cause ≡ UnknownName))
unknown_by true x y c cause f g e h k = inr ((y, h), err_is (sym e ∙ k))
unknown_by false x y c cause f g e h k = inl k

unknown_at : (p : Phase) (l o a f v k : ℕ) (cause : Cause) → counted (made p l o a f v k) Unknown ≡ Err cause → NameErr (made p l o a f v k) Unknown cause
unknown_at NextConstraint l o a f v k cause e = unknown_by (nat_lt k 64) (made Sides l o a f v (k + 1)) _ TooManyConstraints cause (λ d. within d Unknown) (λ d. within d (ConstantName nought)) refl refl e
unknown_at p l o a f v k cause e = inr ((_, refl), err_is e)

taken_by : (b : Bool) (x : Counts) (c cause : Cause) → (if b then Err DuplicateName else Err c) ≡ failed cause →
    ((if b then Ok x else Err c) ≡ Err cause) ⊎ (((d : Counts) × ((if b then Ok x else Err c) ≡ Ok d)) × (cause ≡ DuplicateName))
taken_by true x c cause e = inr ((x, refl), err_is e)
taken_by false x c cause e = inl e

taken_at : (p : Phase) (l o a f v k : ℕ) (cause : Cause) → counted (made p l o a f v k) (Declared true) ≡ Err cause → NameErr (made p l o a f v k) (Declared true) cause
taken_at Variables l o a f v k cause e = taken_by (nat_lt v 12) _ TooManyVariables cause e
taken_at Parameters l o a f v k cause e = taken_by (nat_lt a 12) _ Unexpected cause e
taken_at p l o a f v k cause e = inr ((_, refl), err_is e)

pub name_at : (c : Counts) (s : Symbol) (cause : Cause) → counted c s ≡ Err cause → NameErr c s cause
name_at c Unknown cause e = unknown_at c.phase c.level c.operations c.parameters c.functions c.variables c.constraints cause e
name_at c (Declared true) cause e = taken_at c.phase c.level c.operations c.parameters c.functions c.variables c.constraints cause e
name_at c (Declared false) cause e = inl e
name_at c s cause e = inl e

-- ---- A sign in front of a function's name

-- a step can be put anywhere
put_in : (all : List Item) (ss : List Symbol) (ops : List Op) → Derives all ss ops → (op : Op) (xs items : List Item) → all ≡ xs ++ items → (ops' : List Op) × Derives (xs ++ Then op ∷ items) ss ops'
put_in all ss ops d op [] items e = (op ∷ ops, left_out (Then op) items ss ops tt (subst (λ (z : List Item). Derives z ss ops) e d))
put_in all ss ops (done) op (x ∷ xs) items e = absurd (nil_cons e)
put_in all ss ops (left_out i rest ss' ops' may d) op (x ∷ xs) items e =
    let more = put_in rest ss' ops' d op xs items (tail_is e) in
    subst (λ (z : Item). (code : List Op) × Derives (z ∷ xs ++ Then op ∷ items) ss code) (head_is e) (step_of i ++ more.0, left_out i (xs ++ Then op ∷ items) ss' more.0 may more.1)
put_in all ss ops (begun i rest s ss' p ops' made d) op (x ∷ xs) items e =
    let more = put_in (p.0 ++ rest) ss' ops' d op (p.0 ++ xs) items (ap (λ (z : List Item). p.0 ++ z) (tail_is e) ∙ sym (append_assoc p.0 xs items)) in
    subst (λ (z : Item). (code : List Op) × Derives (z ∷ xs ++ Then op ∷ items) ss code) (head_is e)
    (p.1 ++ more.0, begun i (xs ++ Then op ∷ items) s ss' p more.0 made (subst (λ (z : List Item). Derives z ss' more.0) (append_assoc p.0 xs (Then op ∷ items)) more.1))

-- where a factor begins with the name, it begins with a sign and the name
signed_item : (i : Item) (op : Op) (n : ℕ) (p : Produced) (items : List Item) (rest : List Symbol) (ops : List Op) → produced i (Call op n) ≡ Some p → Derives (p.0 ++ items) rest ops →
    (ops' : List Op) × Derives (i ∷ items) (FixedToken Minus ∷ Call op n ∷ rest) ops'
signed_item WantFactor op n p items rest ops made d =
    let more = put_in (p.0 ++ items) rest ops d (One Neg) p.0 items refl in
    (_, begun WantFactor items (FixedToken Minus) (Call op n ∷ rest) _ _ refl (begun WantFactor (Then (One Neg) ∷ items) (Call op n) rest p more.0 made more.1))
signed_item MaybeConstraint op n p items rest ops made d =
    let further : List Item = MoreFactors ∷ MoreTerms ∷ WantRelation ∷ MoreConstraints ∷ [] in
    let q : List Item = Exactly Open ∷ WantFactor ∷ MoreFactors ∷ MoreTerms ∷ MoreArguments (n - 1) ∷ Then op ∷ MaybePower ∷ [] in
    let whole : Derives (q ++ (further ++ items)) rest ops = subst (λ (z : Produced). Derives (z.0 ++ items) rest ops) (sym (some_is made)) d in
    let more = put_in (q ++ (further ++ items)) rest ops whole (One Neg) q (further ++ items) refl in
    (_, begun MaybeConstraint items (FixedToken Minus) (Call op n ∷ rest) _ _ refl (begun WantFactor (Then (One Neg) ∷ (further ++ items)) (Call op n) rest (q, []) more.0 refl more.1))
signed_item (MoreArguments zero) op n p items rest ops made d = absurd (none_some refl made)
signed_item i op n p items rest ops made d = absurd (none_some refl made)

signed_text : (items : List Item) (all : List Symbol) (ops : List Op) → Derives items all ops → (before : List Symbol) (op : Op) (n : ℕ) (rest : List Symbol) → all ≡ before ++ Call op n ∷ rest →
    (ops' : List Op) × Derives items (before ++ FixedToken Minus ∷ Call op n ∷ rest) ops'
signed_text items all ops (done) [] op n rest e = absurd (nil_cons e)
signed_text items all ops (done) (b ∷ before) op n rest e = absurd (nil_cons e)
signed_text items all ops (left_out i others ss ops' may d) before op n rest e =
    let more = signed_text others ss ops' d before op n rest e in (step_of i ++ more.0, left_out i others _ more.0 may more.1)
signed_text items all ops (begun i others s ss p ops' made d) [] op n rest e =
    signed_item i op n p others rest ops' (subst (λ (z : Symbol). produced i z ≡ Some p) (head_is e) made) (subst (λ (z : List Symbol). Derives (p.0 ++ others) z ops') (tail_is e) d)
signed_text items all ops (begun i others s ss p ops' made d) (b ∷ before) op n rest e =
    let more = signed_text (p.0 ++ others) ss ops' d before op n rest (tail_is e) in
    subst (λ (z : Symbol). (code : List Op) × Derives (i ∷ others) (z ∷ before ++ FixedToken Minus ∷ Call op n ∷ rest) code) (head_is e) (p.1 ++ more.0, begun i others s _ p more.0 made more.1)

-- where a text goes on with a function's name, one goes on with a sign
pub sign_begins : (items : List Item) (before : List Symbol) (op : Op) (n : ℕ) → BeginsByItems items (before ++ Call op n ∷ []) → BeginsByItems items (before ++ FixedToken Minus ∷ [])
sign_begins items before op n b =
    let found = signed_text items ((before ++ Call op n ∷ []) ++ b.rest) b.steps b.derived before op n b.rest (append_assoc before (Call op n ∷ []) b.rest) in
    record {
      rest = Call op n ∷ b.rest;
      steps = found.0;
      derived = subst (λ (z : List Symbol). Derives items z found.0) (sym (append_assoc before (FixedToken Minus ∷ []) (Call op n ∷ b.rest))) found.1;
    }
