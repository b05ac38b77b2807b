-- A text is one list of tokens for the grammar. So a text of the grammar has no first fault, and each other one has at most one.
use Rattle.std.proofs.Common.{◌*◌, ◌++◌, ◌-◌, ◌^◌, ◌∙◌, ◌∷◌, ◌≡◌, List, None, Option, Some, [], ap, append_assoc, arith, refl, subst, sym, ℕ}
use Rattle.std.proofs.lemmas.List.{append-nil}
use Rattle.pv_code.specs.declared.fraction.Fraction.{Fraction}
use Rattle.pv_grammar.specs.declared.cause.Cause.{Cause}
use Rattle.pv_grammar.specs.declared.cause.Cause.TheVariants.{NumberTooWide}
use Rattle.pv_grammar.specs.declared.counts.Phase.{Phase}
use Rattle.pv_grammar.specs.declared.counts.Phase.TheVariants.{Sides}
use Rattle.pv_grammar.specs.declared.symbol.Symbol.{Symbol}
use Rattle.pv_grammar.specs.declared.symbol.Symbol.TheVariants.{Never, Number}
use Rattle.pv_grammar.specs.Causes.{Begins, IsCause}
use Rattle.pv_grammar.specs.Limits.{IsLimitedExpression}
use Rattle.pv_grammar.specs.Productions.{IsExpression, expression_symbols}
use Rattle.pv_grammar.specs.Standings.{Standing, first_in, standing_after, standing_behind}
use Rattle.pv_grammar.proofs.Within.{expression_limited}
use Rattle.pv_tokens.specs.declared.number.Decimal.{Decimal}
use Rattle.pv_tokens.specs.declared.token.Kind.{Kind}
use Rattle.pv_tokens.specs.declared.token.Kind.TheVariants.{Number as NumberKind, End}
use Rattle.pv_tokens.specs.declared.token.Token.{Token}
use Rattle.pv_tokens.specs.Numbers.{IsRead, IsValue}
use Rattle.pv_tokens.specs.Tokens.{IsNext}
use Rattle.pv_tokens.proofs.OneRatio.{one_lowest}
use Rattle.pv_tokens.proofs.Powers.{least_power}
use Rattle.pv_tokens.proofs.Slices.{same_numeral}
use Rattle.pv_tokens.proofs.Unique.{one_next}
use Rattle.pv_parse.specs.Faults.{IsExpressionFault, IsFirst}
use Rattle.pv_parse.specs.Meanings.{KnowsVariables, Names, learnt, variables_from}
use Rattle.pv_parse.proofs.Same.{as_one}
use Rattle.pv_parse.specs.Sentences.{IsExpressionText, IsNumberSymbol, MayRaise, Spells, SpellsTo, StandsFor, bytes_of}

-- ---- Numbers

one_value : (t : List ℕ) (v w : Fraction) → IsRead t (v.p, v.q) → IsRead t (w.p, w.q) → v ≡ w
one_value t v w h k =
    let value : IsValue h.decimal (w.p, w.q) = subst (λ (d : Decimal). IsValue d (w.p, w.q)) (same_numeral t k.decimal h.decimal k.numeral h.numeral) k.value in
    let (ps, qs) = one_lowest (h.decimal.digits * 10 ^ (h.decimal.up - h.decimal.down)) (10 ^ (h.decimal.down - h.decimal.up)) (v.p, v.q) (w.p, w.q) (omega (arith, least_power (h.decimal.down - h.decimal.up))) h.value value in
    λ i. record { p = ps i; q = qs i }

one_exponent : (t : List ℕ) (e f : Option ℕ) → MayRaise t e → MayRaise t f → e ≡ f
one_exponent t None None h k = refl
one_exponent t None (Some n) h k = absurd (h (n, k))
one_exponent t (Some n) None h k = absurd (k (n, h))
one_exponent t (Some n) (Some m) h k = ap (λ (x : ℕ). Some x) (h.value ∙ sym k.value)

one_number : (t : List ℕ) (s s' : Symbol) → IsNumberSymbol t s → IsNumberSymbol t s' → s ≡ s'
one_number t (Number v e) (Number w f) h k = let values = one_value t v w h.0 k.0 in let exponents = one_exponent t e f h.1 k.1 in λ i. Number (values i) (exponents i)
one_number t (Number v e) (Never NumberTooWide) h k = absurd (h.0.narrow (k h.0.decimal h.0.numeral))
one_number t (Never NumberTooWide) (Number w f) h k = absurd (k.0.narrow (h k.0.decimal k.0.numeral))
one_number t (Never NumberTooWide) (Never NumberTooWide) h k = refl
one_number t s s' h k = absurd (first_of (assumption (h, k)))

-- a token stands for one symbol
one_symbol : (p : Phase) (n : Names) (t : List ℕ) (kind : Kind) (s s' : Symbol) → StandsFor p n t kind s → StandsFor p n t kind s' → s ≡ s'
one_symbol p n t NumberKind s s' h k = one_number t s s' h k
one_symbol p n t kind s s' h k = h ∙ sym k

-- at one place is one token, and one symbol
one_here : (t : List ℕ) (p : Phase) (n : Names) (from : ℕ) (x x' : Token) (s s' : Symbol) → IsNext t from x → IsNext t from x' →
    StandsFor p n (bytes_of t x) x.kind s → StandsFor p n (bytes_of t x') x'.kind s' → (x' ≡ x) × (s' ≡ s)
one_here t p n from x x' s s' next next' stands stands' =
    let token : x' ≡ x = one_next t from x' x next' next in
    (token, one_symbol p n (bytes_of t x) x.kind s' s (subst (λ (z : Token). StandsFor p n (bytes_of t z) z.kind s') token stands') stands)

-- ---- Lists of tokens

-- the second list goes on behind the first
abbrev Ahead : List ℕ → Standing → List Symbol → List Symbol → ℕ → Names → Type 0
Ahead t y xs ys to m =
    (s : Symbol) × (rest : List Symbol) × (ys ≡ xs ++ s ∷ rest) × (x : Token) × IsNext t to x × (¬ (x.kind ≡ End)) × StandsFor (standing_after y xs).phase m (bytes_of t x) x.kind s

data Compared (t : List ℕ) (y : Standing) (xs ys : List Symbol) (to to' : ℕ) (m m' : Names) : Type 0 where
  alike : xs ≡ ys → to ≡ to' → m ≡ m' → Compared t y xs ys to to' m m'
  shorter : Ahead t y xs ys to m → Compared t y xs ys to to' m m'
  longer : Ahead t y ys xs to' m' → Compared t y xs ys to to' m m'

compared_behind : (t : List ℕ) (y : Standing) (s : Symbol) (xs ys : List Symbol) (to to' : ℕ) (m m' : Names) → Compared t (standing_behind y s) xs ys to to' m m' → Compared t y (s ∷ xs) (s ∷ ys) to to' m m'
compared_behind t y s xs ys to to' m m' (alike e f g) = alike (ap (λ (z : List Symbol). s ∷ z) e) f g
compared_behind t y s xs ys to to' m m' (shorter (r, rest, e, x, next, inside, stands)) = shorter (r, rest, ap (λ (z : List Symbol). s ∷ z) e, x, next, inside, stands)
compared_behind t y s xs ys to to' m m' (longer (r, rest, e, x, next, inside, stands)) = longer (r, rest, ap (λ (z : List Symbol). s ∷ z) e, x, next, inside, stands)

-- two lists of tokens from one place are alike as far as both go
compare : (t : List ℕ) (n : Names) (y : Standing) (from : ℕ) (xs : List Symbol) (to : ℕ) (m : Names) (ys : List Symbol) (to' : ℕ) (m' : Names) →
    SpellsTo t n y from xs to m → SpellsTo t n y from ys to' m' → Compared t y xs ys to to' m m'
compare t n y from [] to m [] to' m' h k = alike refl (sym h.0 ∙ k.0) (sym h.1 ∙ k.1)
compare t n y from [] to m (s ∷ ys) to' m' h (x, next, inside, stands, rest) = shorter (s, ys, refl, x, rw h.0 at next, inside, rw h.1 at stands)
compare t n y from (s ∷ xs) to m [] to' m' (x, next, inside, stands, rest) k = longer (s, xs, refl, x, rw k.0 at next, inside, rw k.1 at stands)
compare t n y from (s ∷ xs) to m (s' ∷ ys) to' m' (x, next, inside, stands, rest) (x', next', inside', stands', rest') =
    let (token, symbol) = one_here t y.phase n from x x' s s' next next' stands stands' in
    let more : SpellsTo t (learnt y s (bytes_of t x) n) (standing_behind y s) x.end ys to' m' = rw (token, symbol) at rest' in
    rw symbol (compared_behind t y s xs ys to to' m m' (compare t (learnt y s (bytes_of t x) n) (standing_behind y s) x.end xs to m ys to' m' rest more))

-- nothing goes on behind the end of the text
none_ahead : (t : List ℕ) (y : Standing) (xs ys : List Symbol) (to : ℕ) (m : Names) (x : Token) → IsNext t to x → x.kind ≡ End → Ahead t y xs ys to m → ⊥
none_ahead t y xs ys to m x next ends (s, rest, cut, z, next', inside, stands) = inside (ap (λ (z : Token). z.kind) (one_next t to z x next' next) ∙ ends)

pub one_spelling : (t : List ℕ) (n : Names) (y : Standing) (ss ss' : List Symbol) → Spells t n y ss → Spells t n y ss' → ss ≡ ss'
one_spelling t n y ss ss' (to, m, x, spelled, next, ends) (to', m', x', spelled', next', ends') =
    elim (compare t n y 0 ss to m ss' to' m' spelled spelled') [
      | alike e f g ↦ e
      | shorter a ↦ absurd (none_ahead t y ss ss' to m x next ends a)
      | longer a ↦ absurd (none_ahead t y ss' ss to' m' x' next' ends' a)
    ]

-- ---- First faults

-- what is within the limits is a text
abbrev pub IsPart : (List Symbol → Type 0) → (List Symbol → Type 0) → Type 0
IsPart IsLimited IsText = (ss : List Symbol) → IsLimited ss → IsText ss

one_cause : (IsText IsLimited : List Symbol → Type 0) → IsPart IsLimited IsText → (before : List Symbol) (p : Phase) (s : Symbol) (cause cause' : Cause) → IsCause IsText IsLimited before p s cause → IsCause IsText IsLimited before p s cause' → cause ≡ cause'
one_cause IsText IsLimited part before p s cause cause' h k = grind arith

module _ (t : List ℕ) (known : Names) (start : Standing) (IsText IsLimited : List Symbol → Type 0) where
  -- what is spelled up to a fault does not go on as a text within the limits does
  fault_inside : (byte : ℕ) (cause : Cause) (f : IsFirst t known start IsText IsLimited byte cause) (ss : List Symbol) → Ahead t start f.before ss f.from f.names → Begins IsLimited ss → ⊥
  fault_inside byte cause f ss (s, more, cut, x, next, inside, stands) (rest, text) =
      let (token, symbol) = one_here t (standing_after start f.before).phase f.names f.from f.token x f.symbol s f.next next f.stands stands in
      let whole : IsLimited (f.before ++ f.symbol ∷ (more ++ rest)) = rw (cut, append_assoc f.before (s ∷ more) rest, symbol) at text in
      f.none (more ++ rest, rw (append_assoc f.before (f.symbol ∷ []) (more ++ rest)) whole)

  -- a text of the grammar within the limits has no fault
  pub no_fault : (ss : List Symbol) (byte : ℕ) (cause : Cause) → Spells t known start ss → IsLimited ss → IsFirst t known start IsText IsLimited byte cause → ⊥
  no_fault ss byte cause (to, m, y, spelled, next, ends) text f =
      elim (compare t known start 0 f.before f.from f.names ss to m f.spelled spelled) [
        | alike e g k ↦
            f.unfinished
            (ap (λ (z : Token). z.kind) (one_next t f.from f.token y f.next (subst (λ (z : ℕ). IsNext t z y) (sym g) next)) ∙ ends)
            (subst IsLimited (sym e) text)
        | shorter a ↦ fault_inside byte cause f ss a ([], subst IsLimited (sym (append-nil ss)) text)
        | longer a ↦ none_ahead t start ss f.before to m y next ends a
      ]

  -- two first faults of one text are at one token, for one cause
  module _ (part : IsPart IsLimited IsText) (byte byte' : ℕ) (cause cause' : Cause) (f : IsFirst t known start IsText IsLimited byte cause) (g : IsFirst t known start IsText IsLimited byte' cause') where
    fault_there : f.before ≡ g.before → f.from ≡ g.from → f.names ≡ g.names → (byte ≡ byte') × (cause ≡ cause')
    fault_there e k l =
        let (next, stands, because) : IsNext t f.from g.token × StandsFor (standing_after start f.before).phase f.names (bytes_of t g.token) g.token.kind g.symbol
        × IsCause IsText IsLimited f.before (standing_after start f.before).phase g.symbol cause' = rw (e, k, l) (g.next, g.stands, g.because) in
        let p : Phase = (standing_after start f.before).phase in
        let (token, symbol) = one_here t p f.names f.from f.token g.token f.symbol g.symbol f.next next f.stands stands in
        let because' : IsCause IsText IsLimited f.before p f.symbol cause' = rw symbol at because in
        (f.place ∙ (ap (λ (z : Token). z.start) (sym token) ∙ sym g.place), one_cause IsText IsLimited part f.before p f.symbol cause cause' f.because because')

    pub one_fault : (byte ≡ byte') × (cause ≡ cause')
    one_fault =
        elim (compare t known start 0 f.before f.from f.names g.before g.from g.names f.spelled g.spelled) [
          | alike e k l ↦ fault_there e k l
          | shorter a ↦ absurd (fault_inside byte cause f g.before a (g.closes.rest, g.closes.text))
          | longer a ↦ absurd (fault_inside byte' cause' g f.before a (f.closes.rest, f.closes.text))
        ]

-- ---- The names of an expression's variables

pub one_known : (variables : List (List ℕ)) (n m : Names) → KnowsVariables variables n → KnowsVariables variables m → n ≡ m
one_known variables n m h k = as_one n (variables_from variables 0) h ∙ sym (as_one m (variables_from variables 0) k)

pub expression_apart : (variables : List (List ℕ)) (t : List ℕ) (byte : ℕ) (cause : Cause) → IsExpressionText variables t → IsExpressionFault variables t byte cause → ⊥
expression_apart variables t byte cause (n, knows, e, spelled) (m, knows', f) =
    no_fault t n (first_in Sides) IsExpression IsLimitedExpression (expression_symbols e []) byte cause spelled.0 (e, refl, spelled.1) (rw (one_known variables m n knows' knows) at f)

pub expression_fault : (variables : List (List ℕ)) (t : List ℕ) (byte byte' : ℕ) (cause cause' : Cause) → IsExpressionFault variables t byte cause → IsExpressionFault variables t byte' cause' → (byte ≡ byte') × (cause ≡ cause')
expression_fault variables t byte byte' cause cause' (n, knows, f) (m, knows', g) =
    one_fault t n (first_in Sides) IsExpression IsLimitedExpression expression_limited.text byte byte' cause cause' f (rw (one_known variables m n knows' knows) at g)
