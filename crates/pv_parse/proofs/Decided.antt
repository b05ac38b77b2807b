-- Each text is a sentence or has a first fault.
use Rattle.std.proofs.Common.{◌≡◌, ℕ, zero, suc, ◌+◌, ◌-◌, ◌*◌, ◌/◌, ◌^◌, ◌<◌, ◌≤◌, ◌⊎◌, inl, inr, false, List, [], ◌∷◌, ◌++◌, length, get_or, refl, sym, ◌∙◌, subst, arith, ⊎_elim, Option, Some, None, Result, Ok, Err, pos}
use Rattle.std.proofs.str.Laws.{order}
use Rattle.std.specs.Str.Parse.{digits_value}
use Rattle.pv_code.specs.declared.code.Op.{Op}
use Rattle.pv_grammar.specs.declared.cause.Cause.{Cause}
use Rattle.pv_grammar.specs.declared.cause.Cause.TheVariants.{NumberTooWide}
use Rattle.pv_grammar.specs.declared.counts.Counts.{Counts}
use Rattle.pv_grammar.specs.declared.counts.Phase.{Phase}
use Rattle.pv_grammar.specs.declared.counts.Phase.TheVariants.{Between, Sides}
use Rattle.pv_grammar.specs.declared.machine.Item.{Item}
use Rattle.pv_grammar.specs.declared.machine.Item.TheVariants.{Then}
use Rattle.pv_grammar.specs.declared.symbol.Symbol.{Symbol}
use Rattle.pv_grammar.specs.declared.symbol.Symbol.TheVariants.{Never, Number}
use Rattle.pv_grammar.specs.ByItems.{IsStart}
use Rattle.pv_grammar.specs.Causes.{refusal}
use Rattle.pv_grammar.specs.Grammar.{Follows, MayEnd, Produced, Settles, emptied, ended, expression_items, is_exponent, met, produced, step_of, system_items}
use Rattle.pv_grammar.specs.Counting.{counted, nothing, standing_of}
use Rattle.pv_tokens.specs.declared.number.Decimal.{Decimal}
use Rattle.pv_tokens.specs.declared.token.Kind.{Kind}
use Rattle.pv_tokens.specs.declared.token.Kind.TheVariants.{Number as NumberKind, End}
use Rattle.pv_tokens.specs.declared.token.Token.{Token}
use Rattle.pv_tokens.specs.Numbers.{IsNumeral, TooWide}
use Rattle.pv_tokens.specs.Tokens.{IsDigit, IsNext}
use Rattle.pv_tokens.proofs.Exists.{digits_from, next_from, next_more, next_on, next_takes, next_within}
use Rattle.pv_tokens.proofs.OneRatio.{common}
use Rattle.pv_tokens.proofs.Powers.{divided, least_power}
use Rattle.pv_tokens.proofs.Slices.{same_numeral, token_numeral}
use Rattle.pv_parse.specs.ByItems.{AreBounded, IsFirstFrom, IsLimitedFrom}
use Rattle.pv_parse.specs.Faults.{IsEither, IsExpressionFault, IsSystemFault}
use Rattle.pv_parse.specs.Meanings.{KnowsVariables, Names, learnt, no_names, variables_from}
use Rattle.pv_parse.specs.Sentences.{IsExpressionText, IsNumberSymbol, IsSystemText, MayRaise, Spells, StandsFor, bytes_of}
use Rattle.pv_parse.proofs.Pieces.{known_bounded, none_bounded}
use Rattle.pv_parse.proofs.Reached.{Reached, starts}
use Rattle.pv_parse.proofs.Taken.{forbidden, refused, taken_not_end, taken_on, too_much, whole}
use Rattle.pv_parse.proofs.Same.{same_refl}

-- ---- What a token stands for

abbrev AllDigits : List ℕ → Type 0
AllDigits t = (k : ℕ) → k < length t → IsDigit (get_or t k 0)

digits_or : (t : List ℕ) → AllDigits t ⊎ ¬ AllDigits t
digits_or t =
    let (j, digits) = digits_from t 0 (omega arith) in
    ⊎_elim (λ short. inr (λ all. digits.1 (all j short))) (λ whole. inl (λ k l. digits.0.each k (omega arith) (omega arith))) (order j (length t))

exponent_some : (t : List ℕ) → (e : Option ℕ) × MayRaise t e
exponent_some t =
    ⊎_elim
    (λ digits. ⊎_elim (λ wide. (None, λ (n, h). omega (arith, h.value, h.most))) (λ most. (Some (digits_value 10 t), record { digits = digits; value = refl; most = most })) (order 32 (digits_value 10 t)))
    (λ none. (None, λ (n, h). none h.digits))
    (digits_or t)

number_some : (t : List ℕ) (d : Decimal) → IsNumeral t d → (s : Symbol) × IsNumberSymbol t s
number_some t d h =
    ⊎_elim
    (λ wide. (Never NumberTooWide, λ e k. subst TooWide (same_numeral t d e h k) wide))
    (λ narrow.
    let some : 1 ≤ 10 ^ (d.down - d.up) = least_power (d.down - d.up) in
    let c = common (10 ^ (d.down - d.up)) (d.digits * 10 ^ (d.up - d.down)) (10 ^ (d.down - d.up)) (omega arith) in
    let low = divided (d.digits * 10 ^ (d.up - d.down)) (10 ^ (d.down - d.up)) c.divisor (omega arith) c.gcd in
    let e = exponent_some t in
    (Number (record { p = pos (d.digits * 10 ^ (d.up - d.down) / c.divisor); q = 10 ^ (d.down - d.up) / c.divisor }) e.0, (record { decimal = d; numeral = h; narrow = narrow; value = low.1 }, e.1)))
    (let h : TooWide d ⊎ ¬ TooWide d = grind arith in h)

only : (x : Symbol) → (s : Symbol) × (s ≡ x)
only x = (x, refl)

stands_some : (p : Phase) (n : Names) (t : List ℕ) (kind : Kind) → (kind ≡ NumberKind → (d : Decimal) × IsNumeral t d) → (s : Symbol) × StandsFor p n t kind s
stands_some p n t NumberKind h = let g = h refl in number_some t g.0 g.1
stands_some p n t kind h = only _

-- ---- What a token meets

may_end_or : (i : Item) → MayEnd i ⊎ ¬ MayEnd i
may_end_or (Then op) = inl tt
may_end_or i = first_of (search (inl, tt), search inr)

abbrev Meets : Symbol → List Item → List Op → Type 0
Meets s items code = (o : Option Item) × (rest : List Item) × (code' : List Op) × Settles s items code o rest code'

meets_by : (s : Symbol) (i : Item) (items : List Item) (code : List Op) (o : Option Produced) → produced i s ≡ o → (MayEnd i → Meets s items (code ++ step_of i)) → Meets s (i ∷ items) code
meets_by s i items code (Some p) e g = (Some i, items, code, met i items code (λ m never. let no_such : None ≡ Some p = sym never ∙ e in cc))
meets_by s i items code None e g =
    ⊎_elim
    (λ m. let (o, rest, code', h) = g m in (o, rest, code', ended i items code o rest code' m e h))
    (λ never. (Some i, items, code, met i items code (λ m. absurd (never m))))
    (may_end_or i)

meets : (s : Symbol) (items : List Item) (code : List Op) → Meets s items code
meets s [] code = (None, [], code, emptied code)
meets s (i ∷ items) code = meets_by s i items code (produced i s) refl (λ m. meets s items (code ++ step_of i))

-- ---- One token after another

-- the text is one within the limits or has a first fault
abbrev pub Decides : List ℕ → Names → Counts → Type 0
Decides t known start = IsEither ((ss : List Symbol) × Spells t known (standing_of start) ss × IsLimitedFrom start.phase ss) (IsFirstFrom t known start)

module _ {t : List ℕ} {known names : Names} {start counts : Counts} {first : List Item} {initial : List Op} {items : List Item} {code : List Op} {from : ℕ}
    (r : Reached t known names start counts first initial items code from) {x : Token} {s : Symbol} (next : IsNext t from x) (stands : StandsFor counts.phase names (bytes_of t x) x.kind s)
    (go : ¬ (x.kind ≡ End) → (d : Counts) (items'' : List Item) (code'' : List Op) →
    Reached t known (learnt (standing_of counts) s (bytes_of t x) names) start d first initial items'' code'' x.end → Decides t known start) where
  counted_by : (i : Item) (rest : List Item) (code' : List Op) (p : Produced) → Settles s items code (Some i) rest code' → Follows (produced i s) rest code' (p.0 ++ rest) (code' ++ p.1) →
      (k : Result Counts Cause) → counted counts s ≡ k → Decides t known start
  counted_by i rest code' p settles follows (Ok d) e = go (taken_not_end r next stands settles _ _ follows) d (p.0 ++ rest) (code' ++ p.1) (taken_on r next stands settles _ _ follows e)
  counted_by i rest code' p settles follows (Err cause) e = inr (x.start, cause, forbidden r next stands settles _ _ follows cause e)

  taken_by : (i : Item) (rest : List Item) (code' : List Op) → Settles s items code (Some i) rest code' → (o : Option Produced) → produced i s ≡ o → Decides t known start
  taken_by i rest code' settles None e = inr (x.start, refusal (is_exponent i) s, refused r next stands settles (is_exponent i) e refl)
  taken_by i rest code' settles (Some p) e = counted_by i rest code' p settles (rw e (refl, refl)) (counted counts s) refl

  met_by : (o : Option Item) (rest : List Item) (code' : List Op) → Settles s items code o rest code' → Decides t known start
  met_by None rest code' settles =
      ⊎_elim (λ ends. inl (whole r next stands settles ends)) (λ more. inr (x.start, refusal false s, too_much r next stands settles more.0)) (next_more t from x next)
  met_by (Some i) rest code' settles = taken_by i rest code' settles (produced i s) refl

-- the rest of the text is read in so many steps
reads : (n : ℕ) (t : List ℕ) (known : Names) (start : Counts) (first : List Item) (initial : List Op) (names : Names) (counts : Counts) (items : List Item) (code : List Op) (from : ℕ) →
    Reached t known names start counts first initial items code from → from ≤ length t → length t < from + n → Decides t known start
reads zero t known start first initial names counts items code from r inside few = absurd (omega arith)
reads (suc n) t known start first initial names counts items code from r inside few =
    let (x, next) = next_from t from inside in
    let (s, stands) = stands_some counts.phase names (bytes_of t x) x.kind (λ is. token_numeral t from x next is) in
    let (o, rest, code', settles) = meets s items code in
    met_by r next stands
    (λ inner d items'' code'' k.
    reads n t known start first initial (learnt (standing_of counts) s (bytes_of t x) names) d items'' code'' x.end k (next_within t from x next)
    (let on = next_on t from x next in let more = next_takes t from x inner next in omega arith))
    o rest code' settles

decides : (t : List ℕ) (known : Names) (start : Counts) (items : List Item) → IsStart start items → AreBounded known → Decides t known start
decides t known start items is few = reads (suc (length t)) t known start items [] known start items [] 0 (starts t known start items [] is few) (omega arith) (omega arith)

pub decides_system : (t : List ℕ) → IsEither (IsSystemText t) (IsSystemFault t)
decides_system t =
    ⊎_elim (λ (ss, spelled, (x, e, within)). inl (x, (rw e at spelled, within))) (λ f. inr f) (decides t no_names (nothing Between) system_items (inl (refl, refl)) (none_bounded no_names refl))

pub decides_expression : (variables : List (List ℕ)) (t : List ℕ) → IsEither (IsExpressionText variables t) (IsExpressionFault variables t)
decides_expression variables t =
    let n : Names = variables_from variables 0 in
    let knows : KnowsVariables variables n = same_refl n in
    ⊎_elim
    (λ (ss, spelled, (x, e, within)). inl (n, knows, x, (rw e at spelled, within)))
    (λ (byte, cause, f). inr (byte, cause, (n, knows, f)))
    (decides t n (nothing Sides) expression_items (inr (refl, refl)) (known_bounded variables n knows))
