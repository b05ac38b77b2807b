-- The numbers that a text writes, and the constants that it declares, are fractions within the limits.
use Rattle.std.proofs.Common.{◌≡◌, ℕ, ◌+◌, ◌<◌, ◌∙◌, zero, suc, Bool, true, false, List, [], ◌∷◌, ◌++◌, length, get_or, refl, sym, subst, arith, neg_ℤ, unsigned_abs, Option, Some, option_to_list, map}
use Rattle.std.specs.Int.{IsGcd}
use Rattle.std.proofs.lemmas.Int.{ints}
use Rattle.pv_expr.specs.declared.domain.Bound.{Bound}
use Rattle.pv_expr.specs.declared.domain.Domain.{Domain}
use Rattle.pv_expr.specs.Systems.{IsBound, IsDomain}
use Rattle.pv_code.specs.declared.fraction.Fraction.{Fraction}
use Rattle.pv_code.specs.Fractions.{IsLowest, signed}
use Rattle.pv_grammar.specs.declared.counts.Counts.{Counts}
use Rattle.pv_grammar.specs.declared.counts.Phase.{Phase}
use Rattle.pv_grammar.specs.declared.counts.Phase.TheVariants.{Bounds}
use Rattle.pv_grammar.specs.declared.symbol.Fixed.TheVariants.{End, Oo}
use Rattle.pv_grammar.specs.declared.symbol.Symbol.{Symbol}
use Rattle.pv_grammar.specs.declared.symbol.Symbol.TheVariants.{Fixed as FixedToken, Number, Declared, Constant}
use Rattle.pv_tokens.specs.declared.keyword.Word.{Word}
use Rattle.pv_tokens.specs.declared.keyword.Word.TheVariants.{End as EndWord}
use Rattle.pv_parse.specs.declared.names.Meaning.{Meaning}
use Rattle.pv_parse.specs.declared.names.Meaning.TheVariants.{Constant as ConstantMeaning, Function as FunctionMeaning}
use Rattle.pv_parse.specs.Declarations.{AreGood, Mark, declares, own}
use Rattle.pv_parse.specs.Fractions.{HasFraction, HaveFractions, KnowsFractions}
use Rattle.pv_parse.specs.Meanings.{AreSame, KnowsVariables, Names, learnt, no_names, use_of, variables_from}
use Rattle.pv_parse.specs.Scopes.{Variable, bound_at, bounded, bounded_by, bounds_of, domain_in, everything, variable, variables_in}
use Rattle.pv_parse.specs.Sentences.{name_symbol, word_symbol}
use Rattle.pv_parse.proofs.KnownNames.{name_is}
use Rattle.pv_parse.proofs.Naming.{IsNew, learnt_known, numbered_is}
use Rattle.std.specs.List.{AllByRecursion}
use Rattle.std.proofs.lemmas.Bool.{cond_both}
use Rattle.pv_grammar.specs.Standings.{Standing, is_minus}
use Rattle.pv_grammar.specs.Counting.{standing_of}

-- ---- What a name stands for

word_fraction : (w : Word) → HasFraction (word_symbol w)
word_fraction EndWord = tt
word_fraction w = tt

used_fraction : (o : Option Meaning) → ((value : Fraction) → o ≡ Some (ConstantMeaning value) → IsLowest value) → HasFraction (use_of true o)
used_fraction (Some (ConstantMeaning value)) h = h value refl
used_fraction (Some (FunctionMeaning number (suc further))) h = tt
used_fraction o h = tt

pub name_fraction : (p : Phase) (n : Names) (name : List ℕ) (w : Option Word) → KnowsFractions n → HasFraction (name_symbol p n name w)
name_fraction p n name w h =
    name_is HasFraction (record { word = word_fraction; unknown = tt; declared = λ taken. tt; parameter = λ i. tt }) p n name w (used_fraction (n.known name) (h name))

-- ---- Declarations keep it

pub signed_lowest : (b : Bool) (v : Fraction) → IsLowest v → IsLowest (signed b v)
signed_lowest false v h = h
signed_lowest true v h =
    let same : unsigned_abs (neg_ℤ v.p) ≡ unsigned_abs v.p = omega (arith, ints) in
    record {
      lowest = subst (λ (n : ℕ). IsGcd n v.q 1) (sym same) h.lowest;
      top_below = omega (arith, same, h.top_below);
      under_above = h.under_above;
      under_below = h.under_below;
    }

new_fraction : (y : Standing) (s : Symbol) (n : Names) (m : Meaning) (v : Fraction) → HasFraction s → IsNew y s n m → Some m ≡ Some (ConstantMeaning v) → IsLowest v
new_fraction y (Declared taken) n m v l (at, is) e = absurd (cc)
new_fraction y (Number value exponent) n m v l is e = subst IsLowest (let same : signed n.negative value ≡ v = cc in same) (signed_lowest n.negative value l)
new_fraction y (FixedToken End) n m v l is e = absurd (cc)
new_fraction y s n m v l is e = absurd is

pub learnt_fractions : (c : Counts) (s : Symbol) (bytes : List ℕ) (n : Names) → HasFraction s → KnowsFractions n → KnowsFractions (learnt (standing_of c) s bytes n)
learnt_fractions c s bytes n l h = λ name v.
    learnt_known (λ (o : Option Meaning). o ≡ Some (ConstantMeaning v) → IsLowest v) (standing_of c) s bytes name n (λ m new. new_fraction (standing_of c) s n m v l new) (h name v)

pub same_fractions : (n m : Names) → AreSame n m → KnowsFractions m → KnowsFractions n
same_fractions n m same h = λ name v e. h name v (sym (same.known name) ∙ e)

pub no_fractions : KnowsFractions no_names
no_fractions = λ name v e. absurd (cc)

pub variables_fractions : (variables : List (List ℕ)) (n : Names) → KnowsVariables variables n → KnowsFractions n
variables_fractions variables n same =
    same_fractions n (variables_from variables 0) same
    (λ name v. numbered_is (λ (o : Option Meaning). o ≡ Some (ConstantMeaning v) → IsLowest v) (length variables + 0) (λ e. absurd (cc)) (λ i l e. absurd (cc)) variables 0 name (omega arith))

-- ---- Domains

one_bound : (p : Phase) (s : Symbol) (negative : Bool) (bs : List Bound) → HasFraction s → AllByRecursion IsBound bs → AllByRecursion IsBound (option_to_list (bound_at p s negative) ++ bs)
one_bound Bounds (Number v exponent) negative bs l h = (signed_lowest negative v l, h)
one_bound Bounds (Constant v) negative bs l h = (signed_lowest negative v l, h)
one_bound Bounds (FixedToken Oo) true bs l h = (tt, h)
one_bound Bounds (FixedToken Oo) false bs l h = (tt, h)
one_bound p s negative bs l h = h

own_bounds : (ms : List Mark) (negative : Bool) → HaveFractions ms → AllByRecursion IsBound (bounds_of negative (own ms))
own_bounds [] negative h = tt
own_bounds (m ∷ ms) negative h =
    cond_both (declares m.phase m.symbol) [] (m ∷ own ms) (λ (z : List Mark). AllByRecursion IsBound (bounds_of negative z)) (λ yes. tt)
    (λ no. one_bound m.phase m.symbol negative (bounds_of (is_minus m.symbol) (own ms)) h.0 (own_bounds ms (is_minus m.symbol) h.1))

abbrev pub HasBounds : Domain → Type 0
HasBounds d = IsBound d.lo × IsBound d.hi

domain_bounds : (bs : List Bound) (d : Domain) → AllByRecursion IsBound bs → HasBounds d → HasBounds (bounded_by bs d)
domain_bounds [] d h k = k
domain_bounds (b ∷ bs) d h k = domain_bounds bs (bounded b d) h.1 (k.1, h.0)

pub have_bounds : (ms : List Mark) → HaveFractions ms → AllByRecursion HasBounds (map domain_in (variables_in ms))
have_bounds [] h = tt
have_bounds (m ∷ ms) h =
    cond_both (declares m.phase m.symbol) (variable m.bytes ms ∷ variables_in ms) (variables_in ms) (λ (z : List Variable). AllByRecursion HasBounds (map domain_in z))
    (λ yes. (domain_bounds (bounds_of false (own ms)) everything (own_bounds ms false h.1) (tt, tt), have_bounds ms h.1)) (λ no. have_bounds ms h.1)

-- by places
pub domains_at : (ds : List Domain) → AllByRecursion HasBounds ds → AreGood ds → (k : ℕ) (d : Domain) → k < length ds → IsDomain (get_or ds k d)
domains_at [] h g k d in_list = absurd (omega arith)
domains_at (x ∷ ds) h g zero d in_list = record { lower = h.0.0; upper = h.0.1; in_order = g.0 }
domains_at (x ∷ ds) h g (suc k) d in_list = domains_at ds h.1 g.1 k d (omega arith)

pub have_one : (ms : List Mark) (m : Mark) → HaveFractions ms → HasFraction m.symbol → HaveFractions (ms ++ m ∷ [])
have_one [] m h k = (k, tt)
have_one (n ∷ ms) m h k = (h.0, have_one ms m h.1 k)
