-- The bytes of a declared name are letters, digits and `_`; and each token begins within the text.
use Rattle.std.proofs.Common.{◌≡◌, ℕ, ◌+◌, ◌-◌, ◌<◌, ◌≤◌, Bool, true, List, length, get_or, refl, ap, arith, ⊎_elim}
use Rattle.std.specs.List.{slice_range}
use Rattle.std.specs.Str.{IsAscii}
use Rattle.std.proofs.str.Laws.{order}
use Rattle.std.proofs.lemmas.Bool.{false≢true}
use Rattle.std.proofs.lemmas.Str.Ascii.{IsAscii-from_reads}
use Rattle.pv_grammar.specs.declared.counts.Phase.{Phase}
use Rattle.pv_grammar.specs.declared.counts.Phase.TheVariants.{Variables}
use Rattle.pv_grammar.specs.declared.symbol.Symbol.{Symbol}
use Rattle.pv_grammar.specs.declared.symbol.Symbol.TheVariants.{Declared}
use Rattle.pv_tokens.specs.declared.token.Kind.{Kind}
use Rattle.pv_tokens.specs.declared.token.Kind.TheVariants.{Name, Number}
use Rattle.pv_tokens.specs.declared.token.Token.{Token}
use Rattle.pv_tokens.specs.Tokens.{IsName, IsNext}
use Rattle.pv_tokens.proofs.Numerals.{inside}
use Rattle.pv_tokens.proofs.Slices.{byte_in, length_slice}
use Rattle.pv_parse.specs.Declarations.{declares}
use Rattle.pv_parse.specs.Meanings.{Names}
use Rattle.pv_parse.specs.Sentences.{StandsFor, bytes_of}

-- ---- Which tokens are names

-- a symbol that is declared is a name's
pub declared_name : (p : Phase) (n : Names) (bytes : List ℕ) (kind : Kind) (taken : Bool) → StandsFor p n bytes kind (Declared taken) → kind ≡ Name
declared_name p n bytes Name taken e = refl
declared_name p n bytes Number taken e = absurd e
declared_name p n bytes kind taken e = absurd (cc)

-- ---- Its bytes

name_ascii : (t : List ℕ) (i j : ℕ) → IsName t i j → IsAscii (slice_range t i j)
name_ascii t i j n =
    let long : length (slice_range t i j) ≡ j - i = length_slice t i j n.others.within in
    IsAscii-from_reads (slice_range t i j) (j - i) (omega (arith, long))
    (λ k below.
    let read : get_or (slice_range t i j) k 0 ≡ get_or t (i + k) 0 = byte_in t i j (i + k) k refl (omega arith) in
    ⊎_elim (λ (first : k < 1). let at_first : i + k ≡ i = omega arith in grind (arith, read, n.letter, ap (λ m. get_or t m 0) at_first)) (λ (later : 1 ≤ k). grind (arith, read, n.others.each (i + k)))
    (order k 1))

pub declared_ascii : (t : List ℕ) (from : ℕ) (x : Token) (p : Phase) (n : Names) (s : Symbol) →
    IsNext t from x → StandsFor p n (bytes_of t x) x.kind s → (q : Phase) → declares q s ≡ true → IsAscii (bytes_of t x)
declared_ascii t from x p n (Declared taken) next stands q e =
    let word = next.longest.word in
    let is : x.kind ≡ Name = declared_name p n (bytes_of t x) x.kind taken stands in
    name_ascii t x.start x.end (grind arith)
declared_ascii t from x p n s next stands Variables e = absurd (false≢true e)
declared_ascii t from x p n s next stands q e = absurd (false≢true e)

-- ---- Places

pub begins_within : (t : List ℕ) (from : ℕ) (x : Token) → IsNext t from x → x.start ≤ length t
begins_within t from x next = let word = next.longest.word in grind (arith, inside)
