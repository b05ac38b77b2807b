-- Tokens that a closing is made of, and that there is always a fresh name.
use Rattle.std.proofs.Common.{◌≡◌, ℕ, zero, suc, ◌+◌, ◌-◌, ◌<◌, ◌≤◌, ◌⊎◌, inl, Bool, true, false, eqb, leb, ◌&&◌, ◌||◌, List, [], ◌∷◌, length, get_or, replicate, refl, sym, ap, ◌∙◌, Option, Some, None, is_some, codes, arith, pos, ⊎_elim, Ok}
use Rattle.std.specs.Str.{bytes_eq}
use Rattle.std.proofs.lemmas.Bool.{cases_Bool, cond-false}
use Rattle.std.specs.Bool.{Decides}
use Rattle.std.proofs.lemmas.Bool.Decides.{Decides-by_and, nat_tests}
use Rattle.std.proofs.lemmas.List.{length-replicate}
use Rattle.std.proofs.lemmas.Nat.Gcd.{IsGcd-from_zero, IsGcd-swap}
use Rattle.std.proofs.lemmas.Slice.Eq.{bytes_eq-Decides}
use Rattle.pv_expr.specs.declared.constraint.Relation.TheVariants.{Eq}
use Rattle.pv_grammar.specs.declared.counts.Counts.{Counts}
use Rattle.pv_grammar.specs.declared.counts.Phase.{Phase}
use Rattle.pv_grammar.specs.declared.counts.Phase.TheVariants.{Constants, FunctionName, Parameters, Body, Variables}
use Rattle.pv_grammar.specs.declared.symbol.Fixed.{Fixed}
use Rattle.pv_grammar.specs.declared.symbol.Fixed.TheVariants.{Open as OpenMark, Close as CloseMark, OpenBracket as OpenBracketMark, CloseBracket as CloseBracketMark, Comma as CommaMark, Variables as VariablesWord, Constraints as ConstraintsWord, Return as ReturnWord, End as EndWord}
use Rattle.pv_grammar.specs.declared.symbol.Symbol.{Symbol}
use Rattle.pv_grammar.specs.declared.symbol.Symbol.TheVariants.{Fixed as FixedToken, Relation as RelationToken, Number, Declared}
use Rattle.pv_grammar.specs.Counting.{counted, standing_of}
use Rattle.pv_grammar.specs.Standings.{Standing, moved_to}
use Rattle.pv_tokens.specs.declared.numeral.Parts.{Parts}
use Rattle.pv_tokens.specs.declared.token.Kind.{Kind}
use Rattle.pv_tokens.specs.declared.token.Kind.TheVariants.{Name, Number as NumberKind, End}
use Rattle.pv_tokens.specs.Numbers.{IsRead}
use Rattle.pv_tokens.specs.Tokens.{IsLetter, IsNumber, IsWord, mark}
use Rattle.pv_tokens.proofs.Exists.{Opens}
use Rattle.pv_tokens.specs.Tokens.IsWord.{name, number, single}
use Rattle.pv_parse.specs.declared.names.Meaning.{Meaning}
use Rattle.pv_parse.specs.declared.names.Meaning.TheVariants.{Variable as VariableMeaning}
use Rattle.pv_parse.specs.ByItems.{AreBounded, AreWithin}
use Rattle.pv_parse.specs.Meanings.{KnowsVariables, Names, no_names, numbered, is_taken, learnt, told, with_known}
use Rattle.pv_parse.specs.Sentences.{StandsFor}

-- ---- Names stay bounded

other_name : (x y : List ℕ) → length x < length y → bytes_eq x y ≡ false
other_name x y h =
    ⊎_elim
    (λ yes. absurd (let same : length x ≡ length y = ap length ((bytes_eq-Decides x y).0 yes) in omega arith))
    (λ no_match. no_match)
    (cases_Bool (bytes_eq x y))

module _ (n : Names) (most wide : ℕ) (on : most ≤ wide) (b : AreWithin n most) where
  wider : AreWithin n wide
  wider = record { known = λ y l. b.known y (omega arith); parameter = λ y l. b.parameter y (omega arith); pending = omega (arith, b.pending) }

  known_within : (x : List ℕ) (a : Meaning) → length x ≤ wide → AreWithin (with_known x a n) wide
  known_within x a k = record {
    known = λ y l. cond-false (bytes_eq x y) (Some a) (n.known y) (other_name x y (omega arith)) ∙ b.known y (omega arith);
    parameter = wider.parameter;
    pending = wider.pending;
  }

  told_within : (p : Phase) (y : Standing) (s : Symbol) (x : List ℕ) → length x ≤ wide → AreWithin (told (moved_to p y) s x n) wide
  told_within Constants y (Declared taken) x k = record { known = wider.known; parameter = wider.parameter; pending = k }
  told_within FunctionName y (Declared taken) x k = record { known = wider.known; parameter = wider.parameter; pending = k }
  told_within Parameters y (Declared taken) x k = record {
    known = wider.known;
    parameter = λ z l. cond-false (bytes_eq x z) (Some y.parameters) (n.parameter z) (other_name x z (omega arith)) ∙ b.parameter z (omega arith);
    pending = wider.pending;
  }
  told_within Variables y (Declared taken) x k = known_within x (VariableMeaning y.variables) k
  told_within Constants y (Number value exponent) x k = known_within n.pending _ wider.pending
  told_within Body y (FixedToken EndWord) x k = let h = known_within n.pending _ wider.pending in record { known = h.known; parameter = λ z l. refl; pending = h.pending }
  told_within p y (FixedToken EndWord) x k = wider
  told_within p y s x k = wider

pub learnt_bounded : (c : Counts) (s : Symbol) (x : List ℕ) (n : Names) → AreBounded n → AreBounded (learnt (standing_of c) s x n)
learnt_bounded c s x n (most, b) =
    let h = told_within n most (most + length x) (omega arith) b c.phase (standing_of c) s x (omega arith) in
    (most + length x, record { known = h.known; parameter = h.parameter; pending = h.pending })

-- where a text begins
pub none_bounded : (n : Names) → n ≡ no_names → AreBounded n
none_bounded n e = rw e (0, record { known = λ name l. refl; parameter = λ name l. refl; pending = omega arith })

numbered_bounded : (vs : List (List ℕ)) (i : ℕ) → (most : ℕ) × ((x : List ℕ) → most < length x → numbered vs i x ≡ None)
numbered_bounded [] i = (0, λ x l. refl)
numbered_bounded (v ∷ vs) i =
    let (most, h) = numbered_bounded vs (i + 1) in
    (most + length v, λ x l. cond-false (bytes_eq v x) (Some (VariableMeaning i)) (numbered vs (i + 1) x) (other_name v x (omega arith)) ∙ h x (omega arith))

pub known_bounded : (variables : List (List ℕ)) (n : Names) → KnowsVariables variables n → AreBounded n
known_bounded variables n h =
    let (most, b) = numbered_bounded variables 0 in
    let none : length n.pending ≡ 0 = ap length h.pending in
    (most, record { known = λ x l. h.known x ∙ b x l; parameter = λ x l. h.parameter x; pending = omega (arith, none) })

-- ---- A fresh name

abbrev pub fresh : ℕ → List ℕ
fresh most = 95 ∷ replicate most 95

pub fresh_wide : (most : ℕ) → most < length (fresh most)
fresh_wide most = let e : length {A = ℕ} (replicate most 95) ≡ most = length-replicate most 95 in omega (arith, e)

-- the letters of a name
abbrev letter : ℕ → Bool
letter b = (leb 65 b && leb b 90) || ((leb 97 b && leb b 122) || eqb b 95)

abbrev letters : List ℕ → Bool
letters [] = true
letters (b ∷ bs) = letter b && letters bs

letter_is : (b : ℕ) → Decides (letter b) (IsLetter b)
letter_is b = (λ h. grind (arith, nat_tests), λ h. grind (arith, nat_tests))

letter_at : (t : List ℕ) → letters t ≡ true → (k : ℕ) → k < length t → IsLetter (get_or t k 0)
letter_at t h k l = (Decides-by_and letter IsLetter letters letter_is refl (λ _ _. refl) t).0 h k 0 l

-- the bytes stand at a place
pub record Placed (w : List ℕ) (i : ℕ) (p : List ℕ) : Type 0 where
  pub each : (k : ℕ) → k < length p → get_or w (i + k) 0 ≡ get_or p k 0
  pub within : i + length p ≤ length w

-- a token apart from a text
pub record Piece : Type 0 where
  pub kind : Kind
  pub bytes : List ℕ

-- wherever the bytes stand they are a word of the kind, and no blank or comment begins there
pub record IsPiece (x : Piece) : Type 0 where
  pub some : 0 < length x.bytes
  pub inner : ¬ (x.kind ≡ End)
  pub word : (w : List ℕ) (i : ℕ) → Placed w i x.bytes → IsWord w i x.kind (i + length x.bytes)
  pub begins : (c : ℕ) → ¬ Opens (get_or x.bytes 0 0) c

abbrev pub named : List ℕ → Piece
named t = record { kind = Name; bytes = t }

pub name_piece : (t : List ℕ) → letters t ≡ true → 0 < length t → IsPiece (named t)
name_piece t h some =
    let first : IsLetter (get_or t 0 0) = letter_at t h 0 some in
    record {
      some = some;
      inner = λ e. grind arith;
      word = λ w i p.
          let each : (k : ℕ) → i ≤ k → k < i + length t → IsLetter (get_or w k 0) = λ k after before. grind (arith, p.each (k - i), letter_at t h (k - i)) in
          name refl (record { letter = each i (omega arith) (omega arith); others = record { ordered = omega arith; within = p.within; each = λ k after before. inl (each k (omega arith) before) } });
      begins = λ c o. grind arith;
    }

underscores : (n : ℕ) → letters (replicate n 95) ≡ true
underscores zero = refl
underscores (suc n) = underscores n

pub fresh_piece : (most : ℕ) → IsPiece (named (fresh most))
fresh_piece most = name_piece (fresh most) (underscores most) (omega arith)

-- a fresh name can be declared
pub fresh_known : (n : Names) (most : ℕ) → AreWithin n most → Declared false ≡ Declared (is_some (n.known (fresh most)))
fresh_known n most b = ap (λ (o : Option Meaning). Declared (is_some o)) (sym (b.known (fresh most) (fresh_wide most)))

pub fresh_taken : (n : Names) (most : ℕ) → AreWithin n most → Declared false ≡ Declared (is_taken n (fresh most))
fresh_taken n most b =
    let wide : most < length (fresh most) = fresh_wide most in
    let apart : bytes_eq n.pending (fresh most) ≡ false = other_name n.pending (fresh most) (omega (arith, b.pending)) in
    rw (b.known (fresh most) wide, apart, b.parameter (fresh most) wide)

-- ---- Words, marks and the number 0

-- a byte that is a token of its own wherever it stands
abbrev pub StandsAlone : ℕ → Type 0
StandsAlone b = ((40 ≤ b) × (b ≤ 46)) ⊎ ((b ≡ 59) ⊎ ((b ≡ 61) ⊎ ((91 ≤ b) × (b ≤ 94))))

pub mark_piece : (b : ℕ) → StandsAlone b → IsPiece (record { kind = mark b; bytes = b ∷ [] })
mark_piece b alone = record {
  some = omega arith;
  inner = λ e. grind arith;
  word = λ w i p.
      let e : get_or w i 0 ≡ b = grind (arith, p.each 0) in
      single (ap mark (sym e)) (record { inside = omega (arith, p.within); no_letter = λ l. grind arith; no_digit = λ d. grind arith }) refl;
  begins = λ c o. grind arith;
}

abbrev zero_at : ℕ → Parts
zero_at i = record { point = i + 1; tail = i + 1; negative = false; power = i + 1; end = i + 1 }

zero_placed : (w : List ℕ) (i : ℕ) → i < length w → get_or w i 0 ≡ 48 → IsNumber w i (zero_at i)
zero_placed w i l e = record {
  some = omega arith;
  whole = record { ordered = omega arith; within = omega arith; each = λ k after before. (grind arith, grind arith) };
  fraction = inl refl;
  exponent = inl (record { negative = refl; power = refl; end = refl });
}

zero_read : IsRead (48 ∷ []) (pos 0, 1)
zero_read = record {
  decimal = record { digits = 0; up = 0; down = 0 };
  numeral = record { parts = zero_at 0; number = zero_placed (48 ∷ []) 0 (omega arith) refl; whole = refl; decimal = refl };
  narrow = λ h. grind arith;
  value = record { above = 0; numerator = refl; same_value = refl; not_zero = omega arith; no_common_factor = IsGcd-swap 1 0 1 (IsGcd-from_zero 1 0 refl) };
}

-- a token that stands for one symbol everywhere
pub record Plain (s : Symbol) : Type 0 where
  pub piece : Piece
  pub is_piece : IsPiece piece
  pub stands : (p : Phase) (n : Names) → StandsFor p n piece.bytes piece.kind s

pub zero_token : Plain (Number (record { p = pos 0; q = 1 }) (Some 0))
zero_token = record {
  piece = record { kind = NumberKind; bytes = 48 ∷ [] };
  is_piece = record {
    some = omega arith;
    inner = λ e. grind arith;
    word = λ w i p. number refl (zero_at i) (zero_placed w i (omega (arith, p.within)) (grind (arith, p.each 0))) refl;
    begins = λ c o. grind arith;
  };
  stands = λ p n. (zero_read, record { digits = λ k l. (grind arith, grind arith); value = refl; most = omega arith });
}

mark_token : (s : Symbol) (b : ℕ) → StandsAlone b → ((p : Phase) (n : Names) → StandsFor p n (b ∷ []) (mark b) s) → Plain s
mark_token s b alone stands = record { piece = record { kind = mark b; bytes = b ∷ [] }; is_piece = mark_piece b alone; stands = stands }

pub equal_token : Plain (RelationToken Eq)
equal_token = mark_token (RelationToken Eq) 61 (grind arith) (λ p n. refl)

word_token : (f : Fixed) (t : List ℕ) → letters t ≡ true → 0 < length t → ((p : Phase) (n : Names) → StandsFor p n t Name (FixedToken f)) → Plain (FixedToken f)
word_token f t h some stands = record { piece = named t; is_piece = name_piece t h some; stands = stands }

-- the marks and words of a closing
abbrev pub Closes : Fixed → Type 0
Closes OpenMark = Unit {0}
Closes CloseMark = Unit {0}
Closes CommaMark = Unit {0}
Closes OpenBracketMark = Unit {0}
Closes CloseBracketMark = Unit {0}
Closes ReturnWord = Unit {0}
Closes VariablesWord = Unit {0}
Closes ConstraintsWord = Unit {0}
Closes EndWord = Unit {0}
Closes f = ⊥

pub fixed_token : (f : Fixed) → Closes f → Plain (FixedToken f)
fixed_token OpenMark h = mark_token (FixedToken OpenMark) 40 (grind arith) (λ p n. refl)
fixed_token CloseMark h = mark_token (FixedToken CloseMark) 41 (grind arith) (λ p n. refl)
fixed_token CommaMark h = mark_token (FixedToken CommaMark) 44 (grind arith) (λ p n. refl)
fixed_token OpenBracketMark h = mark_token (FixedToken OpenBracketMark) 91 (grind arith) (λ p n. refl)
fixed_token CloseBracketMark h = mark_token (FixedToken CloseBracketMark) 93 (grind arith) (λ p n. refl)
fixed_token ReturnWord h = word_token ReturnWord (codes "return") refl (omega arith) (λ p n. refl)
fixed_token VariablesWord h = word_token VariablesWord (codes "variables") refl (omega arith) (λ p n. refl)
fixed_token ConstraintsWord h = word_token ConstraintsWord (codes "constraints") refl (omega arith) (λ p n. refl)
fixed_token EndWord h = word_token EndWord (codes "end") refl (omega arith) (λ p n. refl)
fixed_token f h = absurd h

-- the tokens are these for the grammar, where the names and the counts begin as given
abbrev pub Mean : Names → Counts → List Piece → List Symbol → Type 0
Mean n c [] [] = Unit {0}
Mean n c (x ∷ xs) (s ∷ ss) = (d : Counts) × IsPiece x × StandsFor c.phase n x.bytes x.kind s × (counted c s ≡ Ok d) × Mean (learnt (standing_of c) s x.bytes n) d xs ss
Mean n c xs ss = ⊥
