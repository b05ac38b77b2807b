-- A text that is cut behind a token has the same tokens up to there, where it goes on with those of a closing, each behind a blank.
use Rattle.std.proofs.Common.{◌≡◌, ℕ, zero, suc, ◌+◌, ◌-◌, ◌<◌, ◌≤◌, inl, inr, List, [], ◌∷◌, ◌++◌, length, get_or, take, length-append, refl, sym, ap, ◌∙◌, subst, arith, ⊎_elim}
use Rattle.std.proofs.lemmas.List.{ext_get_or, get_or_append_left, get_or-append-add, get_or-take, length-take-le}
use Rattle.pv_grammar.specs.declared.counts.Counts.{Counts}
use Rattle.pv_grammar.specs.declared.symbol.Symbol.{Symbol}
use Rattle.pv_grammar.specs.Counting.{standing_of}
use Rattle.pv_grammar.specs.Standings.{Standing, standing_after, standing_behind}
use Rattle.pv_grammar.proofs.Following.{stands_behind}
use Rattle.pv_tokens.specs.declared.numeral.Parts.{Parts}
use Rattle.pv_tokens.specs.declared.token.Kind.{Kind}
use Rattle.pv_tokens.specs.declared.token.Kind.TheVariants.{End}
use Rattle.pv_tokens.specs.declared.token.Token.{Token}
use Rattle.pv_tokens.specs.Tokens.{IsBlank, IsDigit, IsExponent, IsLetter, IsLongest, IsNamed, IsNext, IsNumber, IsWord, Run, Separated, Separates, mark}
use Rattle.pv_tokens.specs.Tokens.Separates.{blank, line, closed, unclosed}
use Rattle.pv_tokens.specs.Tokens.IsWord.{name, number, less_equal, greater_equal, single, finish}
use Rattle.pv_tokens.proofs.Exists.{Opens, next_on, next_takes, next_within, opens, separated_on, separates_on, separator_from, word_within}
use Rattle.pv_tokens.proofs.Numerals.{exponent_longer, exponent_on, fraction_on}
use Rattle.pv_tokens.proofs.Slices.{byte_in, length_slice}
use Rattle.pv_parse.specs.Meanings.{Names, learnt}
use Rattle.pv_parse.specs.Sentences.{Spells, SpellsTo, bytes_of}
use Rattle.pv_parse.proofs.Pieces.{IsPiece, Mean, Piece, Placed}

-- two texts share their first bytes
record Shares (t u : List ℕ) (f : ℕ) : Type 0 where
  pub same : (k : ℕ) → k < f → get_or t k 0 ≡ get_or u k 0
  pub inside : f ≤ length t
  pub other : f ≤ length u

turned : (t u : List ℕ) (f : ℕ) → Shares t u f → Shares u t f
turned t u f h = record { same = λ k l. sym (h.same k l); inside = h.other; other = h.inside }

-- a blank, or what a text reads as behind its end
abbrev IsGap : ℕ → Type 0
IsGap b = b ≤ 32

-- ---- Words, blanks and comments

module _ (t u : List ℕ) (f : ℕ) (h : Shares t u f) where
  run_shared : (P : ℕ → Type 0) (i j : ℕ) → j ≤ f → Run P t i j → Run P u i j
  run_shared P i j l r = record { ordered = r.ordered; within = omega (arith, h.other); each = λ k a b. subst P (h.same k (omega arith)) (r.each k a b) }

  exponent_shared : (p : Parts) → p.end ≤ f → IsExponent t p → IsExponent u p
  exponent_shared p l e = record {
    letter = grind (arith, h.same p.tail, exponent_longer t p e);
    sign = grind (arith, h.same (p.tail + 1));
    digits = run_shared IsDigit p.power p.end l e.digits;
    some = e.some;
  }

  number_shared : (i : ℕ) (p : Parts) → p.end ≤ f → IsNumber t i p → IsNumber u i p
  number_shared i p l n =
      let on : (p.point ≤ p.tail) × (p.tail ≤ p.end) = (fraction_on t p.point p.tail n.fraction, exponent_on t p n.exponent) in
      record {
        some = n.some;
        whole = run_shared IsDigit i p.point (omega arith) n.whole;
        fraction = ⊎_elim (λ e. inl e) (λ (point, run). inr (grind (arith, h.same p.point), run_shared IsDigit (p.point + 1) p.tail (omega arith) run)) n.fraction;
        exponent = ⊎_elim (λ e. inl e) (λ e. inr (exponent_shared p l e)) n.exponent;
      }

  word_shared : (i : ℕ) (kind : Kind) (j : ℕ) → i < f → j ≤ f → IsWord t i kind j → IsWord u i kind j
  word_shared i kind j l k w =
      elim w [
        | name is n ↦ name is (record { letter = subst IsLetter (h.same i l) n.letter; others = run_shared IsNamed (i + 1) j k n.others })
        | number is p n ends ↦ number is p (number_shared i p (omega arith) n) ends
        | less_equal is first second ends ↦ less_equal is (grind (arith, h.same i)) (grind (arith, h.same (i + 1))) ends
        | greater_equal is first second ends ↦ greater_equal is (grind (arith, h.same i)) (grind (arith, h.same (i + 1))) ends
        | single is m ends ↦
            single (is ∙ ap mark (h.same i l)) (record { inside = omega (arith, h.other); no_letter = λ a. grind (arith, h.same i, m.no_letter); no_digit = λ a. grind (arith, h.same i, m.no_digit) }) ends
        | finish is at ends ↦ absurd (omega (arith, h.inside))
      ]

  separates_shared : (i j : ℕ) → j < f → Separates t i j → Separates u i j
  separates_shared i j l s =
      elim s [
        | blank is ends ↦ blank (subst IsBlank (h.same i (omega arith)) is) ends
        | line c ↦
            line (record {
              first = grind (arith, h.same i);
              second = grind (arith, h.same (i + 1));
              after = c.after;
              within = omega (arith, h.other);
              one_line = λ k a b e. c.one_line k a b (h.same k (omega arith) ∙ e);
              ends = grind (arith, h.same j, h.inside);
            })
        | closed c ↦
            closed (record {
              close = c.close;
              first = grind (arith, h.same i);
              second = grind (arith, h.same (i + 1));
              after = c.after;
              closes = grind (arith, h.same c.close, h.same (c.close + 1));
              next = λ k a b e. c.next k a b (grind (arith, h.same k, h.same (k + 1)));
              ends = c.ends;
            })
        | unclosed c ↦ absurd (omega (arith, c.ends, h.inside))
      ]

  separated_shared : (n i j : ℕ) → j < f → Separated t n i j → Separated u n i j
  separated_shared zero i j l s = s
  separated_shared (suc n) i j l (k, first, rest) =
      let on : k ≤ j = separated_on t n k j rest in
      (k, separates_shared i k (omega arith) first, separated_shared n k j l rest)

-- no word goes over a gap
stops_at : (u : List ℕ) (i f : ℕ) (kind : Kind) (k : ℕ) → i < f → IsGap (get_or u f 0) → IsWord u i kind k → k ≤ f
stops_at u i f kind k l g w = grind arith

-- ---- Tokens

-- tokens go on, within the text
spells_on : (t : List ℕ) (n : Names) (y : Standing) (from : ℕ) (ss : List Symbol) (to : ℕ) (m : Names) → from ≤ length t → SpellsTo t n y from ss to m → (from ≤ to) × (to ≤ length t)
spells_on t n y from [] to m l h = (omega (arith, h.0), omega (arith, h.0))
spells_on t n y from (s ∷ ss) to m l (x, next, inner, stands, rest) =
    let (on, inside) = spells_on t (learnt y s (bytes_of t x) n) (standing_behind y s) x.end ss to m (next_within t from x next) rest in
    (omega (arith, next_on t from x next, next_takes t from x inner next, on), inside)

module _ (t u : List ℕ) (f : ℕ) (h : Shares t u f) (g : IsGap (get_or u f 0)) where
  longest_shared : (i : ℕ) (kind : Kind) (j : ℕ) → i < f → j ≤ f → IsLongest t i kind j → IsLongest u i kind j
  longest_shared i kind j l k w = record {
    word = word_shared t u f h i kind j l k w.word;
    longest = λ other e v. w.longest other e (word_shared u t f (turned t u f h) i other e l (stops_at u i f other e l g v) v);
  }

  begins_shared : (s : ℕ) → s < f → ((k : ℕ) → ¬ Separates t s k) → (k : ℕ) → ¬ Separates u s k
  begins_shared s l none k c =
      let open_there : Opens (get_or u s 0) (get_or u (s + 1) 0) = opens u s k c in
      let (e, o) = separator_from t s (grind (arith, h.same s, h.same (s + 1))) in
      none e o

  next_shared : (from : ℕ) (x : Token) → x.end ≤ f → ¬ (x.kind ≡ End) → IsNext t from x → IsNext u from x
  next_shared from x l inner next =
      let on : x.start < x.end = next_takes t from x inner next in
      record {
        separators = next.separators;
        gap = separated_shared t u f h next.separators from x.start (omega arith) next.gap;
        begins = begins_shared x.start (omega arith) next.begins;
        longest = longest_shared x.start x.kind x.end (omega arith) l next.longest;
      }

  bytes_shared : (x : Token) → x.end ≤ f → bytes_of t x ≡ bytes_of u x
  bytes_shared x l =
      let t_long : length (bytes_of t x) ≡ x.end - x.start = length_slice t x.start x.end (omega (arith, h.inside)) in
      let u_long : length (bytes_of u x) ≡ x.end - x.start = length_slice u x.start x.end (omega (arith, h.other)) in
      ext_get_or 0 (bytes_of t x) (bytes_of u x) (t_long ∙ sym u_long)
      (λ i b. byte_in t x.start x.end (x.start + i) i refl (omega arith) ∙ (h.same (x.start + i) (omega arith) ∙ sym (byte_in u x.start x.end (x.start + i) i refl (omega arith))))

  spells_shared : (n : Names) (y : Standing) (from : ℕ) (ss : List Symbol) (to : ℕ) (m : Names) → to ≤ f → SpellsTo t n y from ss to m → SpellsTo u n y from ss to m
  spells_shared n y from [] to m l s = s
  spells_shared n y from (s ∷ ss) to m l (x, next, inner, stands, rest) =
      let (below, inside) = spells_on t (learnt y s (bytes_of t x) n) (standing_behind y s) x.end ss to m (next_within t from x next) rest in
      let bytes : bytes_of t x ≡ bytes_of u x = bytes_shared x (omega arith) in
      let more = spells_shared (learnt y s (bytes_of t x) n) (standing_behind y s) x.end ss to m l rest in
      (x, next_shared from x (omega arith) inner next, inner, rw bytes at stands, rw bytes at more)

pub spells_all : (t : List ℕ) (n : Names) (y : Standing) (from : ℕ) (xs : List Symbol) (mid : ℕ) (k : Names) (ys : List Symbol) (to : ℕ) (m : Names) → SpellsTo t n y from xs mid k →
    SpellsTo t k (standing_after y xs) mid ys to m → SpellsTo t n y from (xs ++ ys) to m
spells_all t n y from [] mid k ys to m h more = rw (h.0, h.1) more
spells_all t n y from (s ∷ xs) mid k ys to m (x, next, inner, stands, rest) more =
    (x, next, inner, stands, spells_all t (learnt y s (bytes_of t x) n) (standing_behind y s) x.end xs mid k ys to m rest more)

-- the end of a text is its next token there
pub next_end : (t : List ℕ) → IsNext t (length t) (record { kind = End; start = length t; end = length t })
next_end t = record {
  separators = 0;
  gap = refl;
  begins = λ k s. omega (arith, (separates_on t (length t) k s).0, (separates_on t (length t) k s).1);
  longest = record { word = finish refl refl refl; longest = λ other k w. word_within t (length t) other k w };
}

-- ---- The text of a closing

abbrev pub text_of : List Piece → List ℕ
text_of [] = []
text_of (x ∷ xs) = 32 ∷ (x.bytes ++ text_of xs)

-- from a place on a text is these bytes
record Ends (w : List ℕ) (at : ℕ) (p : List ℕ) : Type 0 where
  each : (k : ℕ) → get_or w (at + k) 0 ≡ get_or p k 0
  long : at + length p ≡ length w

module _ (w : List ℕ) (at : ℕ) (first rest : List ℕ) (h : Ends w at (first ++ rest)) where
  placed : Placed w at first
  placed = record { each = λ k l. h.each k ∙ get_or_append_left first rest 0 k l; within = omega (arith, h.long, length-append first rest) }

  ends_behind : Ends w (at + length first) rest
  ends_behind = record {
    each = λ k. let e : at + length first + k ≡ at + (length first + k) = omega arith in
        ap (λ i. get_or w i 0) e ∙ h.each (length first + k) ∙ get_or-append-add first rest k 0;
    long = omega (arith, h.long, length-append first rest);
  }

-- behind each token is a blank or the end
gap_at : (w : List ℕ) (at : ℕ) (xs : List Piece) → Ends w at (text_of xs) → IsGap (get_or w at 0)
gap_at w at [] h = grind (arith, h.each 0)
gap_at w at (x ∷ xs) h = grind (arith, h.each 0)

-- the token that the bytes behind a blank are
abbrev token_at : ℕ → Piece → Token
token_at at x = record { kind = x.kind; start = at + 1; end = at + 1 + length x.bytes }

module _ (w : List ℕ) (at : ℕ) (x : Piece) (blank_there : IsBlank (get_or w at 0)) (there : Placed w (at + 1) x.bytes) where
  next_piece : IsPiece x → IsGap (get_or w (at + 1 + length x.bytes) 0) → IsNext w at (token_at at x)
  next_piece is g =
      let first : get_or w (at + 1) 0 ≡ get_or x.bytes 0 0 = grind (arith, there.each 0, is.some) in
      record {
        separators = 1;
        gap = (at + 1, blank blank_there refl, refl);
        begins = λ k s. is.begins (get_or w (at + 1 + 1) 0) (subst (λ b. Opens b (get_or w (at + 1 + 1) 0)) first (opens w (at + 1) k s));
        longest = record {
          word = is.word w (at + 1) there;
          longest = λ other k v. stops_at w (at + 1) (at + 1 + length x.bytes) other k (omega (arith, is.some)) g v;
        };
      }

  bytes_there : x.bytes ≡ bytes_of w (token_at at x)
  bytes_there =
      ext_get_or 0 x.bytes (bytes_of w (token_at at x)) (omega (arith, length_slice w (at + 1) (at + 1 + length x.bytes) there.within))
      (λ i l. sym (byte_in w (at + 1) (at + 1 + length x.bytes) (at + 1 + i) i refl (omega arith) ∙ there.each i l))

-- the names that are known at the end, and the tokens up to there
spells_tail : (xs : List Piece) (ss : List Symbol) (w : List ℕ) (at : ℕ) (n : Names) (c : Counts) → Ends w at (text_of xs) → Mean n c xs ss → (m : Names) × SpellsTo w n (standing_of c) at ss (length w) m
spells_tail [] [] w at n c h means = (n, (omega (arith, h.long), refl))
spells_tail [] (s ∷ ss) w at n c h means = absurd means
spells_tail (x ∷ xs) [] w at n c h means = absurd means
spells_tail (x ∷ xs) (s ∷ ss) w at n c h (d, is, stands, one, rest) =
    let from_name : Ends w (at + 1) (x.bytes ++ text_of xs) = ends_behind w at (32 ∷ []) (x.bytes ++ text_of xs) h in
    let there : Placed w (at + 1) x.bytes = placed w (at + 1) x.bytes (text_of xs) from_name in
    let behind : Ends w (at + 1 + length x.bytes) (text_of xs) = ends_behind w (at + 1) x.bytes (text_of xs) from_name in
    let blank_there : IsBlank (get_or w at 0) = inl (grind (arith, h.each 0)) in
    let bytes = bytes_there w at x blank_there there in
    let (m, more) = spells_tail xs ss w (at + 1 + length x.bytes) (learnt (standing_of c) s x.bytes n) d behind rest in
    let more' = subst (λ (z : List ℕ). SpellsTo w (learnt (standing_of c) s z n) (standing_of d) (at + 1 + length x.bytes) ss (length w) m) bytes more in (
      m,
      (
        token_at at x,
        next_piece w at x blank_there there is (gap_at w (at + 1 + length x.bytes) xs behind),
        is.inner,
        rw bytes at stands,
        subst (λ (z : Standing). SpellsTo w (learnt (standing_of c) s (bytes_of w (token_at at x)) n) z (at + 1 + length x.bytes) ss (length w) m) (stands_behind c d s one) more',
      ),
    )

-- a text up to a place, and other bytes behind
shares : (t v : List ℕ) (f : ℕ) → f ≤ length t → Shares t (take f t ++ v) f
shares t v f l =
    let cut : length (take f t) ≡ f = length-take-le f t l in
    let whole : length (take f t ++ v) ≡ length (take f t) + length v = length-append (take f t) v in
    record {
      same = λ k b. sym (get_or_append_left (take f t) v 0 k (omega (arith, cut)) ∙ get_or-take f t k 0 b);
      inside = l;
      other = omega (arith, cut, whole);
    }

-- the tokens of a text up to a place, and those of a closing, are the tokens of a text of their own
pub continued : (t : List ℕ) (known names : Names) (y : Standing) (c : Counts) (before ss : List Symbol) (from : ℕ) (xs : List Piece) → SpellsTo t known y 0 before from names →
    standing_of c ≡ standing_after y before → Mean names c xs ss → Spells (take from t ++ text_of xs) known y (before ++ ss)
continued t known names y c before ss from xs spelled there means =
    let inside : from ≤ length t = (spells_on t known y 0 before from names (omega arith) spelled).1 in
    let cut : length (take from t) ≡ from = length-take-le from t inside in
    let w : List ℕ = take from t ++ text_of xs in
    let behind : Ends w from (text_of xs) =
    record { each = λ k. ap (λ i. get_or w (i + k) 0) (sym cut) ∙ get_or-append-add (take from t) (text_of xs) k 0; long = omega (arith, cut, length-append (take from t) (text_of xs)) } in
    let first : SpellsTo w known y 0 before from names = spells_shared t w from (shares t (text_of xs) from inside) (gap_at w from xs behind) known y 0 before from names (omega arith) spelled in
    let (m, last) = spells_tail xs ss w from names c behind means in
    let last' : SpellsTo w names (standing_after y before) from ss (length w) m = subst (λ (z : Standing). SpellsTo w names z from ss (length w) m) there last in
    (length w, m, record { kind = End; start = length w; end = length w }, spells_all w known y 0 before from names ss (length w) m first last', next_end w, refl)
