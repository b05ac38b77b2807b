-- A text has one next token at each place, and one list of tokens.
use Rattle.std.proofs.Common.{◌≡◌, ℕ, zero, suc, List, [], ◌∷◌, sym, ◌∙◌, ap, subst, arith, ⊎_elim}
use Rattle.std.proofs.lemmas.List.{get_or_past}
use Rattle.pv_tokens.specs.declared.token.Kind.{Kind}
use Rattle.pv_tokens.specs.declared.token.Token.{Token}
use Rattle.pv_tokens.specs.Tokens.{AreTokensFrom, IsLongest, IsNext, IsWord, Separated, Separates}

one_separator : (t : List ℕ) (i j k : ℕ) → Separates t i j → Separates t i k → j ≡ k
one_separator t i j k one other = grind arith

one_gap : (t : List ℕ) (n m i j k : ℕ) → Separated t n i j → ((e : ℕ) → ¬ Separates t j e) → Separated t m i k → ((e : ℕ) → ¬ Separates t k e) → j ≡ k
one_gap t zero zero i j k one one_stops other other_stops = sym one ∙ other
one_gap t zero (suc m) i j k one one_stops (e, first, rest) other_stops = absurd (one_stops e (subst (λ a. Separates t a e) one first))
one_gap t (suc n) zero i j k (e, first, rest) one_stops other other_stops = absurd (other_stops e (subst (λ a. Separates t a e) other first))
one_gap t (suc n) (suc m) i j k (e, first, rest) one_stops (d, second, tail) other_stops =
    one_gap t n m e j k rest one_stops (subst (λ a. Separated t m a k) (one_separator t i d e second first) tail) other_stops

-- a word is of one kind
one_kind : (t : List ℕ) (i : ℕ) (kind other : Kind) (j : ℕ) → IsWord t i kind j → IsWord t i other j → kind ≡ other
one_kind t i kind other j one two = grind (arith, get_or_past)

-- the next token at a place is one
pub one_next : (t : List ℕ) (from : ℕ) (x y : Token) → IsNext t from x → IsNext t from y → x ≡ y
one_next t from x y of_x of_y =
    let starts : x.start ≡ y.start = one_gap t of_x.separators of_y.separators from x.start y.start of_x.gap of_x.begins of_y.gap of_y.begins in
    let second : IsLongest t x.start y.kind y.end = subst (λ i. IsLongest t i y.kind y.end) (sym starts) of_y.longest in
    let ends : x.end ≡ y.end = omega (arith, of_x.longest.longest y.kind y.end second.word, second.longest x.kind x.end of_x.longest.word) in
    let kinds : x.kind ≡ y.kind = one_kind t x.start x.kind y.kind y.end (subst (IsWord t x.start x.kind) ends of_x.longest.word) second.word in
    λ i. record { kind = kinds i; start = starts i; end = ends i }

-- the list of tokens from a place is one
pub one_list : (t : List ℕ) (from : ℕ) (xs ys : List Token) → AreTokensFrom t from xs → AreTokensFrom t from ys → xs ≡ ys
one_list t from [] ys none other = absurd none
one_list t from (x ∷ xs) [] (next, rest) none = absurd none
one_list t from (x ∷ xs) (y ∷ ys) (next, rest) (other, tail) =
    let same : x ≡ y = one_next t from x y next other in
    let tails : xs ≡ ys =
    ⊎_elim
    (λ (is_end, none). ⊎_elim (λ (_, also). none ∙ sym also) (λ (more, _). absurd (more (sym (ap (λ a. a.kind) same) ∙ is_end))) tail)
    (λ (more, after).
    ⊎_elim
    (λ (is_end, _). absurd (more (ap (λ a. a.kind) same ∙ is_end)))
    (λ (_, also). one_list t x.end xs ys after (subst (λ e. AreTokensFrom t e ys) (sym (ap (λ a. a.end) same)) also))
    tail)
    rest in
    λ i. same i ∷ tails i
