-- Which number is the longest one, and that a number has one spelling by parts.
use Rattle.std.proofs.Common.{◌≡◌, ℕ, ◌<◌, ◌≤◌, ◌⊎◌, List, length, get_or, subst, arith, ⊎_elim}
use Rattle.std.proofs.str.Laws.{order}
use Rattle.std.proofs.lemmas.List.{get_or_past}
use Rattle.pv_tokens.specs.declared.numeral.Parts.{Parts}
use Rattle.pv_tokens.specs.Tokens.{IsDigit, IsFraction, IsExponent, NoExponent, IsNumber, Run}

-- a byte that is not 0 stands within the text
pub inside : (t : List ℕ) (i : ℕ) → 0 < get_or t i 0 → i < length t
inside t i some = grind (arith, get_or_past)

-- a fraction is its point's place or goes on behind it
pub fraction_on : (t : List ℕ) (i j : ℕ) → IsFraction t i j → i ≤ j
fraction_on t i j fraction = grind arith

-- an exponent takes a byte at least
pub exponent_longer : (t : List ℕ) (p : Parts) → IsExponent t p → p.tail < p.end
exponent_longer t p some = grind arith

pub exponent_on : (t : List ℕ) (p : Parts) → NoExponent p ⊎ IsExponent t p → p.tail ≤ p.end
exponent_on t p exponent = grind arith

-- a number whose fraction could go on, to a point or a digit, has no exponent
ends_at_tail : (t : List ℕ) (q : Parts) (i j : ℕ) → NoExponent q ⊎ IsExponent t q → IsFraction t i j → i ≤ q.tail → q.tail < j → q.end ≡ q.tail
ends_at_tail t q i j exponent fraction after before = grind arith

-- a number whose whole digits could go on ends with them
ends_at_point : (t : List ℕ) (i : ℕ) (q : Parts) (j : ℕ) → IsNumber t i q → Run IsDigit t i j → q.point < j → q.end ≡ q.point
ends_at_point t i q j is run before = grind arith

-- digits as far as they go, then the longest fraction, then the longest exponent are the longest number
pub longest_number : (t : List ℕ) (i point tail stop : ℕ) → Run IsDigit t i point → ¬ IsDigit (get_or t point 0) → IsFraction t point tail → ((j : ℕ) → IsFraction t point j → j ≤ tail) → tail ≤ stop → ((p : Parts) → p.tail ≡ tail → IsExponent t p → p.end ≤ stop) → (q : Parts) → IsNumber t i q → q.end ≤ stop
longest_number t i point tail stop whole no_more fraction longest_fraction on longest_exponent q number =
    let at_most : q.point ≤ point = grind arith in
    let after : point ≤ tail = fraction_on t point tail fraction in
    ⊎_elim
    (λ before. let ends : q.end ≡ q.point = ends_at_point t i q point number whole before in omega arith)
    (λ reaches.
    let part : IsFraction t point q.tail = subst (λ n. IsFraction t n q.tail) (omega arith) number.fraction in
    let most : q.tail ≤ tail = longest_fraction q.tail part in
    ⊎_elim
    (λ before. let ends : q.end ≡ q.tail = ends_at_tail t q point tail number.exponent fraction (fraction_on t point q.tail part) before in omega arith)
    (λ reaches_tail. ⊎_elim (λ none. omega (arith, none.end)) (λ some. longest_exponent q (omega arith) some) number.exponent)
    (order q.tail tail))
    (order q.point point)

-- a number from one place to another has one set of parts
pub same_parts : (t : List ℕ) (i : ℕ) (p q : Parts) → IsNumber t i p → IsNumber t i q → p.end ≡ q.end → p ≡ q
same_parts t i p q of_p of_q ends =
    let points : p.point ≡ q.point = grind arith in
    let tails : p.tail ≡ q.tail = grind arith in
    let negatives : p.negative ≡ q.negative = grind arith in
    let powers : p.power ≡ q.power = grind arith in
    λ i. record { point = points i; tail = tails i; negative = negatives i; power = powers i; end = ends i }
