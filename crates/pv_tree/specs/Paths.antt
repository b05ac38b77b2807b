-- A path of steps in the bits of words, from the top bit of the first word on.
use Rattle.std.specs.Prelude.{◌≡◌, ℕ, zero, suc, ◌+◌, ◌-◌, ◌*◌, ◌/◌, ◌%◌, ◌^◌, ◌<◌, ◌≤◌, Bool, true, false, nat_eq, List, [], ◌∷◌, ◌++◌, length, slice_index_or}
use Rattle.std.specs.Int.{bit_at}
use Rattle.std.proofs.Common.{arith, refl, sym, ◌∙◌, ap, inl, inr, ◌⊎◌, length-append, pow-suc}
use Rattle.std.proofs.lemmas.List.{get_or_past, get_or_append_left, get_or-append_right}
use Rattle.std.proofs.lemmas.Nat.{div-mul-add, mod-mul-add}
use Rattle.std.proofs.lemmas.Nat.Bits.{bit_at_lowest, bit_at-lt, bit_at_cat_low, bit_at_cat_high, same_from_bits_below}
use Rattle.pv_tree.specs.declared.path.Path.TheInside.{Inside}
use Rattle.pv_tree.specs.declared.path.TheConstants.{MOST_STEPS}

-- the step at a place
abbrev pub step_of : List ℕ → ℕ → Bool
step_of ws i = nat_eq (bit_at (slice_index_or ws (i / 64) 0) (63 - i % 64)) 1

-- the first so many steps
abbrev pub steps_in : List ℕ → ℕ → List Bool
steps_in ws zero = []
steps_in ws (suc n) = steps_in ws n ++ step_of ws n ∷ []

abbrev pub steps_of : Inside → List Bool
steps_of a = steps_in a.words a.len

-- There are four words, whose bits behind the last step are 0.
pub record IsPadded (a : Inside) : Type 0 where
  pub size : length a.words ≡ 4
  pub few : a.len ≤ MOST_STEPS
  pub fits : (k : ℕ) → slice_index_or a.words k 0 < 2 ^ 64
  pub padding : (i : ℕ) → a.len ≤ i → step_of a.words i ≡ false

abbrev pub one_if : Bool → ℕ
one_if false = 0
one_if true = 1

-- the number with these bits
unfoldable pub number_of : (ℕ → Bool) → ℕ → ℕ
number_of f zero = 0
number_of f (suc n) = one_if (f n) * 2 ^ n + number_of f n

-- the word with these steps of a path
abbrev pub word_of : List Bool → ℕ → ℕ
word_of p k = number_of (λ m. slice_index_or p (k * 64 + (63 - m)) false) 64

abbrev pub padded : List Bool → Inside
padded p = record { words = word_of p 0 ∷ word_of p 1 ∷ word_of p 2 ∷ word_of p 3 ∷ []; len = length p }

pub length-steps_in : (ws : List ℕ) (n : ℕ) → length (steps_in ws n) ≡ n
length-steps_in ws zero = refl
length-steps_in ws (suc n) = let e : length (steps_in ws n) ≡ n = length-steps_in ws n in omega (arith, length-append (steps_in ws n) (step_of ws n ∷ []))

pub count-steps_of : (a : Inside) → IsPadded a → length (steps_of a) ≡ a.len
count-steps_of a h = length-steps_in a.words a.len

less_or : (i n : ℕ) → i < suc n → (i < n) ⊎ (i ≡ n)
less_or zero zero h = inr refl
less_or (suc i) zero h = absurd (omega arith)
less_or zero (suc n) h = inl (omega arith)
less_or (suc i) (suc n) h = elim (less_or i n (omega arith)) [ inl l ↦ inl (omega arith) | inr e ↦ inr (ap suc e) ]

pub step_in : (ws : List ℕ) (n i : ℕ) → i < n → slice_index_or (steps_in ws n) i false ≡ step_of ws i
step_in ws zero i h = absurd (omega arith)
step_in ws (suc n) i h =
    let count : length (steps_in ws n) ≡ n = length-steps_in ws n in
    elim (less_or i n h) [
      | inl l ↦ get_or_append_left (steps_in ws n) (step_of ws n ∷ []) false i (omega arith) ∙ step_in ws n i l
      | inr e ↦ get_or-append_right (steps_in ws n) (step_of ws n ∷ []) n i false count (omega arith)
          ∙ ap (λ (k : ℕ). slice_index_or (step_of ws n ∷ []) k false) (let z : i - n ≡ 0 = omega arith in z) ∙ ap (step_of ws) (sym e)
    ]

lower_or : (i n : ℕ) → (i < n) ⊎ (n ≤ i)
lower_or i zero = inr (omega arith)
lower_or zero (suc n) = inl (omega arith)
lower_or (suc i) (suc n) = elim (lower_or i n) [ inl h ↦ inl (omega arith) | inr h ↦ inr (omega arith) ]

pub step_there : (a : Inside) → IsPadded a → (i : ℕ) → slice_index_or (steps_of a) i false ≡ step_of a.words i
step_there a h i = elim (lower_or i a.len) [
  | inl l ↦ step_in a.words a.len i l
  | inr le ↦ let count : length (steps_of a) ≡ a.len = count-steps_of a h in get_or_past (steps_of a) i false (omega arith) ∙ sym (h.padding i le)
]

number_below : (f : ℕ → Bool) (n : ℕ) → number_of f n < 2 ^ n
unfolding number_of
number_below f zero = omega arith
number_below f (suc n) =
    let v : number_of f n < 2 ^ n = number_below f n in
    let e : 2 ^ suc n ≡ 2 ^ n * 2 = pow-suc 2 n in
    one_more (f n) (2 ^ n) (number_of f n) (2 ^ suc n) v e
  where
    one_more : (b : Bool) (p v q : ℕ) → v < p → q ≡ p * 2 → one_if b * p + v < q
    one_more true p v q h e = omega arith
    one_more false p v q h e = omega arith

pub bit_of_number : (f : ℕ → Bool) (n m : ℕ) → m < n → bit_at (number_of f n) m ≡ one_if (f m)
unfolding number_of
bit_of_number f zero m h = absurd (omega arith)
bit_of_number f (suc n) m h = elim (less_or m n h) [
  | inl l ↦ bit_at_cat_low (one_if (f n)) n (number_of f n) m l ∙ bit_of_number f n m l
  | inr e ↦ bit_at_cat_high (one_if (f n)) n (number_of f n) m (number_below f n) (omega arith)
      ∙ ap (bit_at (one_if (f n))) (let z : m - n ≡ 0 = omega arith in z) ∙ bit_at_lowest (one_if (f n)) ∙ one_kept (f n) ∙ ap (λ (k : ℕ). one_if (f k)) (sym e)
]
  where
    one_kept : (b : Bool) → one_if b % 2 ≡ one_if b
    one_kept true = refl
    one_kept false = refl

bit_back : (b : ℕ) → b < 2 → one_if (nat_eq b 1) ≡ b
bit_back zero h = refl
bit_back (suc zero) h = refl
bit_back (suc (suc b)) h = absurd (omega arith)

pub word_back : (a : Inside) → IsPadded a → (k : ℕ) → word_of (steps_of a) k ≡ slice_index_or a.words k 0
word_back a h k =
    same_from_bits_below 64 (word_of (steps_of a) k) (slice_index_or a.words k 0) (number_below (λ m. slice_index_or (steps_of a) (k * 64 + (63 - m)) false) 64) (h.fits k)
    (λ m l. bit_of_number (λ m. slice_index_or (steps_of a) (k * 64 + (63 - m)) false) 64 m l ∙ ap one_if (step_there a h (k * 64 + (63 - m))) ∙ same_bit m l)
  where
    same_bit : (m : ℕ) → m < 64 → one_if (step_of a.words (k * 64 + (63 - m))) ≡ bit_at (slice_index_or a.words k 0) m
    same_bit m l =
        let rest : 63 - m < 64 = omega arith in
        let q : (k * 64 + (63 - m)) / 64 ≡ k = div-mul-add k 64 (63 - m) rest in
        let r : (k * 64 + (63 - m)) % 64 ≡ 63 - m = mod-mul-add k 64 (63 - m) rest in
        let t : 63 - (63 - m) ≡ m = omega arith in
        ap (λ (x : ℕ). one_if (nat_eq (bit_at (slice_index_or a.words x 0) (63 - (k * 64 + (63 - m)) % 64)) 1)) q
        ∙ ap (λ (x : ℕ). one_if (nat_eq (bit_at (slice_index_or a.words k 0) (63 - x)) 1)) r
        ∙ ap (λ (x : ℕ). one_if (nat_eq (bit_at (slice_index_or a.words k 0) x) 1)) t
        ∙ bit_back (bit_at (slice_index_or a.words k 0) m) (bit_at-lt (slice_index_or a.words k 0) m)

four : (ws : List ℕ) → length ws ≡ 4 → slice_index_or ws 0 0 ∷ slice_index_or ws 1 0 ∷ slice_index_or ws 2 0 ∷ slice_index_or ws 3 0 ∷ [] ≡ ws
four [] e = absurd (omega arith)
four (a ∷ []) e = absurd (omega arith)
four (a ∷ b ∷ []) e = absurd (omega arith)
four (a ∷ b ∷ c ∷ []) e = absurd (omega arith)
four (a ∷ b ∷ c ∷ d ∷ []) e = refl
four (a ∷ b ∷ c ∷ d ∷ f ∷ ws) e = absurd (omega arith)

same : (s t : List ℕ) (m n : ℕ) → s ≡ t → m ≡ n → ◌≡◌ {A = Inside} (record { words = s; len = m }) (record { words = t; len = n })
same s t m n p q = λ i. record { words = p i; len = q i }

pub padded-steps_of : (a : Inside) → IsPadded a → padded (steps_of a) ≡ a
padded-steps_of a h =
    same _ _ _ _
    ((λ i. word_back a h 0 i ∷ word_back a h 1 i ∷ word_back a h 2 i ∷ word_back a h 3 i ∷ []) ∙ four a.words h.size)
    (count-steps_of a h)
