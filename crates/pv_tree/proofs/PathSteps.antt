-- A step behind a path that is kept in words.
use Rattle.std.proofs.Common.{◌≡◌, ◌≢◌, ℕ, zero, suc, ◌+◌, ◌-◌, ◌*◌, ◌/◌, ◌%◌, ◌^◌, ◌<◌, ◌≤◌, Bool, true, false, List, [], ◌∷◌, ◌++◌, length, get_or, set, refl, sym, ◌∙◌, ap, arith, inl, inr, add-one, get_or-set_same, get_or-set_other}
use Rattle.std.specs.Prelude.{nat_eq, bit_or}
use Rattle.std.specs.Int.{bit_at, w64}
use Rattle.std.proofs.lemmas.Bool.Decides.{eqb_tells}
use Rattle.std.proofs.lemmas.Nat.{or_lt}
use Rattle.std.proofs.lemmas.Nat.Bits.{bit_at_set_same, bit_at_set_other}
use Rattle.pv_tree.specs.Paths.{step_of, steps_in}

pub low_steps : (ws : List ℕ) (n : ℕ) → step_of ws n ≡ false → steps_in ws (n + 1) ≡ steps_in ws n ++ false ∷ []
low_steps ws n e = rw add-one (ap (λ (b : Bool). steps_in ws n ++ b ∷ []) e)

-- the words with the step at a place set
module _ (ws : List ℕ) (n : ℕ) (size : length ws ≡ 4) (lt : n < 200) where
  abbrev pub with_step : List ℕ
  with_step = set ws (n / 64) (bit_or (get_or ws (n / 64) 0) (1 * 2 ^ (63 - n % 64) % 2 ^ 64))

  there : n / 64 < length ws
  there = omega arith

  word_here : get_or with_step (n / 64) 0 ≡ bit_or (get_or ws (n / 64) 0) (1 * 2 ^ (63 - n % 64) % 2 ^ 64)
  word_here = get_or-set_same ws (n / 64) (bit_or (get_or ws (n / 64) 0) (1 * 2 ^ (63 - n % 64) % 2 ^ 64)) 0 there

  pub step_here : step_of with_step n ≡ true
  step_here =
      let within : 63 - n % 64 < 64 = omega arith in
      ap (λ (x : ℕ). nat_eq (bit_at x (63 - n % 64)) 1) word_here
      ∙ ap (λ (b : ℕ). nat_eq b 1) (bit_at_set_same w64 (get_or ws (n / 64) 0) (63 - n % 64) within)

  pub step_other : (i : ℕ) → i ≢ n → step_of with_step i ≡ step_of ws i
  step_other i ne = elim (eqb_tells (i / 64) (n / 64)) [
    | inl e ↦
        let within : 63 - n % 64 < 64 = omega arith in
        let apart : 63 - i % 64 ≢ 63 - n % 64 = λ s. ne (let w : i / 64 ≡ n / 64 = e.1 in omega arith) in
        ap (λ (k : ℕ). nat_eq (bit_at (get_or with_step k 0) (63 - i % 64)) 1) e.1
        ∙ ap (λ (x : ℕ). nat_eq (bit_at x (63 - i % 64)) 1) word_here
        ∙ ap (λ (b : ℕ). nat_eq b 1) (bit_at_set_other w64 (get_or ws (n / 64) 0) (63 - n % 64) within (63 - i % 64) apart)
        ∙ ap (λ (k : ℕ). nat_eq (bit_at (get_or ws k 0) (63 - i % 64)) 1) (sym e.1)
    | inr e ↦ ap (λ (x : ℕ). nat_eq (bit_at x (63 - i % 64)) 1) (get_or-set_other ws (n / 64) (i / 64) (bit_or (get_or ws (n / 64) 0) (1 * 2 ^ (63 - n % 64) % 2 ^ 64)) 0 e.1)
  ]

  same_steps : (m : ℕ) → m ≤ n → steps_in with_step m ≡ steps_in ws m
  same_steps zero h = refl
  same_steps (suc m) h =
      let ne : m ≢ n = λ e. omega (arith, e) in
      (λ i. same_steps m (omega arith) i ++ step_other m ne i ∷ [])

  pub high_steps : steps_in with_step (n + 1) ≡ steps_in ws n ++ true ∷ []
  high_steps = rw add-one (λ i. same_steps n (omega arith) i ++ step_here i ∷ [])

  pub high_padding : ((i : ℕ) → n ≤ i → step_of ws i ≡ false) → (i : ℕ) → n + 1 ≤ i → step_of with_step i ≡ false
  high_padding h i le = let ne : i ≢ n = λ e. omega (arith, e) in step_other i ne ∙ h i (omega arith)

  pub high_fits : ((k : ℕ) → get_or ws k 0 < 2 ^ 64) → (k : ℕ) → get_or with_step k 0 < 2 ^ 64
  high_fits h k = elim (eqb_tells k (n / 64)) [
    | inl e ↦ let one : 1 * 2 ^ (63 - n % 64) % 2 ^ 64 < 2 ^ 64 = omega arith in
        rw (ap (λ (j : ℕ). get_or with_step j 0) e.1 ∙ word_here) (or_lt 64 (get_or ws (n / 64) 0) (1 * 2 ^ (63 - n % 64) % 2 ^ 64) (h (n / 64)) one)
    | inr e ↦ rw (get_or-set_other ws (n / 64) k (bit_or (get_or ws (n / 64) 0) (1 * 2 ^ (63 - n % 64) % 2 ^ 64)) 0 e.1) (h k)
  ]
