-- The digits of paths.
use Rattle.std.proofs.Common.{◌≡◌, ◌⊎◌, inl, inr, ℕ, zero, suc, ◌<◌, Bool, true, false, List, [], ◌∷◌, length, refl, ◌∙◌, ap, arith}
use Rattle.std.specs.Prelude.{slice_index_or}
use Rattle.std.proofs.lemmas.List.{length-map}
use Rattle.pv_tree.specs.PathText.{digit}
use Rattle.pv_keep_sql.specs.Digits.{digits_of, NamesNoPath}

-- one is neither 0 nor 1
one_of : (p : List Bool) (i : ℕ) (d : ℕ) → i < length p → (slice_index_or (digits_of p) i d ≡ 48) ⊎ (slice_index_or (digits_of p) i d ≡ 49)
one_of [] i d h = absurd (omega arith)
one_of (false ∷ p) zero d h = inl refl
one_of (true ∷ p) zero d h = inr refl
one_of (b ∷ p) (suc i) d h = one_of p i d (omega arith)

pub other_digit : (digits : List ℕ) (i d : ℕ) → i < length digits → (slice_index_or digits i d ≡ 48 → ⊥) → (slice_index_or digits i d ≡ 49 → ⊥) → NamesNoPath digits
other_digit digits i d h low high p few e =
    let same : length digits ≡ length (digits_of p) = ap length e in
    let steps : length (digits_of p) ≡ length p = length-map p digit in
    let inside : i < length p = omega arith in
    let here : slice_index_or digits i d ≡ slice_index_or (digits_of p) i d = ap (λ (x : List ℕ). slice_index_or x i d) e in
    by here (one_of p i d inside)
  where
    by : slice_index_or digits i d ≡ slice_index_or (digits_of p) i d → (slice_index_or (digits_of p) i d ≡ 48) ⊎ (slice_index_or (digits_of p) i d ≡ 49) → ⊥
    by here (inl a) = low (here ∙ a)
    by here (inr a) = high (here ∙ a)
