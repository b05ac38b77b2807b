-- The first two lines.
use Rattle.std.proofs.Common.{◌≡◌, ℕ, suc, ◌<◌, true, List, [], ◌∷◌, ◌++◌, subst, arith}
use Rattle.std.specs.Prelude.{codes}
use Rattle.std.specs.List.{AllPass}
use Rattle.hex.specs.Hex.{encode_lower, is_hex_digit}
use Rattle.hex.proofs.HexLemmas.{decode_of-encode_lower, decode_of-ok}
use Rattle.pv_file.specs.declared.version.Version.{Version}
use Rattle.pv_file.specs.declared.version.Version.TheVariants.{One, Two}
use Rattle.pv_file.specs.Texts.{IsDigest, version_text, identity_text}
use Rattle.pv_file.specs.Readings.{IsFree}

abbrev AreOver : List ℕ → Type 0
AreOver [] = Unit {0}
AreOver (c ∷ cs) = (10 < c) × AreOver cs

over_free : (xs : List ℕ) → AreOver xs → IsFree 10 xs
over_free [] h = tt
over_free (c ∷ cs) h = (λ e. omega (arith, h.0, e), over_free cs h.1)

paving_over : (d : ℕ) → 10 < d → AreOver (112 ∷ 97 ∷ 118 ∷ 105 ∷ 110 ∷ 103 ∷ 32 ∷ d ∷ [])
paving_over d h = (omega arith, (omega arith, (omega arith, (omega arith, (omega arith, (omega arith, (omega arith, (h, tt))))))))

pub version_free : (v : Version) → IsFree 10 (version_text v)
version_free One = over_free (codes "paving 1") (paving_over 49 (omega arith))
version_free Two = over_free (codes "paving 2") (paving_over 50 (omega arith))

digit_free : (c : ℕ) → is_hex_digit c ≡ true → c ≡ 10 → ⊥
digit_free c h e = let k : is_hex_digit 10 ≡ true = subst (λ (x : ℕ). is_hex_digit x ≡ true) e h in cc

digits_free : (xs : List ℕ) → AllPass is_hex_digit xs → IsFree 10 xs
digits_free [] h = tt
digits_free (c ∷ cs) h = (digit_free c (h 0 c (omega arith)), digits_free cs (λ k d l. h (suc k) d (omega (arith, l))))

free_append : (mark : ℕ) (xs ys : List ℕ) → IsFree mark xs → IsFree mark ys → IsFree mark (xs ++ ys)
free_append mark [] ys f g = g
free_append mark (c ∷ cs) ys f g = (f.0, free_append mark cs ys f.1 g)

word_over : AreOver (codes "identity ")
word_over = (omega arith, (omega arith, (omega arith, (omega arith, (omega arith, (omega arith, (omega arith, (omega arith, (omega arith, tt)))))))))

pub identity_free : (d : List ℕ) → IsDigest d → IsFree 10 (identity_text d)
identity_free d h =
    free_append 10 (codes "identity ") (encode_lower d) (over_free (codes "identity ") word_over)
    (digits_free (encode_lower d) (decode_of-ok (encode_lower d) d (decode_of-encode_lower d h.bytes)).1)
