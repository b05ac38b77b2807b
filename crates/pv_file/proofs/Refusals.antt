-- Refusals and their lines.
use Rattle.std.proofs.Common.{◌≡◌, ℕ, suc, ◌+◌, ◌==◌, Bool, true, false, List, [], ◌∷◌, length, refl, sym, ◌∙◌, ap, arith}
use Rattle.std.proofs.lemmas.Bool.{eqb-true, eqb-false}
use Rattle.std.specs.Prelude.{Result, Ok, Err}
use Rattle.pv_file.specs.declared.refusal.FileRefused.{FileRefused}
use Rattle.pv_file.specs.declared.refusal.FileRefused.TheVariants.{WrongIdentity, BadLine, TooManyNodes, Memory}

abbrev error_or : {T E : Type 0} → E → Result T E → E
error_or d (Ok x) = d
error_or d (Err e) = e

pub same_error : {T E : Type 0} (a b : E) → ◌≡◌ {A = Result T E} (Err a) (Err b) → a ≡ b
same_error a b e = ap (error_or a) e

abbrev line_of : FileRefused → ℕ
line_of WrongIdentity = 0
line_of (BadLine n) = n
line_of (TooManyNodes n) = n
line_of Memory = 0

pub same_bad : {T : Type 0} (a n : ℕ) → ◌≡◌ {A = Result T FileRefused} (Err (BadLine a)) (Err (BadLine n)) → n ≡ a
same_bad a n e = sym (ap line_of (same_error (BadLine a) (BadLine n) e))

-- What is none of the three others is want of memory.
pub refused_memory : (r : FileRefused) → (r ≡ WrongIdentity → ⊥) → ((n : ℕ) → r ≡ BadLine n → ⊥) → ((n : ℕ) → r ≡ TooManyNodes n → ⊥) → r ≡ Memory
refused_memory WrongIdentity a b c = absurd (a refl)
refused_memory (BadLine n) a b c = absurd (b n refl)
refused_memory (TooManyNodes n) a b c = absurd (c n refl)
refused_memory Memory a b c = refl

no_length : (n : ℕ) → suc n ≡ 0 → ⊥
no_length n e = omega (arith, e)

pub empty_is : (xs : List ℕ) (b : Bool) → b ≡ (length xs == 0) → b ≡ true → xs ≡ []
empty_is [] b e t = refl
empty_is (x ∷ xs) b e t = absurd (no_length (length xs) (eqb-true (suc (length xs)) 0 (sym e ∙ t)))

pub not_empty : (xs : List ℕ) (b : Bool) → b ≡ (length xs == 0) → b ≡ false → xs ≡ [] → ⊥
not_empty xs b e f z = eqb-false (length xs) 0 (sym e ∙ f) (ap length z)

pub next_number : (line read next : ℕ) → line ≡ read + 3 → next ≡ line + 1 → next ≡ suc read + 3
next_number line read next e f = omega (arith, e, f)
