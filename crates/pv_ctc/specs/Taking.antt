-- What a part of the reader does with what is due, in words of the tokens that are left before and after it, and of
-- whatever is due behind.
use Rattle.std.specs.Prelude.{◌≡◌, ℕ, List, [], ◌∷◌, ◌++◌, Some}
use Rattle.pv_ctc.specs.declared.token.Token.TheVariants.{Comma}
use Rattle.pv_ctc.specs.declared.reading.ProgramRefused.{ProgramRefused}
use Rattle.pv_ctc.specs.declared.reading.ProgramRefused.TheVariants.{Memory, Bad}
use Rattle.pv_ctc.specs.Symbols.{Placed}
use Rattle.pv_ctc.specs.Refusals.{Due, refusal}

-- what was due is not refused in the tokens that were taken: what follows decides
abbrev pub Took : ℕ → List Due → ℕ → List Placed → List Due → ℕ → List Placed → Type 0
Took count due named ps now then_named after = (rest : List Due) → refusal ps count named (due ++ rest) ≡ refusal after count then_named (now ++ rest)

-- what was due is refused at this byte
abbrev pub Stopped : ℕ → List Due → ℕ → List Placed → ProgramRefused → Type 0
Stopped count due named ps Memory = Unit {0}
Stopped count due named ps (Bad byte) = (rest : List Due) → refusal ps count named (due ++ rest) ≡ Some byte

-- the next token begins at this byte and is no comma
abbrev pub NoComma : ℕ → List Placed → Type 0
NoComma byte [] = ⊥
NoComma byte (p ∷ ps) = (p.place ≡ byte) × (¬ (p.token ≡ Comma))
