-- What a sink and a folder tell of themselves, and what their calls do.
use Rattle.std.specs.Prelude.{◌≡◌, ℕ, ◌+◌, ◌-◌, ◌^◌, ◌<◌, ◌≤◌, ◌⊎◌, List, ◌++◌, length, take, Option, option_map}

-- a count of faults that rose: it is greater than before, or it stands at its end
abbrev pub Rose : ℕ → ℕ → Type 0
Rose before after = (before < after) ⊎ (after ≡ 2 ^ 64 - 1)

-- the bytes that are told, with a piece behind them
abbrev pub appended : Option (List ℕ) → List ℕ → Option (List ℕ)
appended told piece = option_map (λ bytes. bytes ++ piece) told

-- some first part of the piece was put behind the bytes that are told
abbrev pub AppendsFront : Option (List ℕ) → Option (List ℕ) → List ℕ → Type 0
AppendsFront before after piece = (n : ℕ) × (after ≡ appended before (take n piece))

-- a first part of the bytes that were held was put behind those that are told
abbrev pub HandsOver : Option (List ℕ) → Option (List ℕ) → List ℕ → List ℕ → Type 0
HandsOver told_before told_after held_before held_after =
    (sent : List ℕ) × (told_after ≡ appended told_before sent) × (held_before ≡ sent ++ held_after)

-- what a folder says of a name
pub data Content : Type 0 where
  untold : Content
  absent : Content
  holds : List ℕ → Content

-- these bytes are the whole content, and no more than the limit
abbrev pub IsWhole : Content → ℕ → List ℕ → Type 0
IsWhole untold limit bytes = length bytes ≤ limit
IsWhole absent limit bytes = ⊥
IsWhole (holds whole) limit bytes = (bytes ≡ whole) × (length whole ≤ limit)

-- the content is longer than the limit, and these bytes are its first ones, one more than the limit
abbrev pub IsTooLong : Content → ℕ → List ℕ → Type 0
IsTooLong untold limit bytes = length bytes ≡ limit + 1
IsTooLong absent limit bytes = ⊥
IsTooLong (holds whole) limit bytes = (bytes ≡ take (limit + 1) whole) × (limit < length whole)

-- nothing is told that is there
abbrev pub MayBeAbsent : Content → Type 0
MayBeAbsent untold = Unit {0}
MayBeAbsent absent = Unit {0}
MayBeAbsent (holds whole) = ⊥

-- what is told of a name after these bytes were stored there
abbrev pub stored : Content → List ℕ → Content
stored untold bytes = untold
stored absent bytes = holds bytes
stored (holds whole) bytes = holds bytes

-- what is told of a name is what it was, or these bytes are stored there, whole
abbrev pub IsOldOrNew : Content → Content → List ℕ → Type 0
IsOldOrNew before after bytes = (after ≡ before) ⊎ (after ≡ stored before bytes)
