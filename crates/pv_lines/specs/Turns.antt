-- Scribes that stand one behind the other, and what they do in a turn.
use Rattle.std.specs.Prelude.{◌≡◌, ℕ, ◌<◌, List, [], ◌∷◌, ◌++◌, length, get_or, Some, IfSome}
use Rattle.pv_tree.specs.Pieces.{Piece}
use Rattle.pv_file.specs.declared.version.Version.{Version}
use Rattle.pv_file.specs.Walks.{pending_text, after_steps}
use Rattle.pv_file.specs.Scribes.{Scribed}

-- each scribe stands a share behind the one before, the first at these nodes
abbrev pub AreSpread : ℕ → List Piece → List Scribed → Type 0
AreSpread share pieces [] = Unit {0}
AreSpread share pieces (scribe ∷ scribes) = (scribe.pending ≡ pieces) × AreSpread share (after_steps share pieces) scribes

-- where there was memory, a scribe made its share and passed those of the others
abbrev pub HasTurned : Version → ℕ → ℕ → Scribed → Scribed → Type 0
HasTurned v share gap old new =
    IfSome new.text (λ t. (pending_text v old.pending ≡ t ++ pending_text v (after_steps share old.pending))
    × (new.pending ≡ after_steps gap (after_steps share old.pending)))

-- the texts are those that the scribes made
abbrev pub AreTaken : List Scribed → List (List ℕ) → Type 0
AreTaken scribes texts = (i : ℕ) (d : Scribed) (t : List ℕ) → i < length scribes → (get_or scribes i d).text ≡ Some (get_or texts i t)

-- each scribe stands where it stood
abbrev pub AreStill : List Scribed → List Scribed → Type 0
AreStill old new = (i : ℕ) (d : Scribed) → i < length old → (get_or new i d).pending ≡ (get_or old i d).pending

-- the texts, one after the other
abbrev pub joined : List (List ℕ) → List ℕ
joined [] = []
joined (text ∷ texts) = text ++ joined texts
