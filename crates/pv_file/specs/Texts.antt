-- The text of a paving file.
use Rattle.std.specs.Prelude.{◌≡◌, ◌≢◌, ℕ, List, [], ◌∷◌, ◌++◌, codes, length}
use Rattle.hex.specs.Hex.{IsBytes, encode_lower}
use Rattle.pv_interval.specs.Bounds.{Bounds}
use Rattle.pv_tree.specs.Trees.{Tree}
use Rattle.pv_file.specs.declared.version.Version.{Version}
use Rattle.pv_file.specs.declared.version.Version.TheVariants.{One, Two}
use Rattle.pv_file.specs.Lines.{lines_of}

-- 32 bytes
pub record IsDigest (d : List ℕ) : Type 0 where
  pub count : length d ≡ 32
  pub bytes : IsBytes d

abbrev pub version_text : Version → List ℕ
version_text One = codes "paving 1"
version_text Two = codes "paving 2"

abbrev pub identity_text : List ℕ → List ℕ
identity_text identity = codes "identity " ++ encode_lower identity

-- the lines before the nodes
abbrev pub header_text : Version → List ℕ → List ℕ
header_text v identity = version_text v ++ (10 ∷ (identity_text identity ++ 10 ∷ []))

-- the text of a paving over a box
abbrev pub file_text : Version → List ℕ → List Bounds → Tree → List ℕ
file_text v identity b t = header_text v identity ++ lines_of v b t

-- a second line of a file with another identity
pub record NamesOther (line identity : List ℕ) : Type 0 where
  pub other : List ℕ
  pub is_digest : IsDigest other
  pub differs : other ≢ identity
  pub names : line ≡ identity_text other
