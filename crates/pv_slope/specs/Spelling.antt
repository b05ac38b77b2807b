-- The identity of a settler with centered forms.
use Rattle.std.specs.Prelude.{ℕ, List, ◌++◌, codes}
use Rattle.pv_expr.specs.Canonical.{canonical_text}
use Rattle.sha2.specs.Sha256.{sha256}
use Rattle.pv_settle.specs.Rules.{SettlerParts}
use Rattle.pv_settle.specs.Spelling.{settings_text}

-- the SHA-256 digest of the system's canonical text, the settings' text and a line that names centered forms
abbrev pub identity_of : SettlerParts → List ℕ
identity_of r = sha256 (canonical_text r.system ++ settings_text r ++ codes "centered\n")
