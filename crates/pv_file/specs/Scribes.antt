-- What contracts see of a scribe.
use Rattle.std.specs.Prelude.{ℕ, Bool, true, false, Option, Some, None, List, refl}
use Rattle.std.specs.Coded.{Coded, code_by, coded×, coded_ℕ, coded_list, coded_option}
use Rattle.pv_tree.specs.Pieces.{Piece, Walked}
use Rattle.pv_tree.specs.Codes.{coded_piece}

-- the nodes that are to come, and the lines made last, where there was memory for them
pub record Scribed : Type 0 where
  pub pending : List Piece
  pub text : Option (List ℕ)

abbrev pub coded_scribed : Coded Scribed
coded_scribed =
    code_by (List Piece × Option (List ℕ)) (coded× (coded_list coded_piece) (coded_option (coded_list coded_ℕ))) (λ s. (s.pending, s.text))
    (λ p. record { pending = p.0; text = p.1 }) (λ _. refl)

abbrev pub if_whole : Bool → List ℕ → Option (List ℕ)
if_whole true text = Some text
if_whole false text = None

abbrev pub scribed : Walked → Bool → List ℕ → Scribed
scribed walk whole text = record { pending = walk.pending; text = if_whole whole text }
