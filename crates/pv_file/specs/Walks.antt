-- The text of the nodes that a walk is still to visit.
use Rattle.std.specs.Prelude.{◌≡◌, ℕ, zero, suc, List, [], ◌∷◌, ◌++◌}
use Rattle.pv_tree.specs.Pieces.{Piece, children_of}
use Rattle.pv_file.specs.declared.version.Version.{Version}
use Rattle.pv_file.specs.Lines.{lines_of}

abbrev pub pending_text : Version → List Piece → List ℕ
pending_text v [] = []
pending_text v (piece ∷ pieces) = lines_of v piece.box piece.tree ++ pending_text v pieces

-- the nodes that are to come after so many steps
abbrev pub after_steps : ℕ → List Piece → List Piece
after_steps zero pieces = pieces
after_steps (suc n) [] = []
after_steps (suc n) (piece ∷ pieces) = after_steps n (children_of piece ++ pieces)

-- the text of so many nodes of those to come, which are passed
pub record AreWritten (v : Version) (nodes : ℕ) (before after : List Piece) (text : List ℕ) : Type 0 where
  pub come : after ≡ after_steps nodes before
  pub text_is : pending_text v before ≡ text ++ pending_text v after
