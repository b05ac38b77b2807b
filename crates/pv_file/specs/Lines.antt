-- The lines of a paving's nodes, in both versions of a paving file.
use Rattle.std.specs.Prelude.{ℕ, List, [], ◌∷◌, ◌++◌, codes, decimal, Option, Some, None, if◌then◌else◌}
use Rattle.std.specs.Ordering.{eq_by_cmp}
use Rattle.pv_num.specs.Extended.{Extended}
use Rattle.pv_num.specs.Order.{order_of}
use Rattle.pv_num.specs.Parts.{number_text}
use Rattle.pv_interval.specs.Bounds.{Bounds}
use Rattle.pv_box.specs.Boxes.{lower_half, upper_half}
use Rattle.pv_tree.specs.Trees.{Tree, leaf, removed, inner, small, cut, top}
use Rattle.pv_tree.specs.declared.outcome.Outcome.{Outcome}
use Rattle.pv_tree.specs.declared.outcome.Outcome.TheVariants.{Removed, Inner, Small, Cut}
use Rattle.pv_file.specs.declared.version.Version.{Version}
use Rattle.pv_file.specs.declared.version.Version.TheVariants.{One, Two}

-- two texts, each after a space
abbrev pub pair_text : List ℕ → List ℕ → List ℕ
pair_text low high = 32 ∷ (low ++ (32 ∷ high))

-- version 1: the number of each end of each place
abbrev pub ends_text : List Bounds → List ℕ
ends_text [] = []
ends_text (x ∷ xs) = pair_text (number_text x.lo) (number_text x.hi) ++ ends_text xs

-- version 2: an end is written "=" where it is the old one
abbrev pub change_text : Extended → Extended → List ℕ
change_text old new = if eq_by_cmp order_of new old then codes "=" else number_text new

-- version 2: each end of each place against the same end of the node's box
abbrev pub changes_text : List Bounds → List Bounds → List ℕ
changes_text [] to = []
changes_text (old ∷ b) [] = []
changes_text (old ∷ b) (x ∷ xs) = pair_text (change_text old.lo x.lo) (change_text old.hi x.hi) ++ changes_text b xs

-- how the ends of what a node kept of its box are written
abbrev pub kept_text : Version → List Bounds → List Bounds → List ℕ
kept_text One b to = ends_text to
kept_text Two b to = changes_text b to

-- the beginning of a cut's line
abbrev pub cut_text : ℕ → Extended → List ℕ
cut_text var at = codes "C " ++ (decimal var ++ (codes " " ++ number_text at))

-- a letter for the outcome, the place and the number of a cut, and the ends in a given spelling
abbrev pub line_with : (List Bounds → List ℕ) → Outcome → List ℕ
line_with ends Removed = codes "X"
line_with ends (Inner to) = codes "I" ++ ends to
line_with ends (Small to) = codes "S" ++ ends to
line_with ends (Cut to var at) = cut_text var at ++ ends to

-- the line of an outcome in version 1, without its line feed
abbrev pub outcome_line : Outcome → List ℕ
outcome_line o = line_with ends_text o

-- the line of a node, which is open where it has no outcome, without its line feed
abbrev pub node_line_with : (List Bounds → List ℕ) → Option Outcome → List ℕ
node_line_with ends None = codes "O"
node_line_with ends (Some o) = line_with ends o

-- the line of a tree's top node in version 1
abbrev pub node_line : Tree → List ℕ
node_line t = node_line_with ends_text (top t)

-- the line of the top node of a tree over a box
abbrev pub top_line : Version → List Bounds → Tree → List ℕ
top_line v b t = node_line_with (kept_text v b) (top t)

-- the lines of all nodes of a tree over a box in preorder, each with its line feed
abbrev pub lines_of : Version → List Bounds → Tree → List ℕ
lines_of v b leaf = top_line v b leaf ++ 10 ∷ []
lines_of v b removed = top_line v b removed ++ 10 ∷ []
lines_of v b (inner to) = top_line v b (inner to) ++ 10 ∷ []
lines_of v b (small to) = top_line v b (small to) ++ 10 ∷ []
lines_of v b (cut to var at low high) =
    top_line v b (cut to var at low high)
    ++ (10 ∷ (lines_of v (lower_half to var at) low ++ lines_of v (upper_half to var at) high))
