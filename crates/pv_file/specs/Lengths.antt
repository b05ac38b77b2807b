-- How long the texts of pavings are.
use Rattle.std.specs.Prelude.{◌≡◌, ℕ, ◌+◌, ◌*◌, ◌<◌, ◌≤◌, Bool, List, [], ◌∷◌, ◌++◌, Some, length}
use Rattle.pv_interval.specs.Bounds.{Bounds}
use Rattle.pv_tree.specs.Trees.{Tree, box_of, counts_of, outcome_at}
use Rattle.pv_tree.specs.declared.outcome.Outcome.{Outcome}
use Rattle.pv_file.specs.declared.version.Version.{Version}
use Rattle.pv_file.specs.Lines.{kept_text, line_with}
use Rattle.pv_file.specs.Texts.{IsDigest, file_text}
use Rattle.pv_file.specs.Readings.{IsPavingInFormat, settled_count}
use Rattle.pv_file.specs.declared.reader.TheConstants.{NODE_BYTES, SPARE_BYTES}
use Rattle.pv_file.specs.declared.writer.TheConstants.{LONGEST_LINE}

-- how many leaves are open
abbrev pub open_count : Tree → ℕ
open_count t = (counts_of t).open_leaves

-- the bytes of a file's first two lines
abbrev pub header_bytes : ℕ
header_bytes = 83

-- The line of a settled node of a paving, at whatever path, has no more bytes than the longest line, its line feed among them.
abbrev pub LinesAreShort : Type 0
LinesAreShort = (v : Version) (b : List Bounds) (t : Tree) (p : List Bool) (o : Outcome) → IsPavingInFormat b t → outcome_at t p ≡ Some o
    → length (line_with (kept_text v (box_of b t p)) o ++ 10 ∷ []) ≤ LONGEST_LINE

-- Open leaves are at most one more than settled nodes.
abbrev pub OpenLeavesAreFew : Type 0
OpenLeavesAreFew = (t : Tree) → open_count t ≤ settled_count t + 1

-- A paving's file has some bytes for its first two lines, at most a longest line for each settled node and 2 for each open leaf.
abbrev pub FilesAreShort : Type 0
FilesAreShort = (v : Version) (identity : List ℕ) (b : List Bounds) (t : Tree) → IsDigest identity → IsPavingInFormat b t
    → length (file_text v identity b t) ≤ header_bytes + (LONGEST_LINE * settled_count t + 2 * open_count t)

-- The file of a paving with at most n settled nodes has at most so many bytes: for 100,000 fewer than 67,000,000.
abbrev pub FilesHaveLimit : Type 0
FilesHaveLimit = (n : ℕ) (v : Version) (identity : List ℕ) (b : List Bounds) (t : Tree) → IsDigest identity → IsPavingInFormat b t
    → settled_count t ≤ n → length (file_text v identity b t) ≤ header_bytes + (LONGEST_LINE * n + 2 * (n + 1))

-- The greatest length of a file that is read where a tree may have at most n settled nodes: for 100,000 it is 70,000,000 bytes.
abbrev pub length_limit : ℕ → ℕ
length_limit n = NODE_BYTES * n + SPARE_BYTES

-- The file of a paving with at most n settled nodes is never too long for them.
abbrev pub FilesAreRead : Type 0
FilesAreRead = (n : ℕ) (v : Version) (identity : List ℕ) (b : List Bounds) (t : Tree) → IsDigest identity → IsPavingInFormat b t
    → settled_count t ≤ n → length (file_text v identity b t) < length_limit n
