-- Lines and columns of a text, counted from 1.
use Rattle.std.specs.Prelude.{ℕ, ◌+◌, List, not, ◌==◌, take, reverse, length, count_by}
use Rattle.std.specs.List.{take_while}

-- one more than the number of line feeds before the byte
abbrev pub line_of : List ℕ → ℕ → ℕ
line_of t byte = 1 + count_by (λ b. b == 10) (take byte t)

-- how many bytes at the end of a text hold no line feed
abbrev pub behind_line_feed : List ℕ → ℕ
behind_line_feed t = length (take_while (λ b. not (b == 10)) (reverse t))

-- one more than the number of bytes between the last line feed before the byte, or the text's start, and the byte
abbrev pub column_of : List ℕ → ℕ → ℕ
column_of t byte = 1 + behind_line_feed (take byte t)
