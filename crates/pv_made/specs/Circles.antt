-- Systems that a number makes: draws one after another, and three draws a circle.
use Rattle.std.specs.Prelude.{ℕ, zero, suc, ◌+◌, ◌*◌, ◌/◌, ◌%◌, List, [], ◌++◌, codes, decimal}

-- a linear congruence
unfoldable pub next_state : ℕ → ℕ
next_state s = (s * 1103515245 + 12345) % 2147483648

-- what a state gives: its higher bits
unfoldable pub drawn_from : ℕ → ℕ
drawn_from s = s / 65536

abbrev pub after_circle : ℕ → ℕ
after_circle s = next_state (next_state (next_state s))

-- the outside of the disc with centre (x, y) and this radius
abbrev pub outside_text : ℕ → ℕ → ℕ → List ℕ
outside_text x y radius =
    codes "(x-" ++ decimal x ++ codes ")^2+(y-" ++ decimal y ++ codes ")^2 >= " ++ decimal (radius * radius) ++ codes ";\n"

-- the circle that is made behind a state
abbrev pub circle_text : ℕ → List ℕ
circle_text s =
    outside_text (drawn_from (next_state s) % 1000) (drawn_from (next_state (next_state s)) % 1000)
    (50 + drawn_from (after_circle s) % 200)

-- so many circles, one behind the other
abbrev pub circles_text : ℕ → ℕ → List ℕ
circles_text zero s = []
circles_text (suc n) s = circle_text s ++ circles_text n (after_circle s)

abbrev pub sample_text : ℕ → ℕ → List ℕ
sample_text seed count =
    codes "Variables x in [0,1024], y in [0,1024];\nConstraints\n" ++ circles_text count seed ++ codes "end\n"
