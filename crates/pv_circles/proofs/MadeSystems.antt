-- The text of circles is a system's: that of their tree.
use Rattle.std.proofs.Common.{◌≡◌, ℕ, zero, suc, ◌+◌, ◌*◌, ◌^◌, ◌<◌, ◌≤◌, true, false, List, [], ◌∷◌, ◌++◌, append_assoc, codes, decimal, length, length-append, mul-le-mul, Some, refl, sym, ap, ◌∙◌, subst, arith}
use Rattle.std.proofs.lemmas.Fmt.{length-decimal-le}
use Rattle.pv_expr.specs.declared.constraint.Relation.TheVariants.{Ge}
use Rattle.pv_grammar.specs.declared.counts.Phase.TheVariants.{Between, NextConstraint, Sides, Variables}
use Rattle.pv_grammar.specs.declared.symbol.Fixed.TheVariants.{Caret, Close, Comma, Constraints as ConstraintsWord, End, Minus, Open, Plus, Semicolon, Variables as VariablesWord}
use Rattle.pv_grammar.specs.declared.symbol.Symbol.{Symbol}
use Rattle.pv_grammar.specs.declared.symbol.Symbol.TheVariants.{Declared, Fixed as FixedToken, Number as NumberToken, Relation as RelationToken, Variable as VariableName}
use Rattle.pv_code.specs.Sizes.{AreWithin}
use Rattle.pv_grammar.specs.Productions.{System, constraint_symbols, constraints_symbols, system_symbols, variable_symbols}
use Rattle.pv_grammar.specs.Trees.{system_constraints, system_domains}
use Rattle.pv_grammar.specs.Standings.{Standing, first_in}
use Rattle.pv_tokens.specs.declared.token.Kind.TheVariants.{GreaterEqual}
use Rattle.pv_tokens.specs.Tokens.{mark}
use Rattle.pv_tokens.specs.Tokens.IsWord.{greater_equal}
use Rattle.pv_tokens.specs.Words.{word_in}
use Rattle.pv_made.specs.Circles.{after_circle, circle_text, circles_text, sample_text}
use Rattle.pv_parse.specs.Declarations.{AreGood, IsSystemSentence}
use Rattle.pv_parse.specs.Meanings.{Names, behind_sign, no_names, with_name}
use Rattle.pv_parse.specs.Sentences.{IsTextOf, Spells, name_symbol}
use Rattle.pv_parse.proofs.Outcomes.{reading_of}
use Rattle.pv_parse.proofs.TreeTexts.{one_tree_of}
use Rattle.pv_parse.proofs.Pieces.{IsPiece, Piece, StandsAlone, mark_piece, name_piece, named}
use Rattle.pv_circles.proofs.MadeNumbers.{IsWritten, decimal_written, number_piece, number_stands, numbered}
use Rattle.pv_circles.proofs.MadeTexts.{ReadAs, Part, fits, made_text, part, text_in}
use Rattle.pv_circles.proofs.MadeTrees.{centre_x, centre_y, circle, circles, circles_tree, constraints_within, exponent_of, good_domains, outside, radius_of, side, tree_within, whole}

-- ---- Their tokens

abbrev marked : ℕ → Piece
marked b = record { kind = mark b; bytes = b ∷ [] }

mark_is : (b : ℕ) → StandsAlone b → IsPiece (marked b)
mark_is b stands = mark_piece b stands

abbrev at_least : Piece
at_least = record { kind = GreaterEqual; bytes = codes ">=" }

at_least_is : IsPiece at_least
at_least_is = record {
  some = omega arith;
  inner = λ e. grind arith;
  word = λ w i p. greater_equal refl (grind (arith, p.each 0)) (p.each 1 (omega arith)) refl;
  begins = λ c o. grind arith;
}

-- the end of a line
abbrev semicolon_part : Part
semicolon_part = part (marked 59) (codes "\n")

abbrev x_name : List ℕ
x_name = codes "x"

abbrev y_name : List ℕ
y_name = codes "y"

x_is : IsPiece (named x_name)
x_is = name_piece x_name refl (omega arith)

y_is : IsPiece (named y_name)
y_is = name_piece y_name refl (omega arith)

zero_is : IsWritten (codes "0") 0
zero_is = record { some = omega arith; digits = (omega arith, tt); value = refl; small = omega arith }

two_is : IsWritten (codes "2") 2
two_is = record { some = omega arith; digits = (omega arith, tt); value = refl; small = omega arith }

largest_is : IsWritten (codes "1024") 1024
largest_is = record { some = omega arith; digits = (omega arith, (omega arith, (omega arith, (omega arith, tt)))); value = refl; small = omega arith }

-- ---- The variables

abbrev in_variables : ℕ → Standing
in_variables n = record { phase = Variables; parameters = 0; functions = 0; variables = n }

-- a name is declared behind so many
abbrev declared : List ℕ → ℕ → Names → Names
declared name i n = behind_sign false (with_name Variables (in_variables i) name n)

-- `name in [0,1024]`
abbrev side_parts : List ℕ → List Part → List Part
side_parts name xs =
    part (named name) (codes " ") ∷ part (named (codes "in")) (codes " ") ∷ part (marked 91) [] ∷ part (numbered (codes "0")) [] ∷ part (marked 44) [] ∷ part (numbered (codes "1024")) [] ∷ part (marked 93) [] ∷ xs

side_reads : (name : List ℕ) (i : ℕ) (n : Names) → IsPiece (named name) → Declared false ≡ name_symbol Variables n name (word_in name) → (xs : List Part) (ss : List Symbol) → ReadAs (declared name i n) (in_variables (i + 1)) xs ss →
    ReadAs n (in_variables i) (side_parts name xs) (variable_symbols side ss)
side_reads name i n is stands xs ss more = (
  is,
  refl,
  stands,
  (
    name_piece (codes "in") refl (omega arith),
    refl,
    refl,
    (
      mark_is 91 (grind arith),
      refl,
      refl,
      (
        number_piece (codes "0") 0 zero_is,
        refl,
        number_stands (codes "0") 0 zero_is,
        (mark_is 44 (grind arith), refl, refl, (number_piece (codes "1024") 1024 largest_is, refl, number_stands (codes "1024") 1024 largest_is, (mark_is 93 (grind arith), refl, refl, more))),
      ),
    ),
  ),
)

-- both variables are known
abbrev known : Names
known = declared y_name 1 (declared x_name 0 no_names)

abbrev in_constraints : Standing
in_constraints = record { phase = NextConstraint; parameters = 0; functions = 0; variables = 2 }

-- within a constraint
abbrev in_sides : Standing
in_sides = record { phase = Sides; parameters = 0; functions = 0; variables = 2 }

-- up to the first constraint
abbrev constraints_parts : List Part → List Part
constraints_parts xs = semicolon_part ∷ part (named (codes "Constraints")) (codes "\n") ∷ xs

abbrev constraints_word : List Symbol → List Symbol
constraints_word ss = FixedToken Semicolon ∷ FixedToken ConstraintsWord ∷ ss

abbrev head_parts : List Part → List Part
head_parts xs = part (named (codes "Variables")) (codes " ") ∷ side_parts x_name (part (marked 44) (codes " ") ∷ side_parts y_name (constraints_parts xs))

head_reads : (xs : List Part) (ss : List Symbol) → ReadAs known in_constraints xs ss →
    ReadAs no_names (first_in Between) (head_parts xs) (FixedToken VariablesWord ∷ variable_symbols side (FixedToken Comma ∷ variable_symbols side (constraints_word ss)))
head_reads xs ss more =
    let y_parts = part (marked 44) (codes " ") ∷ side_parts y_name (constraints_parts xs) in
    let y_symbols = FixedToken Comma ∷ variable_symbols side (constraints_word ss) in
    let last : ReadAs known (in_variables 2) (constraints_parts xs) (constraints_word ss) = (mark_is 59 (grind arith), refl, refl, (name_piece (codes "Constraints") refl (omega arith), refl, refl, more)) in
    let y : ReadAs (declared x_name 0 no_names) (in_variables 1) y_parts y_symbols =
    (mark_is 44 (grind arith), refl, refl, side_reads y_name 1 (declared x_name 0 no_names) y_is refl (constraints_parts xs) (constraints_word ss) last) in
    (name_piece (codes "Variables") refl (omega arith), refl, refl, side_reads x_name 0 no_names x_is refl y_parts y_symbols y)

-- ---- One circle

-- `name-a)^2`
abbrev squared_parts : List ℕ → ℕ → List ℕ → List Part → List Part
squared_parts name a gap xs =
    part (named name) [] ∷ part (marked 45) [] ∷ part (numbered (decimal a)) [] ∷ part (marked 41) [] ∷ part (marked 94) [] ∷ part (numbered (codes "2")) gap ∷ xs

abbrev squared_symbols : ℕ → ℕ → List Symbol → List Symbol
squared_symbols i a ss = VariableName i ∷ FixedToken Minus ∷ NumberToken (whole a) (exponent_of a) ∷ FixedToken Close ∷ FixedToken Caret ∷ NumberToken (whole 2) (Some 2) ∷ ss

squared_reads : (name : List ℕ) (i a : ℕ) (gap : List ℕ) (xs : List Part) (ss : List Symbol) → IsPiece (named name) → VariableName i ≡ name_symbol Sides known name (word_in name) → a < 2 ^ 64 → fits (part (numbered (codes "2")) gap) xs ≡ true →
    ReadAs known in_sides xs ss → ReadAs known in_sides (squared_parts name a gap xs) (squared_symbols i a ss)
squared_reads name i a gap xs ss is stands small fit more =
    let written = decimal_written a small in (
      is,
      refl,
      stands,
      (
        mark_is 45 (grind arith),
        refl,
        refl,
        (
          number_piece (decimal a) a written,
          refl,
          number_stands (decimal a) a written,
          (mark_is 41 (grind arith), refl, refl, (mark_is 94 (grind arith), refl, refl, (number_piece (codes "2") 2 two_is, fit, number_stands (codes "2") 2 two_is, more))),
        ),
      ),
    )

-- `>= r;`
abbrev least_parts : ℕ → List Part → List Part
least_parts r xs = part at_least (codes " ") ∷ part (numbered (decimal r)) [] ∷ semicolon_part ∷ xs

abbrev least_symbols : ℕ → List Symbol → List Symbol
least_symbols r ss = RelationToken Ge ∷ NumberToken (whole r) (exponent_of r) ∷ ss

least_reads : (r : ℕ) (xs : List Part) (ss : List Symbol) → r < 2 ^ 64 → ReadAs known in_sides (semicolon_part ∷ xs) ss → ReadAs known in_sides (least_parts r xs) (least_symbols r ss)
least_reads r xs ss small more =
    let written = decimal_written r small in (at_least_is, refl, refl, (number_piece (decimal r) r written, refl, number_stands (decimal r) r written, more))

-- `(x-a)^2+(y-b)^2 >= r;` and the end of the line
abbrev outside_parts : ℕ → ℕ → ℕ → List Part → List Part
outside_parts a b r xs =
    part (marked 40) [] ∷ squared_parts x_name a [] (part (marked 43) [] ∷ part (marked 40) [] ∷ squared_parts y_name b (codes " ") (least_parts r xs))

outside_reads : (a b r : ℕ) → a < 2 ^ 64 → b < 2 ^ 64 → r < 2 ^ 64 → (xs : List Part) (ss : List Symbol) → ReadAs known in_sides (semicolon_part ∷ xs) ss →
    ReadAs known in_constraints (outside_parts a b r xs) (constraint_symbols (outside a b r) ss)
outside_reads a b r a_small b_small r_small xs ss more =
    let y_parts = squared_parts y_name b (codes " ") (least_parts r xs) in
    let y_symbols = squared_symbols 1 b (least_symbols r ss) in
    let y = squared_reads y_name 1 b (codes " ") (least_parts r xs) (least_symbols r ss) y_is refl b_small refl (least_reads r xs ss r_small more) in
    let joined : ReadAs known in_sides (part (marked 43) [] ∷ part (marked 40) [] ∷ y_parts) (FixedToken Plus ∷ FixedToken Open ∷ y_symbols) =
    (mark_is 43 (grind arith), refl, refl, (mark_is 40 (grind arith), refl, refl, y)) in
    (mark_is 40 (grind arith), refl, refl, squared_reads x_name 0 a [] (part (marked 43) [] ∷ part (marked 40) [] ∷ y_parts) (FixedToken Plus ∷ FixedToken Open ∷ y_symbols) x_is refl a_small refl joined)

-- ---- All circles

radius_small : (s : ℕ) → radius_of s * radius_of s ≤ 249 * 249
radius_small s = let most : radius_of s ≤ 249 = omega arith in mul-le-mul most most

abbrev circle_parts : ℕ → List Part → List Part
circle_parts s xs = outside_parts (centre_x s) (centre_y s) (radius_of s * radius_of s) xs

abbrev circles_parts : ℕ → ℕ → List Part → List Part
circles_parts zero s xs = xs
circles_parts (suc n) s xs = circle_parts s (circles_parts n (after_circle s) xs)

circle_reads : (s : ℕ) (xs : List Part) (ss : List Symbol) → ReadAs known in_sides (semicolon_part ∷ xs) ss → ReadAs known in_constraints (circle_parts s xs) (constraint_symbols (circle s) ss)
circle_reads s xs ss more =
    outside_reads (centre_x s) (centre_y s) (radius_of s * radius_of s) (omega arith) (omega arith) (omega (arith, radius_small s)) xs ss more

circles_read : (n s : ℕ) (xs : List Part) (ss : List Symbol) → ReadAs known in_constraints xs ss → ReadAs known in_sides (semicolon_part ∷ circles_parts n s xs) (constraints_symbols (circles n s) ss)
circles_read zero s xs ss more = (mark_is 59 (grind arith), refl, refl, more)
circles_read (suc n) s xs ss more =
    let next = after_circle s in
    (mark_is 59 (grind arith), refl, refl, circle_reads s (circles_parts n next xs) (constraints_symbols (circles n next) ss) (circles_read n next xs ss more))

-- ---- The whole text

abbrev end_parts : List Part
end_parts = part (named (codes "end")) (codes "\n") ∷ []

abbrev all_parts : ℕ → ℕ → List Part
all_parts seed n = head_parts (circles_parts (suc n) seed end_parts)

system_reads : (seed n : ℕ) → ReadAs no_names (first_in Between) (all_parts seed n) (system_symbols (circles_tree seed n) [])
system_reads seed n =
    let next = after_circle seed in
    let ends : List Symbol = FixedToken End ∷ [] in
    head_reads (circles_parts (suc n) seed end_parts) (constraint_symbols (circle seed) (constraints_symbols (circles n next) ends))
    (circle_reads seed (circles_parts n next end_parts) (constraints_symbols (circles n next) ends) (circles_read n next end_parts ends (name_piece (codes "end") refl (omega arith), refl, refl, tt)))

-- ---- Its bytes

regrouped : (a b c d e f g h : List ℕ) → a ++ b ++ c ++ d ++ e ++ f ++ g ++ h ≡ a ++ (b ++ (c ++ (d ++ (e ++ (f ++ (g ++ h))))))
regrouped a b c d e f g h =
    append_assoc (a ++ b ++ c ++ d ++ e ++ f) g h ∙ (append_assoc (a ++ b ++ c ++ d ++ e) f (g ++ h) ∙ (append_assoc (a ++ b ++ c ++ d) e (f ++ (g ++ h))
    ∙ (append_assoc (a ++ b ++ c) d (e ++ (f ++ (g ++ h))) ∙ (append_assoc (a ++ b) c (d ++ (e ++ (f ++ (g ++ h)))) ∙ append_assoc a b (c ++ (d ++ (e ++ (f ++ (g ++ h)))))))))

circle_text_is : (s : ℕ) (xs : List Part) → circle_text s ++ text_in xs ≡ text_in (circle_parts s xs)
circle_text_is s xs =
    regrouped (codes "(x-") (decimal (centre_x s)) (codes ")^2+(y-") (decimal (centre_y s)) (codes ")^2 >= ") (decimal (radius_of s * radius_of s)) (codes ";\n") (text_in xs)

circles_text_is : (n s : ℕ) (xs : List Part) → circles_text n s ++ text_in xs ≡ text_in (circles_parts n s xs)
circles_text_is zero s xs = refl
circles_text_is (suc n) s xs =
    append_assoc (circle_text s) (circles_text n (after_circle s)) (text_in xs)
    ∙ (ap (λ t. circle_text s ++ t) (circles_text_is n (after_circle s) xs) ∙ circle_text_is s (circles_parts n (after_circle s) xs))

abbrev head_text : List ℕ
head_text = codes "Variables x in [0,1024], y in [0,1024];\nConstraints\n"

sample_text_is : (seed n : ℕ) → text_in (all_parts seed n) ≡ sample_text seed (suc n)
sample_text_is seed n =
    sym (append_assoc head_text (circles_text (suc n) seed) (codes "end\n") ∙ ap (λ t. head_text ++ t) (circles_text_is (suc n) seed end_parts))

-- ---- Its length

circle_short : (s : ℕ) → length (circle_text s) ≤ 34
circle_short s =
    let x = decimal (centre_x s) in
    let y = decimal (centre_y s) in
    let r = decimal (radius_of s * radius_of s) in
    let x_short : length x ≤ 5 = length-decimal-le 5 (centre_x s) (omega arith) (omega arith) (omega arith) in
    let y_short : length y ≤ 5 = length-decimal-le 5 (centre_y s) (omega arith) (omega arith) (omega arith) in
    let small = radius_small s in
    let r_short : length r ≤ 5 = length-decimal-le 5 (radius_of s * radius_of s) (omega arith) (omega arith) (omega arith) in
    let grouped : length (circle_text s ++ []) ≡ length (codes "(x-" ++ (x ++ (codes ")^2+(y-" ++ (y ++ (codes ")^2 >= " ++ (r ++ codes ";\n")))))) =
    ap length (regrouped (codes "(x-") x (codes ")^2+(y-") y (codes ")^2 >= ") r (codes ";\n") []) in
    omega (
      arith,
      grouped,
      length-append (circle_text s) [],
      length-append x (codes ")^2+(y-" ++ (y ++ (codes ")^2 >= " ++ (r ++ codes ";\n")))),
      length-append y (codes ")^2 >= " ++ (r ++ codes ";\n")),
      length-append r (codes ";\n"),
    )

circles_short : (n s : ℕ) → length (circles_text n s) ≤ n * 34
circles_short zero s = omega arith
circles_short (suc n) s =
    let more = circles_short n (after_circle s) in
    let first = circle_short s in
    omega (arith, length-append (circle_text s) (circles_text n (after_circle s)))

sample_short : (seed n : ℕ) → n ≤ 16 → length (sample_text seed n) ≤ 65536
sample_short seed n few =
    let circles = circles_short n seed in
    omega (arith, length-append (head_text ++ circles_text n seed) (codes "end\n"), length-append head_text (circles_text n seed))

-- ---- The text is a system's

pub sample_sentence : (seed count : ℕ) → 1 ≤ count → count ≤ 16 → IsSystemSentence (sample_text seed count)
sample_sentence seed zero some few = absurd (omega arith)
sample_sentence seed (suc n) some few =
    let t = sample_text seed (suc n) in
    let tree = circles_tree seed n in
    let spelled = subst (λ (z : List ℕ). Spells z no_names (first_in Between) (system_symbols tree [])) (sample_text_is seed n) (made_text no_names (first_in Between) (all_parts seed n) (system_symbols tree []) (system_reads seed n)) in
    let text : IsTextOf t tree = (spelled, tree_within seed n (omega arith)) in
    let reading = reading_of t tree text in
    let same : tree ≡ reading.tree = one_tree_of t tree reading.tree text reading.spelled in
    record {
      reading = reading;
      good = subst (λ (x : System). AreGood (system_domains x)) same (good_domains seed n);
      within = subst (λ (x : System). AreWithin (system_constraints x)) same (constraints_within seed n (omega arith));
      short = sample_short seed (suc n) few;
    }
