-- The one spelling of a program.
use Rattle.std.specs.Prelude.{ℕ, zero, suc, ◌+◌, List, [], ◌++◌, codes, decimal}
use Rattle.pv_ctc.specs.Plans.{Plan, Plans, hc4, compose, union, qinter, fix, prop, no_plan, plan_and}

-- what stands in front of part i of a list
abbrev pub comma_text : ℕ → List ℕ
comma_text zero = []
comma_text (suc i) = codes ","

abbrev mutual
  pub program_text : Plan → List ℕ
  program_text (hc4 i) = codes "hc4(" ++ decimal i ++ codes ")"
  program_text (compose ps) = codes "compose(" ++ parts_text 0 ps ++ codes ")"
  program_text (union ps) = codes "union(" ++ parts_text 0 ps ++ codes ")"
  program_text (qinter q ps) = codes "qinter(" ++ decimal q ++ codes "," ++ parts_text 0 ps ++ codes ")"
  program_text (fix n p) = codes "fix(" ++ decimal n ++ codes "," ++ program_text p ++ codes ")"
  program_text (prop n) = codes "prop(" ++ decimal n ++ codes ")"

  -- the parts from number i on, with commas between them
  pub parts_text : ℕ → Plans → List ℕ
  parts_text i no_plan = []
  parts_text i (plan_and p ps) = comma_text i ++ program_text p ++ parts_text (i + 1) ps

-- the text of a program without its last parenthesis
abbrev pub open_text : Plan → List ℕ
open_text (hc4 i) = codes "hc4(" ++ decimal i
open_text (compose ps) = codes "compose(" ++ parts_text 0 ps
open_text (union ps) = codes "union(" ++ parts_text 0 ps
open_text (qinter q ps) = codes "qinter(" ++ decimal q ++ codes "," ++ parts_text 0 ps
open_text (fix n p) = codes "fix(" ++ decimal n ++ codes "," ++ program_text p
open_text (prop n) = codes "prop(" ++ decimal n
