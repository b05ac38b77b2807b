-- How many revisions a contraction by a program needs.
use Rattle.std.specs.Prelude.{◌≡◌, ℕ, zero, suc, ◌+◌, Bool, true, false, not, ◌&&◌, ◌||◌, nat_eq, if◌then◌else◌, List, [], ◌∷◌, length, Option, Some, None}
use Rattle.pv_num.specs.Order.{le}
use Rattle.pv_interval.specs.Bounds.{Bounds}
use Rattle.pv_hc4.specs.Revise.{Sides, revised}
use Rattle.pv_ctc.specs.Contracting.{Effect, side_at, turns_of, all_revised, contract_of}
use Rattle.pv_ctc.specs.Plans.{Plan, Plans, hc4, compose, union, qinter, fix, prop, no_plan, plan_and}
use Rattle.pv_ctc.specs.Uses.{has_variable}

-- the two intervals have the same ends
abbrev pub same_interval : Bounds → Bounds → Bool
same_interval x y = (le x.lo y.lo && le y.lo x.lo) && (le x.hi y.hi && le y.hi x.hi)

abbrev pub same_box : List Bounds → List Bounds → Bool
same_box [] [] = true
same_box [] (y ∷ c) = false
same_box (x ∷ b) [] = false
same_box (x ∷ b) (y ∷ c) = same_interval x y && same_box b c

-- each place from number i on that is a variable of the constraint is the same in two boxes
abbrev pub same_places : ℕ → Sides → List Bounds → List Bounds → Bool
same_places i s [] c = true
same_places i s (x ∷ b) [] = true
same_places i s (x ∷ b) (y ∷ c) = (not (has_variable i s) || same_interval x y) && same_places (i + 1) s b c

-- something was left, and it meets a test
abbrev pub is_left_so : Option (List Bounds) → (List Bounds → Bool) → Bool
is_left_so None test = false
is_left_so (Some c) test = test c

-- one revision of a constraint, by its number: the box, and what was left of it
pub record Revision : Type 0 where
  pub number : ℕ
  pub before : List Bounds
  pub after : Option (List Bounds)

-- it left the box as it was
abbrev pub is_kept : Revision → Bool
is_kept r = is_left_so r.after (same_box r.before)

-- it changed no place of a variable of the constraint s
abbrev pub spares : Sides → Revision → Bool
spares s r = is_left_so r.after (same_places 0 s r.before)

-- constraint k is clean after some revisions, the last one first: it was revised and kept the box, and no place of one
-- of its variables changed since
abbrev pub is_clean : List Sides → List Revision → ℕ → Bool
is_clean ss [] k = false
is_clean ss (r ∷ earlier) k = (nat_eq r.number k && is_kept r) || (is_clean ss earlier k && spares (side_at ss k) r)

-- where a contraction by `prop` stands: the revisions that were made, the last one first, and what is left of the box
pub record Passage : Type 0 where
  pub made : List Revision
  pub left : Option (List Bounds)

-- further steps with what is left, if something is
abbrev pub onward : List Revision → Option (List Bounds) → (List Bounds → Passage) → Passage
onward made None steps = record { made = made; left = None }
onward made (Some b) steps = steps b

abbrev pub revision : ℕ → Sides → List Bounds → Revision
revision i s b = record { number = i; before = b; after = revised s b }

-- a turn over the constraints from number i on: each that is not clean when its place comes is revised, up to and with
-- the first one that leaves nothing
abbrev pub turn_from : List Sides → ℕ → List Sides → List Revision → List Bounds → Passage
turn_from ss i [] made b = record { made = made; left = Some b }
turn_from ss i (s ∷ more) made b =
    if is_clean ss made i then turn_from ss (i + 1) more made b
    else onward (revision i s b ∷ made) (revised s b) (turn_from ss (i + 1) more (revision i s b ∷ made))

abbrev pub whole_turn : List Sides → List Revision → List Bounds → Passage
whole_turn ss made b = turn_from ss 0 ss made b

-- after a turn on the box b, further ones where it changed something
abbrev pub unless_same : List Bounds → Passage → (List Revision → List Bounds → Passage) → Passage
unless_same b p turns = onward p.made p.left (λ c. if same_box b c then p else turns p.made c)

-- at most n turns, which end after one that changes nothing or leaves nothing
abbrev pub passage : ℕ → List Sides → List Revision → List Bounds → Passage
passage zero ss made b = record { made = made; left = Some b }
passage (suc n) ss made b = unless_same b (whole_turn ss made b) (passage n ss)

-- the turns leave what they would leave if no constraint were passed over
abbrev pub PassesOverAlike : Type 0
PassesOverAlike = (n : ℕ) (ss : List Sides) (b : List Bounds) → (passage n ss [] b).left ≡ turns_of n (all_revised ss) b

-- what is counted of what is left
abbrev pub counted_of : Option (List Bounds) → (List Bounds → ℕ) → ℕ
counted_of None count = 0
counted_of (Some b) count = count b

-- the sum over at most n turns, which end after one that changes nothing or leaves nothing: a turn on a box leaves f of
-- it and counts
abbrev pub sum_of_turns : ℕ → Effect → (List Bounds → ℕ) → List Bounds → ℕ
sum_of_turns zero f count b = 0
sum_of_turns (suc n) f count b = count b + counted_of (f b) (λ c. if same_box b c then 0 else sum_of_turns n f count c)

-- the revisions that the contraction of a box by a program needs. At the start of each contraction by `prop` no
-- constraint is clean
abbrev mutual
  pub revisions : List Sides → Plan → List Bounds → ℕ
  revisions ss (hc4 i) b = 1
  revisions ss (compose ps) b = revisions_in_order ss ps b
  revisions ss (union ps) b = revisions_of_all ss ps b
  revisions ss (qinter q ps) b = revisions_of_all ss ps b
  revisions ss (fix n p) b = sum_of_turns n (contract_of ss p) (revisions ss p) b
  revisions ss (prop n) b = length (passage n ss [] b).made

  -- of the parts one after another, up to and with the first that leaves nothing
  pub revisions_in_order : List Sides → Plans → List Bounds → ℕ
  revisions_in_order ss no_plan b = 0
  revisions_in_order ss (plan_and p ps) b = revisions ss p b + counted_of (contract_of ss p b) (revisions_in_order ss ps)

  -- of all parts on the same box
  pub revisions_of_all : List Sides → Plans → List Bounds → ℕ
  revisions_of_all ss no_plan b = 0
  revisions_of_all ss (plan_and p ps) b = revisions ss p b + revisions_of_all ss ps b
