-- What a caller of a shared board has counted.
use Rattle.std.specs.Prelude.{◌≡◌, ℕ, ◌+◌, ◌-◌, ◌*◌, ◌/◌, ◌^◌, ◌<◌, ◌≤◌, min, Bool, if◌then◌else◌, ◌++◌, length, option_to_list, refl}
use Rattle.std.specs.Coded.{Coded, code_by, coded×, coded_ℕ}
use Rattle.pv_tree.specs.Limits.{told_room}
use Rattle.pv_tree.specs.Trees.{Tree}
use Rattle.pv_board.specs.declared.ticket.Look.{Look}
use Rattle.pv_board.specs.declared.ticket.Look.TheVariants as look
use Rattle.pv_board.specs.declared.ticket.Settled.{Settled}
use Rattle.pv_board.specs.Rules.{settled_in}
use Rattle.pv_board.specs.Core.{Core}
use Rattle.pv_board.specs.Events.{IsDry, IsLook, IsOver}
use Rattle.pv_board.specs.declared.ticket.TheConstants.{MOST_GRANT}
use Rattle.pv_board.specs.declared.told.TheConstants.{LOT_NODES, MOST_LOTS}

-- How many nodes it settled, how many endings and changes it was told of, how many tickets it was given and handed in, how many lots of up to 16 nodes
-- it settled, each ticket's nodes by themselves, and its parts of the right to know the whole.
pub record Tally : Type 0 where
  pub settled : ℕ
  pub ended : ℕ
  pub looks : ℕ
  pub given : ℕ
  pub spent : ℕ
  pub lots : ℕ
  pub parts : ℕ

abbrev pub coded_tally : Coded Tally
coded_tally =
    code_by (ℕ × (ℕ × (ℕ × (ℕ × (ℕ × (ℕ × ℕ)))))) (coded× coded_ℕ (coded× coded_ℕ (coded× coded_ℕ (coded× coded_ℕ (coded× coded_ℕ (coded× coded_ℕ coded_ℕ))))))
    (λ t. (t.settled, (t.ended, (t.looks, (t.given, (t.spent, (t.lots, t.parts)))))))
    (λ p. record { settled = p.0; ended = p.1.0; looks = p.1.1.0; given = p.1.1.1.0; spent = p.1.1.1.1.0; lots = p.1.1.1.1.1.0; parts = p.1.1.1.1.1.1 }) (λ _. refl)

abbrev pub tally_of : ℕ → Tally
tally_of parts = record { settled = 0; ended = 0; looks = 0; given = 0; spent = 0; lots = 0; parts = parts }

-- Counts of 64 bits stand still at their end.
abbrev pub most : ℕ
most = 2 ^ 64 - 1

-- The three counts of tickets and looks are far from their end.
pub record IsLow (t : Tally) : Type 0 where
  pub looks : t.looks < told_room
  pub given : t.given < told_room
  pub spent : t.spent < told_room

abbrev pub joined : Tally → Tally → Tally
joined t u = record {
  settled = min (t.settled + u.settled) most;
  ended = min (t.ended + u.ended) most;
  looks = t.looks + u.looks;
  given = t.given + u.given;
  spent = t.spent + u.spent;
  lots = t.lots + u.lots;
  parts = t.parts + u.parts;
}

-- How many lots of up to 16 are so many nodes.
abbrev pub lots_of : ℕ → ℕ
lots_of nodes = (nodes + MOST_GRANT) / LOT_NODES

-- A ticket was handed in: so many nodes were settled by it, and so many tickets given for it.
abbrev pub handed_in : Tally → ℕ → ℕ → Tally
handed_in t nodes tickets = record t { settled = min (t.settled + nodes) most; spent = t.spent + 1; lots = t.lots + lots_of nodes; given = t.given + tickets }

abbrev pub given_more : Tally → ℕ → Tally
given_more t tickets = record t { given = t.given + tickets }

abbrev pub ended_more : Tally → Tally
ended_more t = record t { ended = min (t.ended + 1) most }

abbrev pub looked_more : Tally → Tally
looked_more t = record t { looks = t.looks + 1 }

abbrev pub told_of : Tally → Look → Tally
told_of t (look.Work ticket) = given_more t 1
told_of t look.Done = ended_more t
told_of t (look.Changed n) = looked_more t
told_of t look.Same = t

-- A look at a desk is the board's. Where 2 ^ 64 - 1 endings are booked no further one is told, and nothing is new.
abbrev pub IsDeskLook : Core → Core → ℕ → Look → Type 0
IsDeskLook old new seen look.Same = IsDry old × (new ≡ old)
IsDeskLook old new seen (look.Work t) = IsLook old new seen (look.Work t)
IsDeskLook old new seen look.Done = IsLook old new seen look.Done
IsDeskLook old new seen (look.Changed n) = IsLook old new seen (look.Changed n)

-- One where it is so.
abbrev pub one_if : Bool → ℕ
one_if b = if b then 1 else 0

-- How many tickets a settling gave.
abbrev pub tickets_in : Settled → ℕ
tickets_in s = length (option_to_list s.low ++ option_to_list s.high)

-- The counts beside the shares that they stand for.
pub record IsTold (settlings endings settled ended spent lots parts others : ℕ) : Type 0 where
  pub settled_is : settled ≡ min settlings most
  pub ended_is : ended ≡ min endings most
  pub others_are : others ≡ parts
  pub some : 0 < parts
  pub few : settlings ≤ LOT_NODES * lots
  pub least : lots ≤ settlings
  pub few_lots : lots ≤ MOST_LOTS * spent

-- The books are right, nothing was absorbed, and where an ending is booked nothing is issued or can be taken.
pub record IsDesk (opening : Tree) (c : Core) (settlings endings ended : ℕ) : Type 0 where
  pub used_is : c.used ≡ settlings
  pub ended_is : ended ≡ endings
  pub over : 0 < ended → IsOver c
  pub none_added : settled_in c.tree ≡ settled_in opening + c.used
