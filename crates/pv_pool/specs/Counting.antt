-- The numbers by which a worker tells what it did.
use Rattle.std.specs.Prelude.{◌≡◌, ℕ, ◌+◌, ◌*◌, ◌<◌, ◌≤◌, ◌⊎◌, ◌^◌}
use Rattle.pv_tree.specs.declared.batch.TheConstants.{MOST_BATCH}

-- how many jobs it was given, how many it handed in by working them or giving them back, how often it was told to look again, how often
-- it was told that all is done, and the parts that it has of the right to know the sums
pub record Numbers : Type 0 where
  pub given : ℕ
  pub back : ℕ
  pub looks : ℕ
  pub ends : ℕ
  pub parts : ℕ

-- after a job was worked that gave so many jobs
abbrev pub after_work : ℕ → Numbers → Numbers
after_work count n = record { given = n.given + count; back = n.back + 1; looks = n.looks; ends = n.ends; parts = n.parts }

-- after a job was given back
abbrev pub after_return : Numbers → Numbers
after_return n = record { given = n.given; back = n.back + 1; looks = n.looks; ends = n.ends; parts = n.parts }

-- after so many jobs were given back
abbrev pub after_returns : ℕ → Numbers → Numbers
after_returns count n = record { given = n.given; back = n.back + count; looks = n.looks; ends = n.ends; parts = n.parts }

-- after it was handed a job
abbrev pub after_job : Numbers → Numbers
after_job n = record { given = n.given + 1; back = n.back; looks = n.looks; ends = n.ends; parts = n.parts }

-- after it was told to look again
abbrev pub after_look : Numbers → Numbers
after_look n = record { given = n.given; back = n.back; looks = n.looks + 1; ends = n.ends; parts = n.parts }

-- after it was told that all is done
abbrev pub after_end : Numbers → Numbers
after_end n = record { given = n.given; back = n.back; looks = n.looks; ends = n.ends + 1; parts = n.parts }

-- what a call may count on: given, back and looks are below the bound
abbrev pub AreBelow : ℕ → Numbers → Type 0
AreBelow bound n = (n.given < bound) × (n.back < bound) × (n.looks < bound)

-- a job was found: one of the jobs taken, of which there were x and are y, or one that was handed
pub record Found (old new : Numbers) (x y : ℕ) : Type 0 where
  pub come : new.given + y ≡ old.given + x + 1
  pub given : old.given ≤ new.given
  pub taken : x ≤ y
  pub back : new.back ≡ old.back
  pub looks : new.looks ≡ old.looks
  pub ends : new.ends ≡ old.ends
  pub parts : new.parts ≡ old.parts

-- so many jobs were pushed, of which there were x and are y, or given back
pub record Offered (count : ℕ) (old new : Numbers) (x y : ℕ) : Type 0 where
  pub went : new.back + y ≡ old.back + x + count
  pub back : old.back ≤ new.back
  pub pushed : x ≤ y
  pub given : new.given ≡ old.given
  pub looks : new.looks ≡ old.looks
  pub ends : new.ends ≡ old.ends
  pub parts : new.parts ≡ old.parts

-- a job was worked, and those that it gave were pushed, of which there were x and are y, or given back
pub record Worked (old new : Numbers) (x y : ℕ) : Type 0 where
  pub went : new.back + y + old.given ≡ old.back + x + 1 + new.given
  pub back : old.back + 1 ≤ new.back
  pub pushed : x ≤ y
  pub given : old.given ≤ new.given
  pub few : new.given ≤ old.given + MOST_BATCH
  pub looks : new.looks ≡ old.looks
  pub ends : new.ends ≡ old.ends
  pub parts : new.parts ≡ old.parts

-- in so many rounds, each of which worked a job or was told to look again. x and y are the jobs taken before and after, p and q those pushed
pub record Lasted (rounds : ℕ) (old new : Numbers) (x y p q : ℕ) : Type 0 where
  pub balance : new.given + y + (old.back + p) ≡ old.given + x + (new.back + q)
  pub live : rounds + old.back + old.looks ≤ new.back + new.looks
  pub given : old.given ≤ new.given
  pub few_given : new.given ≤ old.given + 18 * rounds
  pub back : old.back ≤ new.back
  pub few_back : new.back ≤ old.back + 18 * rounds
  pub looks : old.looks ≤ new.looks
  pub few_looks : new.looks ≤ old.looks + rounds
  pub pushed : p ≤ q
  pub few_pushed : q ≤ p + MOST_BATCH * rounds
  pub ends : new.ends ≡ old.ends
  pub parts : new.parts ≡ old.parts

-- a worker ended: it was told that all is done, or it made 2 ^ 63 rounds
abbrev pub IsThrough : Numbers → Numbers → Type 0
IsThrough old new = (old.ends < new.ends) ⊎ (old.back + old.looks + 2 ^ 63 ≤ new.back + new.looks)

pub record Ended (old new : Numbers) (x y p q : ℕ) : Type 0 where
  pub balance : new.given + y + (old.back + p) ≡ old.given + x + (new.back + q)
  pub through : IsThrough old new
  pub given : old.given ≤ new.given
  pub few_given : new.given ≤ old.given + 18 * 2 ^ 63
  pub back : old.back ≤ new.back
  pub few_back : new.back ≤ old.back + 18 * 2 ^ 63
  pub looks : old.looks ≤ new.looks
  pub few_looks : new.looks ≤ old.looks + 2 ^ 63
  pub pushed : p ≤ q
  pub few_pushed : q ≤ p + MOST_BATCH * 2 ^ 63
  pub ends : old.ends ≤ new.ends
  pub parts : new.parts ≡ old.parts

-- what a run of the pool does to a worker's numbers
pub record HasServed (old new : Numbers) : Type 0 where
  pub parts : new.parts ≡ old.parts
  pub given : old.given ≤ new.given
  pub few_given : new.given < old.given + 2 ^ 70
  pub back : old.back ≤ new.back
  pub few_back : new.back < old.back + 2 ^ 70
  pub looks : old.looks ≤ new.looks
  pub few_looks : new.looks < old.looks + 2 ^ 70
  pub ends : old.ends ≤ new.ends
  pub through : IsThrough old new
