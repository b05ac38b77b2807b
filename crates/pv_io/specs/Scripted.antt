-- The sink and the folder in memory, some calls of which fail by a list of their numbers.
use Rattle.std.specs.Prelude.{ℕ, ◌+◌, ◌-◌, ◌^◌, min, List, Option, Some, None, Vec}
use Rattle.std.specs.BTreeMap.{get_by_text, BTreeMap}
use Rattle.std.specs.declared.alloc.Global.{Global}
use Rattle.std.specs.declared.string.String.{String}
use Rattle.pv_io.specs.Outside.{Content, absent, holds}

-- one more, up to the greatest number of 64 bits
abbrev pub one_more : ℕ → ℕ
one_more count = min (count + 1) (2 ^ 64 - 1)

-- named files: each name, and the bytes under it
abbrev pub Files : Type 0
Files = BTreeMap (String Global) (Vec ℕ Global)

-- what is found at a name
abbrev pub found : Option (Vec ℕ Global) → Content
found None = absent
found (Some bytes) = holds bytes.items

-- what the files hold, by the bytes of the name
abbrev pub content_of : Files → List ℕ → Content
content_of files name = found (get_by_text files name)

-- the numbers of the calls that fail, and the number of the next call
pub record Turns : Type 0 where
  pub failing : List ℕ
  pub next : ℕ

-- one call later
abbrev pub advanced : Turns → Turns
advanced turns = record { failing = turns.failing; next = one_more turns.next }

-- a sink that fails by a list
pub record Spool : Type 0 where
  pub bytes : List ℕ
  pub turns : Turns
  pub faults : ℕ
