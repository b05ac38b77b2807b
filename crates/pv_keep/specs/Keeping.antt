-- What a keeper tells of a name, and what its calls do.
use Rattle.std.specs.Prelude.{◌≡◌, ◌≢◌, ℕ, ◌+◌, ◌<◌, ◌≤◌, List, [], length, take}
use Rattle.pv_keep.specs.declared.row.Row.{Row}
use Rattle.pv_keep.specs.Rows.{InPreorder, AreNew, all_placed}

-- what is kept under a name: an identity and rows
pub data Kept : Type 0 where
  untold : Kept
  absent : Kept
  holds : List ℕ → List Row → Kept

-- A name was begun with an identity: it was absent and has no rows now, or it had this identity and stays.
abbrev pub IsBegun : Kept → Kept → List ℕ → Type 0
IsBegun untold after identity = after ≡ untold
IsBegun absent after identity = after ≡ holds identity []
IsBegun (holds kept rows) after identity = (kept ≡ identity) × (after ≡ holds kept rows)

-- a name has another identity
abbrev pub HasOther : Kept → List ℕ → List ℕ → Type 0
HasOther untold identity other = other ≢ identity
HasOther absent identity other = ⊥
HasOther (holds kept rows) identity other = (other ≡ kept) × (kept ≢ identity)

-- nothing is told that has no such name
abbrev pub MayBeThere : Kept → Type 0
MayBeThere untold = Unit {0}
MayBeThere absent = ⊥
MayBeThere (holds kept rows) = Unit {0}

-- the rows that are told are in preorder
abbrev pub IsOrdered : Kept → Type 0
IsOrdered untold = Unit {0}
IsOrdered absent = Unit {0}
IsOrdered (holds kept rows) = InPreorder rows

-- these rows are all that are kept, and no more than the limit
abbrev pub AreAll : Kept → ℕ → List Row → Type 0
AreAll untold limit rows = length rows ≤ limit
AreAll absent limit rows = ⊥
AreAll (holds identity kept) limit rows = (rows ≡ kept) × (length kept ≤ limit)

-- more rows are kept than the limit, and these are the first ones, one more than the limit
abbrev pub AreTooMany : Kept → ℕ → List Row → Type 0
AreTooMany untold limit rows = length rows ≡ limit + 1
AreTooMany absent limit rows = ⊥
AreTooMany (holds identity kept) limit rows = (rows ≡ take (limit + 1) kept) × (limit < length kept)

-- no row is kept at one of these paths, as far as is told
abbrev pub MayBeNew : Kept → List Row → Type 0
MayBeNew untold rows = Unit {0}
MayBeNew absent rows = Unit {0}
MayBeNew (holds identity kept) rows = AreNew kept rows

-- what is told of a name after rows were saved there
abbrev pub with_rows : Kept → List Row → Kept
with_rows untold rows = untold
with_rows absent rows = absent
with_rows (holds identity kept) rows = holds identity (all_placed kept rows)
