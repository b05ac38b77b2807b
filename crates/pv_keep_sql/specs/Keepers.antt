-- What the keepers show, and what the statements answer.
use Rattle.std.specs.Prelude.{◌≡◌, ◌≢◌, ◌+◌, ◌≤◌, ℕ, List, Option, Some, None, length, if◌then◌else◌, string_bytes, option_map}
use Rattle.pv_keep.specs.declared.row.Row.{Row}
use Rattle.pv_keep.specs.declared.keeper.BeginRefused.{BeginRefused}
use Rattle.pv_keep.specs.declared.keeper.BeginRefused.TheVariants.{Failed, Memory, OtherIdentity}
use Rattle.pv_keep_sql.specs.declared.database.Entered.{Entered}
use Rattle.pv_keep_sql.specs.declared.database.Entered.TheVariants.{Same, Other}
use Rattle.pv_keep_sql.specs.declared.database.Standing.{Standing}
use Rattle.pv_keep_sql.specs.declared.database.Standing.TheVariants as standing
use Rattle.pv_keep_sql.specs.declared.database.Extent.{Extent}
use Rattle.pv_keep_sql.specs.declared.database.Extent.TheVariants.{Whole, OneTooMany}
use Rattle.pv_keep_sql.specs.declared.connection_keeper.ConnectionKeeper.{ConnectionKeeper}
use Rattle.pv_keep_sql.specs.declared.file_keeper.FileKeeper.{FileKeeper}

-- an identity that is told as another one is another one
abbrev pub IsOther : List ℕ → Entered → Type 0
IsOther identity Same = Unit {0}
IsOther identity (Other kept) = kept ≢ identity

-- a database that has another identity is told with that one
abbrev pub StandsBeside : List ℕ → Standing → Type 0
StandsBeside identity standing.New = Unit {0}
StandsBeside identity standing.Bare = Unit {0}
StandsBeside identity standing.Same = Unit {0}
StandsBeside identity (standing.Other kept) = kept ≢ identity

abbrev pub IsOtherThan : List ℕ → BeginRefused → Type 0
IsOtherThan identity Failed = Unit {0}
IsOtherThan identity Memory = Unit {0}
IsOtherThan identity (OtherIdentity kept) = kept ≢ identity

-- so many rows were read
abbrev pub IsRead : ℕ → List Row → Extent → Type 0
IsRead limit rows Whole = length rows ≤ limit
IsRead limit rows OneTooMany = length rows ≡ limit + 1

-- the name that a keeper over a connection has begun
abbrev pub begun_in : {S : Type 0} → ConnectionKeeper S → Option (List ℕ)
begun_in k = if k.is_begun then option_map string_bytes k.name else None

abbrev pub faults_in : {S : Type 0} → ConnectionKeeper S → ℕ
faults_in k = k.faults

-- what a keeper may have begun
abbrev begun_by : {S : Type 0} → Option (ConnectionKeeper S) → Option (List ℕ)
begun_by None = None
begun_by (Some k) = begun_in k

-- the name that a keeper over files has begun
abbrev pub begun_in_file : FileKeeper → Option (List ℕ)
begun_in_file k = begun_by k.open

abbrev pub faults_of_files : FileKeeper → ℕ
faults_of_files k = k.faults
