-- The keeper in memory, seen from outside.
use Rattle.std.specs.Prelude.{ℕ, List, Option, Some, None}
use Rattle.std.specs.Option.{option_map}
use Rattle.std.specs.BTreeMap.{get_by_text, BTreeMap}
use Rattle.std.specs.declared.alloc.Global.{Global}
use Rattle.std.specs.declared.string.String.{String}
use Rattle.std.specs.Prelude.{string_bytes, Result, Ok, Err}
use Rattle.pv_io.specs.Scripted.{Turns, advanced, one_more}
use Rattle.pv_keep.specs.declared.keeper.BeginRefused.{BeginRefused}
use Rattle.pv_keep.specs.declared.keeper.BeginRefused.TheVariants as begin
use Rattle.pv_keep.specs.declared.keeper.LoadRefused.{LoadRefused}
use Rattle.pv_keep.specs.declared.keeper.LoadRefused.TheVariants as load
use Rattle.pv_io.specs.declared.refused.IoRefused.{IoRefused}
use Rattle.pv_io.specs.declared.refused.IoRefused.TheVariants as keep
use Rattle.pv_keep.specs.declared.mem_keeper.Shelf.{Shelf}
use Rattle.pv_keep.specs.declared.mem_keeper.MemKeeper.{MemKeeper}
use Rattle.pv_keep.specs.Keeping.{Kept, absent, holds}

abbrev pub Shelves : Type 0
Shelves = BTreeMap (String Global) Shelf

-- what is found at a name
abbrev pub found : Option Shelf → Kept
found None = absent
found (Some shelf) = holds shelf.identity shelf.rows

abbrev pub content_of : Shelves → List ℕ → Kept
content_of shelves name = found (get_by_text shelves name)

abbrev pub kept_in : MemKeeper → List ℕ → Kept
kept_in keeper name = content_of keeper.shelves name

abbrev pub name_of : Option (String Global) → Option (List ℕ)
name_of name = option_map string_bytes name

abbrev pub begun_in : MemKeeper → Option (List ℕ)
begun_in keeper = name_of keeper.begun

-- which calls fail, and which call is the next
abbrev pub turns_of : MemKeeper → Turns
turns_of keeper = keeper.script

abbrev pub faults_of : MemKeeper → ℕ
faults_of keeper = keeper.faults

-- a call that finds no memory counts as none
abbrev pub turns_after_begin : {T : Type 0} → Result T BeginRefused → Turns → Turns
turns_after_begin (Ok done) turns = advanced turns
turns_after_begin (Err begin.Failed) turns = advanced turns
turns_after_begin (Err begin.Memory) turns = turns
turns_after_begin (Err (begin.OtherIdentity kept)) turns = advanced turns

abbrev pub faults_after_begin : {T : Type 0} → Result T BeginRefused → ℕ → ℕ
faults_after_begin (Ok done) count = count
faults_after_begin (Err begin.Failed) count = one_more count
faults_after_begin (Err begin.Memory) count = count
faults_after_begin (Err (begin.OtherIdentity kept)) count = count

abbrev pub turns_after_load : {T : Type 0} → Result T LoadRefused → Turns → Turns
turns_after_load (Ok done) turns = advanced turns
turns_after_load (Err load.Failed) turns = advanced turns
turns_after_load (Err load.Memory) turns = turns
turns_after_load (Err load.TooMany) turns = advanced turns

abbrev pub faults_after_load : {T : Type 0} → Result T LoadRefused → ℕ → ℕ
faults_after_load (Ok done) count = count
faults_after_load (Err load.Failed) count = one_more count
faults_after_load (Err load.Memory) count = count
faults_after_load (Err load.TooMany) count = count

abbrev pub turns_after_save : {T : Type 0} → Result T IoRefused → Turns → Turns
turns_after_save (Ok done) turns = advanced turns
turns_after_save (Err keep.Failed) turns = advanced turns
turns_after_save (Err keep.Memory) turns = turns

abbrev pub faults_after_save : {T : Type 0} → Result T IoRefused → ℕ → ℕ
faults_after_save (Ok done) count = count
faults_after_save (Err keep.Failed) count = one_more count
faults_after_save (Err keep.Memory) count = count
