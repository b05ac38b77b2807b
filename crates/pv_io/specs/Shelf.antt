-- The folders in memory, seen from outside.
use Rattle.std.specs.Prelude.{ℕ, List}
use Rattle.pv_io.specs.Outside.{Content}
use Rattle.pv_io.specs.Scripted.{Turns, content_of}
use Rattle.pv_io.specs.declared.plain_folder.PlainFolder.{PlainFolder}
use Rattle.pv_io.specs.declared.mem_folder.MemFolder.{MemFolder}

-- what a plain folder holds at a name
abbrev pub kept : PlainFolder → List ℕ → Content
kept folder name = content_of folder.files name

-- which calls of a folder fail, and which call is the next
abbrev pub turns_of : MemFolder → Turns
turns_of folder = folder.script

abbrev pub kept_in : MemFolder → List ℕ → Content
kept_in folder name = kept folder.plain name

abbrev pub fetch_faults_of : MemFolder → ℕ
fetch_faults_of folder = folder.fetch_faults

abbrev pub store_faults_of : MemFolder → ℕ
store_faults_of folder = folder.store_faults
