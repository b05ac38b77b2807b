-- What a call with a given answer leaves of a sink or a folder that fails by a list.
use Rattle.std.specs.Prelude.{ℕ, List, ◌++◌, Result, Ok, Err}
use Rattle.pv_io.specs.Scripted.{Turns, advanced, one_more, Spool}
use Rattle.pv_io.specs.declared.folder.FetchRefused.{FetchRefused}
use Rattle.pv_io.specs.declared.folder.FetchRefused.TheVariants as fetch
use Rattle.pv_io.specs.declared.refused.IoRefused.{IoRefused}
use Rattle.pv_io.specs.declared.refused.IoRefused.TheVariants as refused

-- a call fails or takes the piece; without memory it counts as none
abbrev pub spool_after : {T : Type 0} → Result T IoRefused → List ℕ → Spool → Spool
spool_after (Ok done) piece s = record { bytes = s.bytes ++ piece; turns = advanced s.turns; faults = s.faults }
spool_after (Err refused.Failed) piece s = record { bytes = s.bytes; turns = advanced s.turns; faults = one_more s.faults }
spool_after (Err refused.Memory) piece s = s

abbrev pub turns_after_fetch : {T : Type 0} → Result T FetchRefused → Turns → Turns
turns_after_fetch (Ok done) turns = advanced turns
turns_after_fetch (Err fetch.Absent) turns = advanced turns
turns_after_fetch (Err fetch.Failed) turns = advanced turns
turns_after_fetch (Err fetch.TooLong) turns = advanced turns
turns_after_fetch (Err fetch.Memory) turns = turns

abbrev pub faults_after_fetch : {T : Type 0} → Result T FetchRefused → ℕ → ℕ
faults_after_fetch (Ok done) count = count
faults_after_fetch (Err fetch.Absent) count = count
faults_after_fetch (Err fetch.Failed) count = one_more count
faults_after_fetch (Err fetch.TooLong) count = count
faults_after_fetch (Err fetch.Memory) count = count

abbrev pub turns_after_store : {T : Type 0} → Result T IoRefused → Turns → Turns
turns_after_store (Ok done) turns = advanced turns
turns_after_store (Err refused.Failed) turns = advanced turns
turns_after_store (Err refused.Memory) turns = turns

abbrev pub faults_after_store : {T : Type 0} → Result T IoRefused → ℕ → ℕ
faults_after_store (Ok done) count = count
faults_after_store (Err refused.Failed) count = one_more count
faults_after_store (Err refused.Memory) count = count
