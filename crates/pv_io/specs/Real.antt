-- What is seen of the sink and the folder of the machine.
use Rattle.std.specs.Prelude.{◌≡◌, ℕ, List, ◌++◌, take, Option}
use Rattle.std.specs.Io.KnownBytes.{Appends, Consumes}
use Rattle.pv_io.specs.declared.real_sink.RealSink.{RealSink}
use Rattle.pv_io.specs.declared.real_folder.RealFolder.{RealFolder}

-- some first part of the piece went to a writer
abbrev pub AppendsSome : Option (List ℕ) → Option (List ℕ) → List ℕ → Type 0
AppendsSome old new piece = (n : ℕ) × Appends old new (take n piece)

-- bytes that a reader gave went behind those that were there
abbrev pub TakesIn : Option (List ℕ) → Option (List ℕ) → List ℕ → List ℕ → Type 0
TakesIn had left before after = (bytes : List ℕ) × (after ≡ before ++ bytes) × Consumes had left bytes

-- how often a writer has failed
abbrev pub sink_faults : {W : Type 0} → RealSink W → ℕ
sink_faults s = s.faults

abbrev pub writer_of : {W : Type 0} → RealSink W → W
writer_of s = s.inner

-- how often a fetch and a store have failed
abbrev pub real_fetch_faults : RealFolder → ℕ
real_fetch_faults f = f.fetch_faults

abbrev pub real_store_faults : RealFolder → ℕ
real_store_faults f = f.store_faults
