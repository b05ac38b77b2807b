use Rattle.std.proofs.Common.{◌≡◌, ℕ, take, drop}
use Rattle.std.specs.Io.KnownBytes.{Appends}
use Rattle.pv_io.proofs.real_sink.takes_all.Given as goal

-- so many bytes went to the writer, and the rest is still to come
abbrev pub invariant-loop : goal.invariant-loop
invariant-loop g l =
    (n : ℕ) × (l.rest ≡ drop n l.fn.bytes) × Appends (g.W.Write.contents l.fn.inner) (g.W.Write.contents l.inner) (take n l.fn.bytes)
