use Rattle.std.proofs.Common.{◌+◌, ◌≤◌, length}
use Rattle.std.specs.Io.KnownBytes.{Consumes}
use Rattle.pv_io.proofs.real_folder.read_up_to.Given as goal

abbrev pub invariant-loop : goal.invariant-loop
invariant-loop g l =
    (length l.into.items ≤ l.limit + 1)
    × Consumes (g.F.Read.remaining l.fn.file) (g.F.Read.remaining l.file) l.into.items
