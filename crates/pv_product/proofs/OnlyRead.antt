-- Folders that are only read, and faults that are counted on.
use Rattle.std.proofs.Common.{inl, inr, ℕ, ◌≤◌, ◌∙◌, arith}
use Rattle.pv_io.specs.Outside.{Rose}
use Rattle.pv_rule.specs.Systems.{Files, AreOnlyRead}

pub only_read_on : (a b c : Files) → AreOnlyRead a b → AreOnlyRead b c → AreOnlyRead a c
only_read_on a b c h k = record {
  content = λ name. k.content name ∙ h.content name;
  fetch_faults = let one = h.fetch_faults in let two = k.fetch_faults in omega arith;
  store_faults = k.store_faults ∙ h.store_faults;
}

pub rose_from : (a b c : ℕ) → a ≤ b → Rose b c → Rose a c
rose_from a b c h (inl more) = inl (omega arith)
rose_from a b c h (inr end) = inr end
