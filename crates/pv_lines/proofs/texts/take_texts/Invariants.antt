use Rattle.std.proofs.Common.{◌≡◌, ◌<◌, ◌≤◌, ℕ, List, Some, length, get_or}
use Rattle.pv_file.specs.Scribes.{Scribed}
use Rattle.pv_lines.specs.Turns.{AreStill}
use Rattle.pv_lines.proofs.texts.take_texts.Given as goal

abbrev pub invariant-loop-i : goal.invariant-loop-i
invariant-loop-i l = record {
  scribes : length l.scribes ≡ length l.fn.scribes;
  texts : length l.texts ≡ length l.fn.scribes;
  still : AreStill l.fn.scribes l.scribes;
  to_come : (k : ℕ) (d : Scribed) → l.i ≤ k → get_or l.scribes k d ≡ get_or l.fn.scribes k d;
  taken : (k : ℕ) (d : Scribed) (t : List ℕ) → k < l.i → (get_or l.fn.scribes k d).text ≡ Some (get_or l.texts k t);
}
