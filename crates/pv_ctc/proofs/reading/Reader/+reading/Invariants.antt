-- A program names one more node than its arguments, so the room for further nodes falls on each way round.
use Rattle.std.proofs.Common.{◌+◌, ◌≤◌, ◌-◌, ◌*◌, ◌++◌, ◌≡◌, length, drop}
use Rattle.pv_ctc.specs.Texts.{parts_text}
use Rattle.std.proofs.Common.{ℕ, [], ◌∷◌}
use Rattle.pv_ctc.specs.Plans.{plans_of, AreFor, nodes_in}
use Rattle.pv_ctc.specs.Symbols.{tokens_at}
use Rattle.pv_ctc.specs.Refusals.{a_program, more_programs}
use Rattle.pv_ctc.specs.Taking.{Took}
use Rattle.pv_ctc.proofs.reading.Reader.+reading.Given as goal

abbrev pub decreases-arguments : goal.decreases-arguments
decreases-arguments l = 3 * (256 - l.self.now.named) + 2

abbrev pub decreases-parts : goal.decreases-parts
decreases-parts l = 3 * (256 - l.self.now.named) + 1

abbrev pub decreases-program : goal.decreases-program
decreases-program l = 3 * (256 - l.self.now.named)

abbrev pub invariant-parts-loop-alloc : goal.invariant-parts-loop-alloc
invariant-parts-loop-alloc l = record {
  named : l.fn.self.named ≤ l.self.named;
  count : l.self.count ≡ l.fn.self.count;
  text : l.self.text.now ≡ l.fn.self.text.now;
  stood : drop l.fn.self.at l.fn.self.text.now ≡ parts_text 0 (plans_of l.parts.items) ++ drop l.self.at l.self.text.now;
  some : 1 ≤ length l.parts.items;
  fits : AreFor l.fn.self.count (plans_of l.parts.items);
  nodes : l.self.named ≡ l.fn.self.named + nodes_in (plans_of l.parts.items);
  took : (k : ℕ) → Took l.fn.self.count (a_program ∷ more_programs k ∷ []) l.fn.self.named (tokens_at l.fn.self.text.now l.fn.self.at) (more_programs (k + 1 - length l.parts.items) ∷ []) l.self.named (tokens_at l.self.text.now l.self.at);
}

abbrev pub decreases-parts-loop-alloc : goal.decreases-parts-loop-alloc
decreases-parts-loop-alloc l = 256 - l.self.named
