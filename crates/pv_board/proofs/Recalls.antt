-- A recall where nothing is issued.
use Rattle.std.proofs.Common.{◌≡◌, ℕ, ◌+◌, ◌%◌, ◌^◌, ◌<◌, List, [], ◌∷◌, refl, sym, ap, ◌∙◌, arith}
use Rattle.std.proofs.Math.Nat.{mod-eq_of_lt}
use Rattle.pv_board.specs.declared.mark.Mark.{Mark}
use Rattle.pv_board.specs.Marks.{issued, granted}
use Rattle.pv_board.specs.Core.{Core}
use Rattle.pv_board.specs.Events.{IsRecall}

no_marks : (ms : List Mark) → issued ms ≡ 0 → ms ≡ []
no_marks [] e = refl
no_marks (m ∷ ms) e = absurd (omega (arith, e))

pub recall_none : (c : Core) (n : ℕ) → n ≡ issued c.marks → n ≡ 0 → c.steps < 2 ^ 64 → IsRecall c c
recall_none c n count e small =
    let i : issued c.marks ≡ 0 = sym count ∙ e in
    let none : c.marks ≡ [] = no_marks c.marks i in
    let g : granted c.marks ≡ 0 = ap granted none in
    let sum : c.steps ≡ c.steps + issued c.marks = omega (arith, i) in
    record {
      none = none;
      left = omega (arith, i, g);
      steps = sym (mod-eq_of_lt small) ∙ ap (λ (k : ℕ). k % 2 ^ 64) sum;
      rest = refl;
    }
